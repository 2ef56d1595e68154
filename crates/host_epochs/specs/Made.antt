-- The terms of a making.
use Rattle.std.specs.Prelude.{ℕ, List, replicate}
use Rattle.record_hash.specs.Functions.{DigestFunctions}
use Rattle.host_epochs.specs.declared.making.Making.{Making}
use Rattle.host_epochs.specs.declared.views.Row.{Row}
use Rattle.host_epochs.specs.Plays.{new_row}
use Rattle.host_epochs.specs.Terms.{Terms}

abbrev pub terms_of : {D : Type 0} → (D → DigestFunctions) → Making D → Terms
terms_of functions making = record {
  digest = (functions making.digests.value).digest;
  header = making.header;
  workers = making.workers;
  absent = making.absent;
  more = making.more;
  contents = making.contents.value.items;
}

abbrev pub first_rows : ℕ → List Row
first_rows workers = replicate workers new_row
