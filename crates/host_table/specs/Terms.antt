-- What a table of records is made with: the contents of its places, and who works on them. It is a table of `host_epochs` with
-- no further epoch.
use Rattle.std.specs.Prelude.{◌≡◌, ℕ, Bool, List, length, get_or}
use Rattle.lamport_clocks.specs.declared.header.Header.{Header}
use Rattle.lamport_clocks.specs.Reading.{Reading}
use Rattle.merkle_records.specs.Merkle.{Digest}
use Rattle.host_shard.specs.declared.content.Content as code
use Rattle.host_shard.specs.declared.content.Content.TheVariants.{Vacant}
use Rattle.host_epochs.specs.Terms as epochs
pub use Rattle.host_epochs.specs.Terms.{places_each, epoch_in, IsPlaceAmong, IsStampOf, IsStamped, IsMaking}

-- the digest of a value's text, the numbers of the bundle, how many workers there are, whether a get of a key that has no
-- record makes none, and the contents at the making, in the order of the places
pub record Terms : Type 0 where
  pub digest : Digest
  pub header : Header
  pub workers : ℕ
  pub absent : Bool
  pub contents : List code.Content

-- the terms of the table with epochs, into none of which more may be gone
abbrev pub round_of : Terms → epochs.Terms
round_of terms = record {
  digest = terms.digest;
  header = terms.header;
  workers = terms.workers;
  absent = terms.absent;
  more = 0;
  contents = terms.contents;
}

-- what such a table was made with
abbrev pub phase_of : epochs.Terms → Terms
phase_of round = record {
  digest = round.digest;
  header = round.header;
  workers = round.workers;
  absent = round.absent;
  contents = round.contents;
}

abbrev pub place_count : Terms → ℕ
place_count terms = length terms.contents

-- the content of a place at the making
abbrev pub first_at : Terms → ℕ → code.Content
first_at terms place = get_or terms.contents place Vacant

-- the epoch of the phase
abbrev pub phase_epoch : Terms → ℕ
phase_epoch terms = epoch_in terms.contents

-- the key's place: its content owns the key, which is not hot at another place of the shard
abbrev pub IsPlaceOf : Terms → ℕ → ℕ → Type 0
IsPlaceOf terms place key = IsPlaceAmong terms.contents place key

-- a clock of the bundle that stands in the phase
pub record IsClockOf (terms : Terms) (clock : Reading) : Type 0 where
  pub first : clock.first ≡ terms.header.first
  pub end : clock.end ≡ terms.header.end
  pub epoch : clock.at.epoch ≡ phase_epoch terms
