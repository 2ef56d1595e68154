use Rattle.std.proofs.Common.{◌≡◌, take}
use Rattle.verifier_cache.specs.Listed.{entries_in}
use Rattle.verifier_cache.proofs.cache.Cache.of_entries.Given as goal

abbrev pub invariant-loop-one : goal.invariant-loop-one
invariant-loop-one l = record {
  entries : l.cache.entries ≡ entries_in (take l.one-index l.listed);
  room : l.cache.room ≡ l.room;
}
