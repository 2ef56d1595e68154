use Rattle.std.proofs.Common.{◌≡◌, length, take}
use Rattle.verifier_cache.specs.Slots.{empty_slots}
use Rattle.verifier_cache.specs.Listed.{with_listed}
use Rattle.verifier_cache.proofs.slots.SlotCache.of_entries.Given as goal

abbrev pub invariant-loop-one : goal.invariant-loop-one
invariant-loop-one l = record {
  slots : l.cache-inside.slots.items ≡ with_listed (empty_slots l.count) (take l.one-index l.listed);
  count : length l.cache-inside.slots.items ≡ l.count;
}
