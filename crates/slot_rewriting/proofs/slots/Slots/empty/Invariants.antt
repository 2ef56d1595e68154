use Rattle.std.proofs.Common.{◌≡◌, replicate, None}
use Rattle.slot_rewriting.proofs.slots.Slots.empty.Given as goal

abbrev pub invariant-loop : goal.invariant-loop
invariant-loop l = l.paths.items ≡ replicate l.counter None
