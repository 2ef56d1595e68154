use Rattle.std.proofs.Common.{◌≡◌, ◌++◌, drop}
use Rattle.verifier_cache.specs.Listed.{listed_from}
use Rattle.verifier_cache.proofs.slots.SlotCache.listed.Given as goal

-- what is listed so far, and what is to be listed of the slots that are left, are all
abbrev pub invariant-loop-slot : goal.invariant-loop-slot
invariant-loop-slot l = l.listed.items ++ listed_from l.slot (drop l.slot l.self) ≡ listed_from 0 l.self
