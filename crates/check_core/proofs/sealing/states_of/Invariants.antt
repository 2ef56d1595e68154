use Rattle.std.proofs.Common.{map, take}
use Rattle.seals.specs.Kept.{kept_in}
use Rattle.resumed_runs.specs.Kept.{AreKeptOf}
use Rattle.check_core.proofs.sealing.states_of.Given as goal

-- so much is kept of the runs so far
abbrev pub invariant-loop-fed : goal.invariant-loop-fed
invariant-loop-fed l = AreKeptOf (map (λ fed. fed.run) (take l.fed-index l.runs)) (map kept_in l.states.items)
