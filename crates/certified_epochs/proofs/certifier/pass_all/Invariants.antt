use Rattle.std.proofs.Common.{◌≡◌, ◌++◌, map, take, drop}
use Rattle.certified_epochs.specs.Turn.{left_fed}
use Rattle.certified_epochs.proofs.certifier.pass_all.Given as goal

-- the runs so far are without the epoch
abbrev pub invariant-loop-fed : goal.invariant-loop-fed
invariant-loop-fed l = l.runs ≡ map (left_fed l.epoch) (take l.fed-index l.fn.runs) ++ drop l.fed-index l.fn.runs
