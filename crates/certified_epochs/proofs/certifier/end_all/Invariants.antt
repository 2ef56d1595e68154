use Rattle.std.proofs.Common.{◌≡◌, ◌++◌, map, take, drop}
use Rattle.certified_epochs.specs.Turn.{ended_fed}
use Rattle.certified_epochs.proofs.certifier.end_all.Given as goal

-- the runs so far have ended, and the others are as they were
abbrev pub invariant-loop-fed : goal.invariant-loop-fed
invariant-loop-fed l = l.runs ≡ map ended_fed (take l.fed-index l.fn.runs) ++ drop l.fed-index l.fn.runs
