use Rattle.std.proofs.Common.{drop}
use Rattle.certified_epochs.specs.Turn.{AreFed}
use Rattle.certified_epochs.proofs.certifier.any_starved.Given as goal

-- none of the runs so far is starved: all are fed if those that are left are
abbrev pub invariant-loop-fed : goal.invariant-loop-fed
invariant-loop-fed l = AreFed (drop l.fed-index l.runs) → AreFed l.runs
