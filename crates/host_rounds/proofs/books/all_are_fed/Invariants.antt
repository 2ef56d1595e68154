use Rattle.std.proofs.Common.{drop}
use Rattle.certified_epochs.specs.Turn.{AreFed}
use Rattle.host_rounds.proofs.books.all_are_fed.Given as goal

-- memory was wanting for none so far: for none at all if for none of those that are left
abbrev pub invariant-loop-fed : goal.invariant-loop-fed
invariant-loop-fed l = AreFed (drop l.fed-index l.runs) → AreFed l.runs
