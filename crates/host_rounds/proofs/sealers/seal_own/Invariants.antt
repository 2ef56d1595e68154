use Rattle.host_rounds.proofs.DealingLemmas.{HandsIn}
use Rattle.host_rounds.proofs.ChangedLemmas.{Changed}
use Rattle.host_rounds.proofs.sealers.seal_own.Given as goal

-- what the run has of the epochs so far is handed in
abbrev pub invariant-loop-index : goal.invariant-loop-index
invariant-loop-index g l = Changed (HandsIn l.books l.number l.run) l.index l.initial.passes l.passes
