use Rattle.std.proofs.Common.{map}
use Rattle.seals.specs.Kept.{kept_in}
use Rattle.seals.proofs.FrontLemmas.{AreSoFar}
use Rattle.seals.proofs.reading.read_runs.Given as goal

-- what is read of the verifiers so far
abbrev pub invariant-loop-number : goal.invariant-loop-number
invariant-loop-number l = AreSoFar l.head.header l.head.certified l.head.taken l.head.header.verifiers l.initial.reader (map kept_in l.runs.items) l.number l.reader
