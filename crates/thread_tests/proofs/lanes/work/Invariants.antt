use Rattle.log_rings.specs.Lanes.{SameSender}
use Rattle.thread_tests.proofs.lanes.work.Given as goal

abbrev pub invariant-loop-number : goal.invariant-loop-number
invariant-loop-number l = SameSender l.initial.sender l.sender
