use Rattle.log_rings.specs.Lanes.{SameReceiver}
use Rattle.thread_tests.proofs.lanes.watch.Given as goal

abbrev pub invariant-loop : goal.invariant-loop
invariant-loop l = SameReceiver l.initial.receiver l.receiver
