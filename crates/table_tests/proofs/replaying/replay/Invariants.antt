use Rattle.table_tests.specs.Ready.{AreOwners}
use Rattle.table_tests.proofs.replaying.replay.Given as goal

abbrev pub invariant-loop-served : goal.invariant-loop-served
invariant-loop-served g l =
    (goal.iterator-loop-served g).can_next l.served-iterator ×
    (goal.iterator-loop-served g).is_finite l.served-iterator ×
    AreOwners l.frontiers l.contents
