use Rattle.std.proofs.Common.{◌≡◌, map}
use Rattle.table_tests.specs.Rounds.{hand_in}
use Rattle.table_tests.proofs.rounds.tell.Given as goal

abbrev pub invariant-loop-worker : goal.invariant-loop-worker
invariant-loop-worker g l = l.hands.items ≡ map hand_in l.yielded
