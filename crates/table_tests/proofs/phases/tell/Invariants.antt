use Rattle.std.proofs.Common.{◌≡◌, map}
use Rattle.table_tests.specs.Turns.{hand_of}
use Rattle.table_tests.proofs.phases.tell.Given as goal

abbrev pub invariant-loop-turn : goal.invariant-loop-turn
invariant-loop-turn g l = l.hands.items ≡ map hand_of l.yielded
