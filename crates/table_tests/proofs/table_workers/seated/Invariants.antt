use Rattle.std.proofs.Common.{◌≡◌, map, All}
use Rattle.lamport_clocks.specs.Clock.{opening_reading}
use Rattle.table_tests.specs.Turns.{hand_of, IsAtStart}
use Rattle.table_tests.proofs.table_workers.seated.Given as goal

abbrev pub invariant-loop-hand : goal.invariant-loop-hand
invariant-loop-hand l = record {
  hands : map hand_of l.turns.items ≡ l.yielded;
  start : All (IsAtStart (opening_reading 1 l.end)) l.turns.items;
}
