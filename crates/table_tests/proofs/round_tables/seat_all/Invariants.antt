use Rattle.std.proofs.Common.{◌≡◌, map, All}
use Rattle.lamport_clocks.specs.Clock.{opening_reading}
use Rattle.table_tests.specs.Rounds.{hand_in, IsNewWorker}
use Rattle.table_tests.proofs.round_tables.seat_all.Given as goal

abbrev pub invariant-loop-hand : goal.invariant-loop-hand
invariant-loop-hand l = record {
  hands : map hand_in l.list.items ≡ l.yielded;
  new : All (IsNewWorker (opening_reading 1 l.end)) l.list.items;
}
