use Rattle.std.proofs.Common.{◌≡◌, ◌++◌, [], length, map, All}
use Rattle.host_epochs.specs.Hands.{row_of, IsFree}
use Rattle.host_epochs.specs.Plays.{rack, rows_in}
use Rattle.host_epochs.proofs.HandLemmas.{AreNumbered}
use Rattle.host_epochs.proofs.closing.gather.Given as goal

abbrev pub invariant-loop-hand : goal.invariant-loop-hand
invariant-loop-hand g l = record {
  table : l.seat.table_id ≡ l.board.shared.table_id;
  seat : l.seat.me ≡ (rack (length l.hands.items) (rows_in l.seat.me.0), []);
  rows : map row_of l.initial.hands.items ≡ map row_of l.hands.items ++ rows_in l.seat.me.0;
  numbered : AreNumbered l.hands.items;
  free : All (IsFree l.board.shared.table_id) l.hands.items;
}

abbrev pub decreases-loop-hand : goal.decreases-loop-hand
decreases-loop-hand g l = goal.left-loop-hand g l
