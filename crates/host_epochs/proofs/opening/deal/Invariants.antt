use Rattle.std.proofs.Common.{◌≡◌, ◌-◌, ◌≤◌, [], length, vec_capacity, replicate, All}
use Rattle.host_epochs.specs.Calls.{IsNew}
use Rattle.host_epochs.specs.Hands.{IsFree}
use Rattle.host_epochs.specs.Plays.{new_row, rack}
use Rattle.host_epochs.proofs.HandLemmas.{AreNumbered}
use Rattle.host_epochs.proofs.opening.deal.Given as goal

abbrev pub invariant-loop-number : goal.invariant-loop-number
invariant-loop-number g l = record {
  table : l.seat.table_id ≡ l.board.shared.table_id;
  rows : l.seat.me ≡ (rack l.number (replicate (l.workers - l.number) new_row), []);
  room : l.workers ≤ vec_capacity l.hands;
  count : length l.hands.items ≡ l.number;
  numbered : AreNumbered l.hands.items;
  free : All (IsFree l.board.shared.table_id) l.hands.items;
  new : All IsNew l.hands.items;
}
