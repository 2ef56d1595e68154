use Rattle.soundness.proofs.PendingLemmas.{later_pending, pending_later, later_waiting}
use Rattle.soundness.proofs.laws.elements_added_later_wait.Goals as goal

pub returns : goal.returns
returns c = record {
  pending = λ header histories last element timely. later_pending header histories last timely element;
  added = λ header histories last element timely. pending_later header histories last timely element;
  waiting = later_waiting;
}
