-- What the clock tells of the elements that come and go holds of each of timely events.
use Rattle.std.proofs.Common.{◌≡◌, ℕ, suc, ◌≤◌, List, [], ◌∷◌, Ok, refl, sym, ◌∙◌, ap, subst, inl, inr, arith}
use Rattle.std.specs.Ordering.{is_lt}
use Rattle.lamport_clocks.specs.declared.header.Header.{Header}
use Rattle.lamport_clocks.specs.declared.stamp.Stamp.{Stamp}
use Rattle.lamport_clocks.specs.Reading.{Reading}
use Rattle.lamport_clocks.specs.Clock.{received, opening_reading}
use Rattle.lamport_clocks.proofs.StampLaws.{IsLater-cmp}
use Rattle.lamport_clocks.proofs.ClockLaws.{open_epochs, received-ok, received-above, sent-at}
use Rattle.record_text.specs.declared.element.Element.{Element}
use Rattle.verifier_commands.specs.Change.{Change, did_add_m, did_evict_m, did_add_b, did_evict_b, did_evict_bm, did_get, did_put, did_next_epoch}
use Rattle.soundness.specs.History.{Event}
use Rattle.soundness.specs.Timed.{IsOfBefore, IsTimed, AreTimed}
use Rattle.soundness.specs.IsHistory.{IsTicking, IsTimely}
use Rattle.verifier_commands.specs.Ticks.{Ticks}
use Rattle.verifier_commands.proofs.TickLaws.{ticks-epoch, ticks-first}

-- ---- the clock

-- this is the clock's first epoch, and it has not fallen behind it
pub record IsFrom (first : ℕ) (clock : Reading) : Type 0 where
  pub begins : clock.first ≡ first
  pub reached : first ≤ clock.at.epoch

-- the clock keeps its first epoch, whatever is done
from_ticks : (first : ℕ) (old new : Reading) (change : Change) → IsFrom first old → Ticks old new change
    → IsFrom first new
from_ticks first old new change from is =
    record {
      begins = ticks-first old new change is ∙ from.begins;
      reached = omega (arith, from.reached, ticks-epoch old new change is);
    }

-- what is taken in was stamped before, in an epoch from the first on
before_received : (first : ℕ) (clock after : Reading) (element : Element) → IsFrom first clock
    → received clock element.stamp ≡ Ok after → IsOfBefore first after.at element
before_received first clock after element from is =
    let less = (IsLater-cmp element.stamp after.at).0 (received-above clock after element.stamp is) in
    let open_epoch = open_epochs clock element.stamp.epoch (received-ok clock after element.stamp is).0 in
    record {
      earlier = ap is_lt less;
      from_first = elim open_epoch [
        | inl same ↦ omega (arith, from.reached, same)
        | inr past ↦ omega (arith, from.begins, past.0, past.1)
      ];
    }

-- what was done is timed by the clock after it
timed_ticks : (first : ℕ) (old new : Reading) (change : Change) → IsFrom first old → Ticks old new change
    → IsTimed first new.at change
timed_ticks first old new (did_add_m parent after child) from is = tt
timed_ticks first old new (did_evict_m parent after child) from is = tt
timed_ticks first old new (did_add_b child element) from is = before_received first old new element from is
timed_ticks first old new (did_evict_b child element) from is = sym (sent-at old new element.stamp is)
timed_ticks first old new (did_evict_bm parent after child element) from is = sym (sent-at old new element.stamp is)
timed_ticks first old new (did_get entry) from is = tt
timed_ticks first old new (did_put before after) from is = tt
timed_ticks first old new (did_next_epoch sealed) from is = tt

-- ---- a history

-- The elements of events are timed where the clock ticks with them.
pub timed_ticking : (first number index : ℕ) (clock : Reading) (events : List Event) → IsFrom first clock
    → IsTicking number index clock events → AreTimed first events
timed_ticking first number index clock [] from ticks = tt
timed_ticking first number index clock (event ∷ events) from ticks = (
  subst (λ (at : Stamp). IsTimed first at event.change) (sym ticks.3)
      (timed_ticks first clock ticks.0 event.change from ticks.4),
  timed_ticking first number (suc index) ticks.0 events
      (from_ticks first clock ticks.0 event.change from ticks.4) ticks.5,
)

-- The elements of timely events are timed.
pub timely_timed : (header : Header) (number : ℕ) (events : List Event) → IsTimely header number events
    → AreTimed header.first events
timely_timed header number events timely =
    timed_ticking header.first number 0 (opening_reading header.first header.end) events
    (record { begins = refl; reached = omega arith }) timely.ticks
