-- The elements that a verifier evicts are of its number, and the stamp of each is above those of all before it.
use Rattle.std.proofs.Common.{◌≡◌, ℕ, suc, List, [], ◌∷◌, ◌++◌, Ok, ap, subst, ◌∙◌, inl, inr, arith}
use Rattle.merkle_records.specs.Scheme.{Scheme}
use Rattle.std.specs.List.{AllByRecursion}
use Rattle.std.specs.Ordering.{is_lt}
use Rattle.lamport_clocks.specs.declared.header.Header.{Header}
use Rattle.lamport_clocks.specs.declared.stamp.Stamp.{Stamp}
use Rattle.lamport_clocks.specs.Stamp.{IsLater}
use Rattle.lamport_clocks.specs.Reading.{Reading}
use Rattle.lamport_clocks.specs.Clock.{opening_reading, sent}
use Rattle.lamport_clocks.proofs.StampLaws.{IsLater-cmp}
use Rattle.lamport_clocks.proofs.ClockLaws.{sent-above, sent-at}
use Rattle.record_text.specs.declared.element.Element.{Element}
use Rattle.log_codec.specs.declared.log_command.LogCommand.{LogCommand}
use Rattle.stamp_order.proofs.InOrderLaws.{every-weaker, every-append}
use Rattle.verifier_commands.specs.Change.{Change, did_add_m, did_evict_m, did_add_b, did_evict_b, did_evict_bm, did_get, did_put, did_next_epoch}
use Rattle.soundness.specs.History.{Event, log_events}
use Rattle.soundness.specs.Certified.{evicted_by}
use Rattle.soundness.specs.Timed.{IsEarlier, evicted_among, IsRising}
use Rattle.soundness.specs.IsHistory.{IsTicking, IsTimely}
use Rattle.verifier_commands.specs.Ticks.{Ticks}
use Rattle.verifier_commands.proofs.TickLaws.{IsUpTo, ticks-up_to}
use Rattle.soundness.proofs.LogHistoryLemmas.{log_timely}

-- The elements that a log evicts are of its verifier.
pub log_own : (scheme : Scheme) (header : Header) (number : ℕ) (commands : List LogCommand)
    → AllByRecursion (λ element. element.verifier ≡ number)
    (evicted_among (log_events scheme header number commands))
log_own scheme header number commands = (log_timely scheme header number commands).own

-- ---- their stamps

later_still : (s t u : Stamp) → IsUpTo s t → IsLater u t → IsLater u s
later_still s t u (inl a) (inl b) = inl (omega arith)
later_still s t u (inl a) (inr b) = inl (omega arith)
later_still s t u (inr a) (inl b) = inl (omega arith)
later_still s t u (inr a) (inr b) = inr (a.0 ∙ b.0, omega arith)

-- each of the elements is stamped above this
abbrev AreAbove : Stamp → List Element → Type 0
AreAbove at elements = AllByRecursion (λ element. IsLater element.stamp at) elements

-- an element that goes is stamped above the clock before
above_ticks : (old new : Reading) (change : Change) → Ticks old new change → AreAbove old.at (evicted_by change)
above_ticks old new (did_add_m parent after child) is = tt
above_ticks old new (did_evict_m parent after child) is = tt
above_ticks old new (did_add_b child element) is = tt
above_ticks old new (did_evict_b child element) is = (sent-above old new element.stamp is, tt)
above_ticks old new (did_evict_bm parent after child element) is = (sent-above old new element.stamp is, tt)
above_ticks old new (did_get entry) is = tt
above_ticks old new (did_put before after) is = tt
above_ticks old new (did_next_epoch sealed) is = tt

above_ticking : (number index : ℕ) (clock : Reading) (events : List Event) → IsTicking number index clock events
    → AreAbove clock.at (evicted_among events)
above_ticking number index clock [] ticks = tt
above_ticking number index clock (event ∷ events) ticks =
    every-append (λ element. IsLater element.stamp clock.at) (evicted_by event.change) (evicted_among events)
    (above_ticks clock ticks.0 event.change ticks.4)
    (every-weaker (λ element. IsLater element.stamp ticks.0.at) (λ element. IsLater element.stamp clock.at)
    (λ element later. later_still clock.at ticks.0.at element.stamp
    (ticks-up_to clock ticks.0 event.change ticks.4) later) (evicted_among events)
    (above_ticking number (suc index) ticks.0 events ticks.5))

-- an element that goes is stamped with the clock, below those that go later
rising_front : (old new : Reading) (element : Element) (elements : List Element) → sent old element.stamp ≡ Ok new
    → AreAbove new.at elements → IsRising elements → IsRising (element ∷ elements)
rising_front old new element elements is above rising = (
  every-weaker (λ later. IsLater later.stamp new.at) (λ later. IsEarlier element.stamp later.stamp)
      (λ later passed. subst (λ (s : Stamp). IsEarlier s later.stamp) (sent-at old new element.stamp is)
      (ap is_lt ((IsLater-cmp new.at later.stamp).0 passed))) elements above,
  rising,
)

rising_ticks : (old new : Reading) (change : Change) (elements : List Element) → Ticks old new change
    → AreAbove new.at elements → IsRising elements → IsRising (evicted_by change ++ elements)
rising_ticks old new (did_add_m parent after child) elements is above rising = rising
rising_ticks old new (did_evict_m parent after child) elements is above rising = rising
rising_ticks old new (did_add_b child element) elements is above rising = rising
rising_ticks old new (did_evict_b child element) elements is above rising =
    rising_front old new element elements is above rising
rising_ticks old new (did_evict_bm parent after child element) elements is above rising =
    rising_front old new element elements is above rising
rising_ticks old new (did_get entry) elements is above rising = rising
rising_ticks old new (did_put before after) elements is above rising = rising
rising_ticks old new (did_next_epoch sealed) elements is above rising = rising

rising_ticking : (number index : ℕ) (clock : Reading) (events : List Event) → IsTicking number index clock events
    → IsRising (evicted_among events)
rising_ticking number index clock [] ticks = tt
rising_ticking number index clock (event ∷ events) ticks =
    rising_ticks clock ticks.0 event.change (evicted_among events) ticks.4
    (above_ticking number (suc index) ticks.0 events ticks.5)
    (rising_ticking number (suc index) ticks.0 events ticks.5)

-- The stamps of the elements that timely events evict rise.
pub timely_rising : (header : Header) (number : ℕ) (events : List Event) → IsTimely header number events
    → IsRising (evicted_among events)
timely_rising header number events timely =
    rising_ticking number 0 (opening_reading header.first header.end) events timely.ticks

-- And so those do that a log evicts.
pub log_rising : (scheme : Scheme) (header : Header) (number : ℕ) (commands : List LogCommand)
    → IsRising (evicted_among (log_events scheme header number commands))
log_rising scheme header number commands =
    timely_rising header number (log_events scheme header number commands) (log_timely scheme header number commands)
