-- No element is evicted twice: those of one verifier have rising stamps, and those of others another number.
use Rattle.std.proofs.Common.{◌≡◌, ℕ, ◌+◌, ◌≤◌, Bool, true, false, eqb, List, [], ◌∷◌, ◌++◌, if◌then◌else◌, refl, sym, ◌∙◌, ap, subst, inl, inr, arith}
use Rattle.std.specs.List.{AllByRecursion, IsDistinct}
use Rattle.std.specs.Ordering.{is_lt}
use Rattle.std.specs.declared.cmp.Ordering.{Ordering}
use Rattle.std.specs.declared.cmp.Ordering.TheVariants.{Less, Equal, Greater}
use Rattle.std.proofs.lemmas.Bool.{false≢true, true≢false, eq-eqb}
use Rattle.lamport_clocks.specs.declared.header.Header.{Header}
use Rattle.lamport_clocks.specs.declared.stamp.Stamp.{Stamp}
use Rattle.lamport_clocks.specs.Stamp.{stamp_cmp, IsLater}
use Rattle.lamport_clocks.proofs.StampLaws.{IsLater-cmp}
use Rattle.record_text.specs.declared.element.Element.{Element}
use Rattle.stamp_order.specs.Merged.{of_verifier}
use Rattle.stamp_order.proofs.InOrderLaws.{every-weaker}
use Rattle.soundness.specs.History.{Event}
use Rattle.soundness.specs.Certified.{event_moment, evicted_by, order_of}
use Rattle.soundness.specs.Timed.{IsEarlier, evicted_among, IsRising}
use Rattle.soundness.specs.Permutation.{same_element, count_of}
use Rattle.soundness.proofs.PermutationLaws.{same_element-true, same_element-self, one_more}
use Rattle.soundness.proofs.ScheduleLemmas.{count-append, all_behind}
use Rattle.soundness.specs.IsHistory.{IsTimely, AreTimely}
use Rattle.soundness.proofs.HistoryLaws.{IsOfLog, timely-epochs}
use Rattle.soundness.proofs.OrderLemmas.{history_of, order_each, timely_of, part_of_order}
use Rattle.soundness.proofs.RisingLaws.{timely_rising}

-- ---- at most once, and distinct

-- each is counted at most once
abbrev pub AreOnce : List Element → Type 0
AreOnce elements = (x : Element) → count_of x elements ≤ 1

-- what isn't counted is no member
none_same : (x : Element) (ys : List Element) → count_of x ys ≡ 0 → AllByRecursion (λ y. same_element x y ≡ false) ys
none_same x [] none = tt
none_same x (y ∷ ys) none = go (same_element x y) refl (λ rest. none_same x ys rest) none
  where
    go : (b : Bool) → same_element x y ≡ b
        → (count_of x ys ≡ 0 → AllByRecursion (λ y. same_element x y ≡ false) ys) → one_more b (count_of x ys) ≡ 0
        → (same_element x y ≡ false) × AllByRecursion (λ y. same_element x y ≡ false) ys
    go true same further counted = absurd (omega (arith, counted))
    go false apart further counted = (apart, further counted)

once_behind : (b : Bool) (n : ℕ) → one_more b n ≤ 1 → n ≤ 1
once_behind true n once = omega (arith, once)
once_behind false n once = once

-- Where each is counted at most once, they are distinct.
distinct_once : (elements : List Element) → AreOnce elements → IsDistinct same_element elements
unfolding IsDistinct
distinct_once [] once = tt
distinct_once (y ∷ ys) once = (
  none_same y ys (omega (
    arith,
    once y,
    ap (λ (b : Bool). one_more b (count_of y ys)) (same_element-self y),
  )),
  distinct_once ys (λ x. once_behind (same_element x y) (count_of x ys) (once x)),
)

-- ---- one verifier's

-- no stamp is before itself
not_itself : (s : Stamp) → IsEarlier s s → ⊥
not_itself s earlier = go ((IsLater-cmp s s).1 (less (stamp_cmp s s) earlier))
  where
    less : (o : Ordering) → is_lt o ≡ true → o ≡ Less
    less Less is = refl
    less Equal is = absurd (false≢true is)
    less Greater is = absurd (false≢true is)

    go : IsLater s s → ⊥
    go (inl epoch) = omega (arith, epoch)
    go (inr counter) = omega (arith, counter.1)

-- an element is none of those that are stamped above it
none_above : (x : Element) (ys : List Element) → AllByRecursion (λ later. IsEarlier x.stamp later.stamp) ys
    → count_of x ys ≡ 0
none_above x [] above = refl
none_above x (y ∷ ys) above = go (same_element x y) refl (none_above x ys above.1)
  where
    go : (b : Bool) → same_element x y ≡ b → count_of x ys ≡ 0 → one_more b (count_of x ys) ≡ 0
    go true same none =
        absurd (not_itself y.stamp
        (subst (λ (e : Element). IsEarlier e.stamp y.stamp) (same_element-true x y same) above.0))
    go false apart none = none

-- elements with rising stamps are each counted once
rising_once : (elements : List Element) → IsRising elements → AreOnce elements
rising_once [] rising x = omega arith
rising_once (y ∷ ys) rising x = go (same_element x y) refl (rising_once ys rising.1 x)
  where
    go : (b : Bool) → same_element x y ≡ b → count_of x ys ≤ 1 → one_more b (count_of x ys) ≤ 1
    go true same once =
        let is : x ≡ y = same_element-true x y same in
        omega (
          arith,
          none_above x ys
              (subst (λ (e : Element). AllByRecursion (λ later. IsEarlier e.stamp later.stamp) ys) (sym is) rising.0),
        )
    go false apart once = once

timely_once : (header : Header) (number : ℕ) (events : List Event) → IsTimely header number events
    → AreOnce (evicted_among events)
timely_once header number events timely =
    rising_once (evicted_among events) (timely_rising header number events timely)

-- The elements that one verifier evicts are distinct.
pub timely_distinct : (header : Header) (number : ℕ) (events : List Event) → IsTimely header number events
    → IsDistinct same_element (evicted_among events)
timely_distinct header number events timely =
    distinct_once (evicted_among events) (timely_once header number events timely)

-- ---- all verifiers'

-- each event evicts elements of its verifier alone
abbrev AreOwn : List Event → Type 0
AreOwn events =
    AllByRecursion (λ event. AllByRecursion (λ element. element.verifier ≡ event.verifier) (evicted_by event.change)) events

all_front : {X : Type 0} (P : X → Type 0) (xs ys : List X) → AllByRecursion P (xs ++ ys) → AllByRecursion P xs
all_front P [] ys all = tt
all_front P (x ∷ xs) ys all = (all.0, all_front P xs ys all.1)

own_events : (number : ℕ) (header : Header) (events : List Event)
    → AllByRecursion (λ element. element.verifier ≡ number) (evicted_among events)
    → AllByRecursion (IsOfLog number header) events → AreOwn events
own_events number header [] own whose = tt
own_events number header (event ∷ events) own whose = (
  every-weaker (λ element. element.verifier ≡ number) (λ element. element.verifier ≡ event.verifier)
      (λ element is. is ∙ sym whose.0.0) (evicted_by event.change)
      (all_front (λ element. element.verifier ≡ number) (evicted_by event.change) (evicted_among events) own),
  own_events number header events
      (all_behind (λ element. element.verifier ≡ number) (evicted_by event.change) (evicted_among events) own)
      whose.1,
)

-- an element is none of another verifier's
none_other : (x : Element) (verifier : ℕ) (ys : List Element) → eqb verifier x.verifier ≡ false
    → AllByRecursion (λ y. y.verifier ≡ verifier) ys → count_of x ys ≡ 0
none_other x verifier [] other own = refl
none_other x verifier (y ∷ ys) other own = go (same_element x y) refl (none_other x verifier ys other own.1)
  where
    go : (b : Bool) → same_element x y ≡ b → count_of x ys ≡ 0 → one_more b (count_of x ys) ≡ 0
    go true same none =
        absurd (true≢false (sym (eq-eqb verifier x.verifier
        (sym (ap (λ (e : Element). e.verifier) (same_element-true x y same) ∙ own.0))) ∙ other))
    go false apart none = none

-- an element is evicted by its own verifier or not at all
count_own : (x : Element) (events : List Event) → AreOwn events
    → count_of x (evicted_among events) ≡ count_of x (evicted_among (of_verifier event_moment x.verifier events))
count_own x [] own = refl
count_own x (event ∷ events) own = go (eqb event.verifier x.verifier) refl (count_own x events own.1)
  where
    here : List Element
    here = evicted_by event.change

    part : List Event
    part = of_verifier event_moment x.verifier events

    go : (b : Bool) → eqb event.verifier x.verifier ≡ b
        → count_of x (evicted_among events) ≡ count_of x (evicted_among part)
        → count_of x (here ++ evicted_among events) ≡ count_of x (evicted_among (if b then event ∷ part else part))
    go true same further =
        count-append x here (evicted_among events)
        ∙ ap (λ (n : ℕ). count_of x here + n) further
        ∙ sym (count-append x here (evicted_among part))
    go false other further =
        omega (arith, count-append x here (evicted_among events), none_other x event.verifier here other own.0, further)

order_own : (header : Header) (histories : List (List Event)) → AreTimely header 0 histories
    → AreOwn (order_of histories)
order_own header histories timely =
    order_each (λ event. AllByRecursion (λ element. element.verifier ≡ event.verifier) (evicted_by event.change))
    (IsTimely header)
    (λ number events is. own_events number header events is.own (timely-epochs header number events is)) 0 histories timely

-- Each element is evicted at most once.
pub order_once : (header : Header) (histories : List (List Event)) → AreTimely header 0 histories
    → AreOnce (evicted_among (order_of histories))
order_once header histories timely x =
    subst (λ (n : ℕ). n ≤ 1)
    (sym (count_own x (order_of histories) (order_own header histories timely)
    ∙ ap (λ (events : List Event). count_of x (evicted_among events))
    (part_of_order header histories timely x.verifier)))
    (timely_once header x.verifier (history_of 0 histories x.verifier) (timely_of header histories timely x.verifier) x)

-- The elements that all verifiers evict are distinct.
pub order_distinct : (header : Header) (histories : List (List Event)) → AreTimely header 0 histories
    → IsDistinct same_element (evicted_among (order_of histories))
order_distinct header histories timely =
    distinct_once (evicted_among (order_of histories)) (order_once header histories timely)
