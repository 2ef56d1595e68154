-- Where each epoch's added elements are a permutation of its evicted ones, each element that comes was evicted
-- before and waits: a clock is above the stamps that it took in (Lamport 1978).
use Rattle.std.proofs.Common.{◌≡◌, ◌⊎◌, ℕ, zero, suc, ◌+◌, ◌<◌, ◌≤◌, Bool, true, false, List, [], ◌∷◌, ◌++◌, Some, eqb, refl, sym, ◌∙◌, ap, subst, inl, inr, if◌then◌else◌, arith, append_assoc}
use Rattle.std.specs.List.{flat_map, AllByRecursion}
use Rattle.std.specs.Ordering.{is_lt, ordering_then, nat_cmp}
use Rattle.std.specs.declared.cmp.Ordering.{Ordering}
use Rattle.std.specs.declared.cmp.Ordering.TheVariants.{Less, Equal, Greater}
use Rattle.std.proofs.lemmas.Bool.{false≢true, true≢false, eq-eqb}
use Rattle.std.proofs.lemmas.Grind.{flat_map-append}
use Rattle.lamport_clocks.specs.declared.stamp.Stamp.{Stamp}
use Rattle.lamport_clocks.specs.Stamp.{stamp_cmp}
use Rattle.lamport_clocks.proofs.StampLaws.{in_order}
use Rattle.record_text.specs.declared.element.Element.{Element}
use Rattle.stamp_order.specs.InOrder.{IsInOrder}
use Rattle.stamp_order.specs.Merged.{comes_before, IsMerged}
use Rattle.verifier_commands.specs.Change.{Change, did_add_m, did_evict_m, did_add_b, did_evict_b, did_evict_bm, did_get, did_put, did_next_epoch}
use Rattle.soundness.specs.History.{Event}
use Rattle.soundness.specs.Certified.{event_moment, added_by, evicted_by, of_epoch, added_in, evicted_in}
use Rattle.soundness.specs.Permutation.{same_element, count_of, without_one}
use Rattle.soundness.specs.Scheduled.{IsScheduledBy, IsScheduled}
use Rattle.soundness.specs.Timed.{IsEarlier, IsOfBefore, IsTimed}
use Rattle.soundness.proofs.PermutationLaws.{same_element-true, same_element-self, one_more, count_without, without_there}

-- ---- counts

-- how often an element comes and goes among events
abbrev adds : List Event → List Element
adds events = flat_map (λ event. added_by event.change) events

abbrev evicts : List Event → List Element
evicts events = flat_map (λ event. evicted_by event.change) events

pub count-append : (x : Element) (xs ys : List Element) → count_of x (xs ++ ys) ≡ count_of x xs + count_of x ys
count-append x [] ys = omega arith
count-append x (y ∷ xs) ys = go (same_element x y) (count-append x xs ys)
  where
    go : (b : Bool) → count_of x (xs ++ ys) ≡ count_of x xs + count_of x ys → one_more b (count_of x (xs ++ ys)) ≡ one_more b (count_of x xs) + count_of x ys
    go true further = omega (arith, further)
    go false further = further

pub count_adds : (x : Element) (front behind : List Event) → count_of x (adds (front ++ behind)) ≡ count_of x (adds front) + count_of x (adds behind)
count_adds x front behind = ap (count_of x) (flat_map-append (λ (event : Event). added_by event.change) front behind) ∙ count-append x (adds front) (adds behind)

pub count_evicts : (x : Element) (front behind : List Event) → count_of x (evicts (front ++ behind)) ≡ count_of x (evicts front) + count_of x (evicts behind)
count_evicts x front behind = ap (count_of x) (flat_map-append (λ (event : Event). evicted_by event.change) front behind) ∙ count-append x (evicts front) (evicts behind)

-- an element is counted among those of its epoch
pub count_in_epoch : (x : Element) (epoch : ℕ) (xs : List Element) → x.stamp.epoch ≡ epoch → count_of x (of_epoch epoch xs) ≡ count_of x xs
count_in_epoch x epoch [] is = refl
count_in_epoch x epoch (y ∷ xs) is = go (count_in_epoch x epoch xs is) (eqb y.stamp.epoch epoch) refl
  where
    other : (b : Bool) → same_element x y ≡ b → eqb y.stamp.epoch epoch ≡ false → count_of x xs ≡ one_more b (count_of x xs)
    other false apart out = refl
    other true same out = absurd (true≢false (sym (eq-eqb y.stamp.epoch epoch (ap (λ (e : Element). e.stamp.epoch) (sym (same_element-true x y same)) ∙ is)) ∙ out))

    go : count_of x (of_epoch epoch xs) ≡ count_of x xs → (b : Bool) → eqb y.stamp.epoch epoch ≡ b
        → count_of x (if b then y ∷ of_epoch epoch xs else of_epoch epoch xs) ≡ one_more (same_element x y) (count_of x xs)
    go further true within = ap (one_more (same_element x y)) further
    go further false out = further ∙ other (same_element x y) refl out

-- ---- what was stamped before a moment isn't evicted from it on

earlier_then : (a b : Ordering) → is_lt a ≡ true → is_lt (ordering_then a b) ≡ true
earlier_then Less b is = refl
earlier_then Equal b is = absurd (false≢true is)
earlier_then Greater b is = absurd (false≢true is)

-- an event whose clock is earlier comes before
earlier_before : (a b : Event) → IsEarlier a.at b.at → comes_before event_moment a b ≡ true
earlier_before a b is = earlier_then (stamp_cmp a.at b.at) (ordering_then (nat_cmp a.verifier b.verifier) (nat_cmp a.index b.index)) is

-- nor in an event that doesn't come before
none_evicted : (x : Element) (event other : Event) (first : ℕ) → IsEarlier x.stamp event.at → comes_before event_moment other event ≡ false
    → (change : Change) → IsTimed first other.at change → count_of x (evicted_by change) ≡ 0
none_evicted x event other first earlier not_before (did_add_m parent after child) timed = refl
none_evicted x event other first earlier not_before (did_evict_m parent after child) timed = refl
none_evicted x event other first earlier not_before (did_add_b child element) timed = refl
none_evicted x event other first earlier not_before (did_evict_b child element) timed = go (same_element x element) refl
  where
    go : (b : Bool) → same_element x element ≡ b → one_more b 0 ≡ 0
    go false apart = refl
    go true same =
        absurd (true≢false (sym (earlier_before other event
        (subst (λ (s : Stamp). IsEarlier s event.at) (ap (λ (e : Element). e.stamp) (same_element-true x element same) ∙ timed) earlier)) ∙ not_before))
none_evicted x event other first earlier not_before (did_evict_bm parent after child element) timed = go (same_element x element) refl
  where
    go : (b : Bool) → same_element x element ≡ b → one_more b 0 ≡ 0
    go false apart = refl
    go true same =
        absurd (true≢false (sym (earlier_before other event
        (subst (λ (s : Stamp). IsEarlier s event.at) (ap (λ (e : Element). e.stamp) (same_element-true x element same) ∙ timed) earlier)) ∙ not_before))
none_evicted x event other first earlier not_before (did_get entry) timed = refl
none_evicted x event other first earlier not_before (did_put before after) timed = refl
none_evicted x event other first earlier not_before (did_next_epoch sealed) timed = refl

none_later : (x : Element) (event : Event) (first : ℕ) (later : List Event) → IsEarlier x.stamp event.at
    → AllByRecursion (λ other. comes_before event_moment other event ≡ false) later
    → AllByRecursion (λ other. IsTimed first other.at other.change) later
    → count_of x (evicts later) ≡ 0
none_later x event first [] earlier order timed = refl
none_later x event first (other ∷ later) earlier order timed =
    count-append x (evicted_by other.change) (evicts later)
    ∙ omega (arith, none_evicted x event other first earlier order.0 other.change timed.0, none_later x event first later earlier order.1 timed.1)

-- ---- what stands behind in a list

pub all_behind : {X : Type 0} (P : X → Type 0) (xs ys : List X) → AllByRecursion P (xs ++ ys) → AllByRecursion P ys
all_behind P [] ys all = all
all_behind P (x ∷ xs) ys all = all_behind P xs ys all.1

order_behind : {X : Type 0} (before : X → X → Bool) (xs ys : List X) → IsInOrder before (xs ++ ys) → IsInOrder before ys
order_behind before [] ys order = order
order_behind before (x ∷ xs) ys order = order_behind before xs ys order.1

-- an earlier stamp is of no later epoch
epoch_within : (s t : Stamp) → IsEarlier s t → s.epoch ≤ t.epoch
epoch_within s t earlier = go (in_order s.epoch t.epoch s.counter t.counter (less (stamp_cmp s t) earlier))
  where
    less : (o : Ordering) → is_lt o ≡ true → o ≡ Less
    less Less is = refl
    less Equal is = absurd (false≢true is)
    less Greater is = absurd (false≢true is)

    go : (s.epoch < t.epoch) ⊎ ((s.epoch ≡ t.epoch) × (s.counter < t.counter)) → s.epoch ≤ t.epoch
    go (inl below) = omega (arith, below)
    go (inr same) = omega (arith, same.0)

-- ---- the schedule

-- Of each epoch from the first up to this one, each element is added as often as it is evicted.
abbrev pub AreEven : ℕ → ℕ → List Event → Type 0
AreEven first last events = (epoch : ℕ) → first ≤ epoch → epoch ≤ last → (x : Element) → count_of x (added_in epoch events) ≡ count_of x (evicted_in epoch events)

-- what waits is what went and hasn't come back
abbrev IsBalance : List Element → List Event → Type 0
IsBalance pending front = (x : Element) → count_of x pending + count_of x (adds front) ≡ count_of x (evicts front)

-- An element that comes at an event waits.
waits_there : (first last : ℕ) (front : List Event) (event : Event) (behind : List Event) (pending : List Element) (element : Element)
    → event.at.epoch ≤ last
    → IsMerged event_moment (front ++ event ∷ behind) → AllByRecursion (λ other. IsTimed first other.at other.change) (front ++ event ∷ behind)
    → AreEven first last (front ++ event ∷ behind) → IsBalance pending front
    → IsOfBefore first event.at element → added_by event.change ≡ element ∷ [] → evicted_by event.change ≡ []
    → (rest : List Element) × (without_one element pending ≡ Some rest)
waits_there first last front event behind pending element within order timed even balance before adds_it evicts_none =
    go (count_of element pending) refl
  where
    whole : List Event
    whole = front ++ event ∷ behind

    here_order : IsInOrder (comes_before event_moment) (event ∷ behind)
    here_order = order_behind (comes_before event_moment) front (event ∷ behind) order

    here_timed : AllByRecursion (λ other. IsTimed first other.at other.change) (event ∷ behind)
    here_timed = all_behind (λ other. IsTimed first other.at other.change) front (event ∷ behind) timed

    same : count_of element (adds whole) ≡ count_of element (evicts whole)
    same =
        sym (count_in_epoch element element.stamp.epoch (adds whole) refl)
        ∙ even element.stamp.epoch before.from_first (omega (arith, epoch_within element.stamp event.at before.earlier, within)) element
        ∙ count_in_epoch element element.stamp.epoch (evicts whole) refl

    evicted_here : count_of element (evicts (event ∷ behind)) ≡ 0
    evicted_here =
        ap (λ (l : List Element). count_of element (l ++ evicts behind)) evicts_none
        ∙ none_later element event first behind before.earlier here_order.0 here_timed.1

    added_here : count_of element (adds (event ∷ behind)) ≡ suc (count_of element (adds behind))
    added_here =
        ap (λ (l : List Element). count_of element (l ++ adds behind)) adds_it
        ∙ ap (λ (b : Bool). one_more b (count_of element (adds behind))) (same_element-self element)

    go : (n : ℕ) → count_of element pending ≡ n → (rest : List Element) × (without_one element pending ≡ Some rest)
    go (suc n) is = without_there element pending n is
    go zero is =
        absurd (omega (arith, is, balance element, same, evicted_here, added_here, count_adds element front (event ∷ behind), count_evicts element front (event ∷ behind)))

-- what waits behind an event
balance_added : (pending rest : List Element) (front : List Event) (event : Event) (element : Element) → IsBalance pending front
    → without_one element pending ≡ Some rest → added_by event.change ≡ element ∷ [] → evicted_by event.change ≡ [] → IsBalance rest (front ++ event ∷ [])
balance_added pending rest front event element balance out adds_it evicts_none x =
    go (same_element x element) refl
  where
    added : (b : Bool) → same_element x element ≡ b → count_of x (adds (event ∷ [])) ≡ one_more b 0
    added b is = ap (λ (l : List Element). count_of x (l ++ [])) adds_it ∙ ap (λ (c : Bool). one_more c 0) is

    evicted : count_of x (evicts (event ∷ [])) ≡ 0
    evicted = ap (λ (l : List Element). count_of x (l ++ [])) evicts_none

    go : (b : Bool) → same_element x element ≡ b → count_of x rest + count_of x (adds (front ++ event ∷ [])) ≡ count_of x (evicts (front ++ event ∷ []))
    go true is =
        omega (
          arith,
          balance x,
          added true is,
          evicted,
          count_adds x front (event ∷ []),
          count_evicts x front (event ∷ []),
          count_without x element pending rest out ∙ ap (λ (c : Bool). one_more c (count_of x rest)) is,
        )
    go false is =
        omega (
          arith,
          balance x,
          added false is,
          evicted,
          count_adds x front (event ∷ []),
          count_evicts x front (event ∷ []),
          count_without x element pending rest out ∙ ap (λ (c : Bool). one_more c (count_of x rest)) is,
        )

balance_evicted : (pending : List Element) (front : List Event) (event : Event) (element : Element) → IsBalance pending front
    → added_by event.change ≡ [] → evicted_by event.change ≡ element ∷ [] → IsBalance (element ∷ pending) (front ++ event ∷ [])
balance_evicted pending front event element balance adds_none evicts_it x = go (same_element x element) refl
  where
    evicted : (b : Bool) → same_element x element ≡ b → count_of x (evicts (event ∷ [])) ≡ one_more b 0
    evicted b is = ap (λ (l : List Element). count_of x (l ++ [])) evicts_it ∙ ap (λ (c : Bool). one_more c 0) is

    added : count_of x (adds (event ∷ [])) ≡ 0
    added = ap (λ (l : List Element). count_of x (l ++ [])) adds_none

    counted : (b : Bool) → same_element x element ≡ b → count_of x (element ∷ pending) ≡ one_more b (count_of x pending)
    counted b is = ap (λ (c : Bool). one_more c (count_of x pending)) is

    go : (b : Bool) → same_element x element ≡ b → count_of x (element ∷ pending) + count_of x (adds (front ++ event ∷ [])) ≡ count_of x (evicts (front ++ event ∷ []))
    go true is =
        omega (arith, balance x, added, evicted true is, counted true is, count_adds x front (event ∷ []), count_evicts x front (event ∷ []))
    go false is =
        omega (arith, balance x, added, evicted false is, counted false is, count_adds x front (event ∷ []), count_evicts x front (event ∷ []))

balance_same : (pending : List Element) (front : List Event) (event : Event) → IsBalance pending front
    → added_by event.change ≡ [] → evicted_by event.change ≡ [] → IsBalance pending (front ++ event ∷ [])
balance_same pending front event balance adds_none evicts_none x =
    omega (
      arith,
      balance x,
      count_adds x front (event ∷ []),
      count_evicts x front (event ∷ []),
      ap (λ (l : List Element). count_of x (l ++ [])) adds_none,
      ap (λ (l : List Element). count_of x (l ++ [])) evicts_none,
    )

-- From a front of the events on: what waits behind it goes on as scheduled.
scheduled_from : (first last : ℕ) (front here later : List Event) (pending : List Element)
    → AllByRecursion (λ event. event.at.epoch ≤ last) here
    → IsMerged event_moment (front ++ (here ++ later)) → AllByRecursion (λ event. IsTimed first event.at event.change) (front ++ (here ++ later))
    → AreEven first last (front ++ (here ++ later)) → IsBalance pending front
    → IsScheduled pending here
scheduled_from first last front [] later pending within order timed even balance = tt
scheduled_from first last front (event ∷ here) later pending within order timed even balance =
    go (λ after balance.
    scheduled_from first last (front ++ event ∷ []) here later after within.1
    (subst (λ (l : List Event). IsMerged event_moment l) regroup order)
    (subst (λ (l : List Event). AllByRecursion (λ event. IsTimed first event.at event.change) l) regroup timed)
    (subst (λ (l : List Event). AreEven first last l) regroup even) balance)
    event.change refl (all_behind (λ event. IsTimed first event.at event.change) front (event ∷ (here ++ later)) timed).0
  where
    regroup : front ++ (event ∷ (here ++ later)) ≡ (front ++ event ∷ []) ++ (here ++ later)
    regroup = sym (append_assoc front (event ∷ []) (here ++ later))

    go : ((after : List Element) → IsBalance after (front ++ event ∷ []) → IsScheduled after here) → (change : Change) → event.change ≡ change → IsTimed first event.at change
        → IsScheduledBy pending change (λ after. IsScheduled after here)
    go further (did_add_m parent after child) is here_timed = further pending (balance_same pending front event balance (ap added_by is) (ap evicted_by is))
    go further (did_evict_m parent after child) is here_timed = further pending (balance_same pending front event balance (ap added_by is) (ap evicted_by is))
    go further (did_add_b child element) is here_timed =
        let there = waits_there first last front event (here ++ later) pending element within.0 order timed even balance here_timed (ap added_by is) (ap evicted_by is) in
        (there.0, there.1, further there.0 (balance_added pending there.0 front event element balance there.1 (ap added_by is) (ap evicted_by is)))
    go further (did_evict_b child element) is here_timed = further (element ∷ pending) (balance_evicted pending front event element balance (ap added_by is) (ap evicted_by is))
    go further (did_evict_bm parent after child element) is here_timed = further (element ∷ pending) (balance_evicted pending front event element balance (ap added_by is) (ap evicted_by is))
    go further (did_get entry) is here_timed = further pending (balance_same pending front event balance (ap added_by is) (ap evicted_by is))
    go further (did_put before after) is here_timed = further pending (balance_same pending front event balance (ap added_by is) (ap evicted_by is))
    go further (did_next_epoch sealed) is here_timed = further pending (balance_same pending front event balance (ap added_by is) (ap evicted_by is))

-- Events in order, up to an epoch up to which each epoch is even, are scheduled.
pub scheduled : (first last : ℕ) (here later : List Event)
    → AllByRecursion (λ event. event.at.epoch ≤ last) here
    → IsMerged event_moment (here ++ later) → AllByRecursion (λ event. IsTimed first event.at event.change) (here ++ later)
    → AreEven first last (here ++ later)
    → IsScheduled [] here
scheduled first last here later within order timed even =
    scheduled_from first last [] here later [] within order timed even (λ x. refl)
