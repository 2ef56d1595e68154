-- The elements that wait at the end of the merged order up to an epoch are those that come in later epochs.
use Rattle.std.proofs.Common.{◌≡◌, ℕ, zero, suc, ◌+◌, ◌<◌, ◌≤◌, nat_lt, nat_le, filter, Bool, true, false, List, [], ◌∷◌, ◌++◌, Option, None, append-nil, refl, sym, ◌∙◌, ap, subst, arith}
use Rattle.record_hash.specs.Functions.{DigestFunctions}
use Rattle.std.specs.List.{AllByRecursion}
use Rattle.std.specs.Option.{unwrap_or}
use Rattle.std.proofs.lemmas.Bool.Decides.{nat_tests}
use Rattle.std.proofs.lemmas.List.Elements.{filter-append}
use Rattle.lamport_clocks.specs.declared.header.Header.{Header}
use Rattle.lamport_clocks.specs.declared.stamp.Stamp.{Stamp}
use Rattle.record_text.specs.declared.element.Element.{Element}
use Rattle.record_text.specs.Longest.{longest_of}
use Rattle.merkle_records.specs.Merkle.{GivesDigests}
use Rattle.stamp_order.proofs.InOrderLaws.{every-weaker, every-append, every-filter}
use Rattle.verifier_commands.specs.Change.{Change, did_add_m, did_evict_m, did_add_b, did_evict_b, did_evict_bm, did_get, did_put, did_next_epoch}
use Rattle.soundness.specs.History.{Event}
use Rattle.soundness.specs.Certified.{added_by, evicted_by, added_in, evicted_in, order_of, order_up_to, order_after}
use Rattle.soundness.specs.Timed.{IsTimed, AreTimed, added_among, evicted_among}
use Rattle.soundness.specs.Clash.{none_evicted, first_clash}
use Rattle.soundness.specs.Permutation.{same_element, count_of}
use Rattle.soundness.specs.Scheduled.{IsScheduledBy, IsScheduled, ArePermuted}
use Rattle.soundness.specs.IsHistory.{AreTimely, AreHistories}
use Rattle.soundness.specs.Spot.{waiting, Spots}
use Rattle.soundness.specs.World.{changes_in, pending_after, pending_behind, IsPending, IsBehind}
use Rattle.soundness.proofs.PermutationLaws.{same_element-true, one_more, count_without, count_permuted}
use Rattle.soundness.proofs.ScheduleLemmas.{count_adds, count_evicts, count_in_epoch, all_behind}
use Rattle.soundness.proofs.OrderLemmas.{filter-all, filter-none, are_timely, order_timed, order_splits}
use Rattle.soundness.proofs.SoundLaws.{all_within}
use Rattle.soundness.proofs.WholeLaws.{order_scheduled}
use Rattle.soundness.proofs.EpochLaws.{order_from_first}
use Rattle.soundness.proofs.DistinctLemmas.{order_once}
use Rattle.soundness.proofs.SpotLemmas.{one_spot}

-- ---- what waits behind events

-- what waits behind events is what waited and what went, but for what came
behind_balance : (x : Element) (pending : List Element) (events : List Event) → IsScheduled pending events
    → count_of x (pending_behind pending (changes_in events)) + count_of x (added_among events)
    ≡ count_of x pending + count_of x (evicted_among events)
behind_balance x pending [] scheduled = refl
behind_balance x pending (event ∷ events) scheduled =
    go event.change (λ after. behind_balance x after events) scheduled
  where
    Further : Type 0
    Further =
        (after : List Element) → IsScheduled after events
        → count_of x (pending_behind after (changes_in events)) + count_of x (added_among events)
        ≡ count_of x after + count_of x (evicted_among events)

    came : (element : Element) (b : Bool) → same_element x element ≡ b → (rest : List Element)
        → count_of x pending ≡ one_more b (count_of x rest)
        → count_of x (pending_behind rest (changes_in events)) + count_of x (added_among events)
        ≡ count_of x rest + count_of x (evicted_among events)
        → count_of x (pending_behind rest (changes_in events)) + one_more b (count_of x (added_among events))
        ≡ count_of x pending + count_of x (evicted_among events)
    came element true same rest out further = omega (arith, out, further)
    came element false apart rest out further = omega (arith, out, further)

    went : (now : ℕ) (b : Bool)
        → now + count_of x (added_among events) ≡ one_more b (count_of x pending) + count_of x (evicted_among events)
        → now + count_of x (added_among events) ≡ count_of x pending + one_more b (count_of x (evicted_among events))
    went now true further = omega (arith, further)
    went now false further = further

    Here : Change → List Element → Type 0
    Here change after =
        count_of x (pending_behind after (changes_in events)) + count_of x (added_by change ++ added_among events)
        ≡ count_of x pending + count_of x (evicted_by change ++ evicted_among events)

    go : (change : Change) → Further → IsScheduledBy pending change (λ after. IsScheduled after events)
        → Here change (pending_after pending change)
    go (did_add_m parent after child) further next = further pending next
    go (did_evict_m parent after child) further next = further pending next
    go (did_add_b child element) further next =
        subst (Here (did_add_b child element))
        (sym (ap (λ (rest : Option (List Element)). unwrap_or rest pending) next.1))
        (came element (same_element x element) refl next.0 (count_without x element pending next.0 next.1)
        (further next.0 next.2))
    go (did_evict_b child element) further next =
        went (count_of x (pending_behind (element ∷ pending) (changes_in events))) (same_element x element)
        (further (element ∷ pending) next)
    go (did_evict_bm parent after child element) further next =
        went (count_of x (pending_behind (element ∷ pending) (changes_in events))) (same_element x element)
        (further (element ∷ pending) next)
    go (did_get entry) further next = further pending next
    go (did_put before after) further next = further pending next
    go (did_next_epoch sealed) further next = further pending next

-- ---- the epochs of elements

-- what holds of each of a list holds of what is counted in it
counted_holds : (P : Element → Type 0) (x : Element) (ys : List Element) → AllByRecursion P ys → 1 ≤ count_of x ys → P x
counted_holds P x [] all there = absurd (omega (arith, there))
counted_holds P x (y ∷ ys) all there = go (same_element x y) refl (counted_holds P x ys all.1) there
  where
    go : (b : Bool) → same_element x y ≡ b → (1 ≤ count_of x ys → P x) → 1 ≤ one_more b (count_of x ys) → P x
    go true same further there = subst P (sym (same_element-true x y same)) all.0
    go false apart further there = further there

-- what goes with events is of the epochs of these
evicted_epochs : (P : ℕ → Type 0) (first : ℕ) (events : List Event) → AreTimed first events
    → AllByRecursion (λ event. P event.at.epoch) events
    → AllByRecursion (λ element. P element.stamp.epoch) (evicted_among events)
evicted_epochs P first [] timed all = tt
evicted_epochs P first (event ∷ events) timed all =
    every-append (λ element. P element.stamp.epoch) (evicted_by event.change) (evicted_among events)
    (here event.change timed.0) (evicted_epochs P first events timed.1 all.1)
  where
    stamped : (element : Element) → element.stamp ≡ event.at → P element.stamp.epoch
    stamped element is = subst (λ (s : Stamp). P s.epoch) (sym is) all.0

    here : (change : Change) → IsTimed first event.at change
        → AllByRecursion (λ element. P element.stamp.epoch) (evicted_by change)
    here (did_add_m parent after child) is = tt
    here (did_evict_m parent after child) is = tt
    here (did_add_b child element) is = tt
    here (did_evict_b child element) is = (stamped element is, tt)
    here (did_evict_bm parent after child element) is = (stamped element is, tt)
    here (did_get entry) is = tt
    here (did_put before after) is = tt
    here (did_next_epoch sealed) is = tt

-- what comes with events is of an epoch from the first on
added_epochs : (first : ℕ) (events : List Event) → AreTimed first events
    → AllByRecursion (λ element. first ≤ element.stamp.epoch) (added_among events)
added_epochs first [] timed = tt
added_epochs first (event ∷ events) timed =
    every-append (λ element. first ≤ element.stamp.epoch) (added_by event.change) (added_among events)
    (here event.change timed.0) (added_epochs first events timed.1)
  where
    here : (change : Change) → IsTimed first event.at change
        → AllByRecursion (λ element. first ≤ element.stamp.epoch) (added_by change)
    here (did_add_m parent after child) is = tt
    here (did_evict_m parent after child) is = tt
    here (did_add_b child element) is = (is.from_first, tt)
    here (did_evict_b child element) is = tt
    here (did_evict_bm parent after child element) is = tt
    here (did_get entry) is = tt
    here (did_put before after) is = tt
    here (did_next_epoch sealed) is = tt

-- ---- the merged order, up to an epoch and after it

-- The order is its events up to an epoch, and then those of later ones.
record Parts (last : ℕ) (histories : List (List Event)) : Type 0 where
  whole : order_of histories ≡ order_up_to last histories ++ order_after last histories
  later : AllByRecursion (λ event. last < event.at.epoch) (order_after last histories)

parts : (last : ℕ) (histories : List (List Event)) → Parts last histories
parts last histories = record {
  whole = split.1 ∙ ap (λ (rest : List Event). front ++ rest) (sym same);
  later = subst (AllByRecursion (λ event. last < event.at.epoch)) (sym same) split.2;
}
  where
    front : List Event
    front = order_up_to last histories

    split : (rest : List Event) × (order_of histories ≡ front ++ rest)
        × AllByRecursion (λ event. last < event.at.epoch) rest
    split = order_splits last histories

    is_later : Event → Bool
    is_later event = nat_lt last event.at.epoch

    passed : (event : Event) → last < event.at.epoch → is_later event ≡ true
    passed event past = grind (arith, nat_tests)

    kept_out : (event : Event) → event.at.epoch ≤ last → is_later event ≡ false
    kept_out event within = grind (arith, nat_tests)

    same : order_after last histories ≡ split.0
    same =
        ap (λ (events : List Event). filter is_later events) split.1
        ∙ filter-append is_later front split.0
        ∙ ap (λ (events : List Event). events ++ filter is_later split.0)
        (filter-none is_later front
        (every-weaker (λ event. event.at.epoch ≤ last) (λ event. is_later event ≡ false) kept_out front
        (all_within last (order_of histories))))
        ∙ filter-all is_later split.0
        (every-weaker (λ event. last < event.at.epoch) (λ event. is_later event ≡ true) passed split.0 split.2)

module _ (header : Header) (histories : List (List Event)) (last : ℕ) (timely : AreTimely header 0 histories) where
  abbrev front : List Event
  front = order_up_to last histories

  abbrev back : List Event
  back = order_after last histories

  abbrev pending : List Element
  pending = pending_behind [] (changes_in front)

  -- How often an element of an epoch up to the last was evicted, added and waits.
  record Counts (x : Element) : Type 0 where
    once : count_of x (evicted_among front) ≤ 1
    balance : count_of x pending + count_of x (added_among front) ≡ count_of x (evicted_among front)
    even : count_of x (added_among front) + count_of x (added_among back) ≡ count_of x (evicted_among front)

  back_timed : AreTimed header.first (front ++ back)
  back_timed = subst (AreTimed header.first) (parts last histories).whole (order_timed header histories timely)

  -- nothing of an epoch up to the last goes in later ones
  none_later : (x : Element) → x.stamp.epoch ≤ last → count_of x (evicted_among back) ≡ 0
  none_later x within = go (count_of x (evicted_among back)) refl
    where
      go : (n : ℕ) → count_of x (evicted_among back) ≡ n → n ≡ 0
      go zero is = refl
      go (suc n) is =
          let past = counted_holds (λ element. last < element.stamp.epoch) x (evicted_among back)
          (evicted_epochs (λ epoch. last < epoch) header.first back
          (all_behind (λ event. IsTimed header.first event.at event.change) front back back_timed)
          (parts last histories).later)
          (omega (arith, is)) in
          absurd (omega (arith, past, within))

  counts : ArePermuted header.first last (order_of histories) → (x : Element) → header.first ≤ x.stamp.epoch
      → x.stamp.epoch ≤ last → Counts x
  counts permuted x from within = record {
    once = omega (arith, evicted_once, gone, count_evicts x front back);
    balance = omega (arith, behind_balance x [] front (order_scheduled header histories last timely permuted));
    even = omega (arith, same, gone, count_adds x front back, count_evicts x front back);
  }
    where
      whole : order_of histories ≡ front ++ back
      whole = (parts last histories).whole

      evicted_once : count_of x (evicted_among (front ++ back)) ≤ 1
      evicted_once =
          subst (λ (events : List Event). count_of x (evicted_among events) ≤ 1) whole
          (order_once header histories timely x)

      gone : count_of x (evicted_among back) ≡ 0
      gone = none_later x within

      all_even : count_of x (added_among (order_of histories)) ≡ count_of x (evicted_among (order_of histories))
      all_even =
          sym (count_in_epoch x x.stamp.epoch (added_among (order_of histories)) refl)
          ∙ count_permuted (added_in x.stamp.epoch (order_of histories)) (evicted_in x.stamp.epoch (order_of histories))
          (permuted x.stamp.epoch from within) x
          ∙ count_in_epoch x x.stamp.epoch (evicted_among (order_of histories)) refl

      same : count_of x (added_among (front ++ back)) ≡ count_of x (evicted_among (front ++ back))
      same =
          subst (λ (events : List Event). count_of x (added_among events) ≡ count_of x (evicted_among events)) whole
          all_even

  -- What comes in later epochs waits at the end.
  pub later_pending : (x : Element) → ArePermuted header.first last (order_of histories) → x.stamp.epoch ≤ last
      → 1 ≤ count_of x (added_among back) → IsPending x front
  later_pending x permuted within there = record {
    evicted = omega (arith, there, of.once, of.even);
    not_added = omega (arith, there, of.once, of.even);
    waits = omega (arith, there, of.once, of.even, of.balance);
  }
    where
      from : header.first ≤ x.stamp.epoch
      from =
          counted_holds (λ element. header.first ≤ element.stamp.epoch) x (added_among back)
          (added_epochs header.first back
          (all_behind (λ event. IsTimed header.first event.at event.change) front back back_timed)) there

      of : Counts x
      of = counts permuted x from within

  -- What waits at the end comes in later epochs, once.
  pub pending_later : (x : Element) → ArePermuted header.first last (order_of histories)
      → 1 ≤ count_of x pending → count_of x (added_among back) ≡ 1
  pending_later x permuted there = omega (arith, there, of.once, of.even, of.balance)
    where
      went : 1 ≤ count_of x (evicted_among front)
      went = omega (arith, there, behind_balance x [] front (order_scheduled header histories last timely permuted))

      front_timed : AreTimed header.first front
      front_timed =
          every-filter (λ event. IsTimed header.first event.at event.change) (λ event. nat_le event.at.epoch last)
          (order_of histories) (order_timed header histories timely)

      from : header.first ≤ x.stamp.epoch
      from =
          counted_holds (λ element. header.first ≤ element.stamp.epoch) x (evicted_among front)
          (evicted_epochs (λ epoch. header.first ≤ epoch) header.first front front_timed
          (every-filter (λ event. header.first ≤ event.at.epoch) (λ event. nat_le event.at.epoch last)
          (order_of histories) (order_from_first header histories timely))) went

      within : x.stamp.epoch ≤ last
      within =
          counted_holds (λ element. element.stamp.epoch ≤ last) x (evicted_among front)
          (evicted_epochs (λ epoch. epoch ≤ last) header.first front front_timed
          (all_within last (order_of histories))) went

      of : Counts x
      of = counts permuted x from within

-- And its path's spot waits with it.
pub later_waiting : (functions : DigestFunctions) (header : Header) (histories : List (List Event)) (last : ℕ)
    → GivesDigests functions.digest → AreHistories (longest_of header) functions.digest header 0 histories
    → ArePermuted header.first last (order_of histories)
    → first_clash none_evicted (changes_in (order_up_to last histories)) ≡ None
    → (spots : Spots) × IsBehind functions.digest header (order_up_to last histories) spots
    × ((x : Element) → x.stamp.epoch ≤ last → 1 ≤ count_of x (added_among (order_after last histories)) → spots x.path ≡ waiting x)
later_waiting functions header histories last digests are permuted free =
    let front = order_up_to last histories in
    let timely = are_timely (longest_of header) functions.digest header 0 histories are in
    let stand = one_spot functions header histories last front [] digests are permuted (sym (append-nil front)) free in (
      stand.0,
      stand.1,
      λ x within there. stand.1.waits.each x (omega (arith, (later_pending header histories last timely x permuted within there).waits)),
    )
