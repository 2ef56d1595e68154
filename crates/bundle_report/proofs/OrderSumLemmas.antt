-- The sum of the elements of events is the same in any order of these events.
use Rattle.std.proofs.Common.{◌≡◌, ℕ, ◌==◌, Bool, true, false, cond, List, [], ◌∷◌, ◌++◌, map, refl, sym, ◌∙◌, ap}
use Rattle.merkle_records.specs.Scheme.{lanes_of, Scheme}
use Rattle.std.specs.List.{flat_map}
use Rattle.std.proofs.lemmas.Grind.{flat_map-append}
use Rattle.std.proofs.lemmas.List.{map-append}
use Rattle.std.proofs.lemmas.List.Elements.{filter-append}
use Rattle.record_text.specs.declared.element.Element.{Element}
use Rattle.multiset_sum.specs.Tally.{Tally}
use Rattle.multiset_sum.specs.Sum.{joined, sum_of}
use Rattle.multiset_sum.proofs.SumLaws.{joined-sum_of, joined-comm, joined-assoc}
use Rattle.stamp_order.specs.InOrder.{put_in_order, in_order}
use Rattle.stamp_order.specs.Merged.{comes_before}
use Rattle.soundness.specs.History.{Event}
use Rattle.soundness.specs.Certified.{event_moment, all_events, order_of, of_epoch, sum_over}

-- the sums of two lists of elements are joined
pub sum_over-append : (scheme : Scheme) (some others : List Element)
    → joined (sum_over scheme some) (sum_over scheme others) ≡ sum_over scheme (some ++ others)
sum_over-append scheme some others =
    let hash : Element → List ℕ = λ (e : Element). lanes_of scheme e in
    joined-sum_of (map hash some) (map hash others) ∙ ap sum_of (sym (map-append hash some others))

module _ (scheme : Scheme) (elements : Event → List Element) (epoch : ℕ) where
  -- the elements of the epoch among events
  abbrev pub among : List Event → List Element
  among events = of_epoch epoch (flat_map elements events)

  -- those of some events and of others
  pub among-append : (some others : List Event) → among (some ++ others) ≡ among some ++ among others
  among-append some others =
      ap (of_epoch epoch) (flat_map-append elements some others)
      ∙ filter-append (λ (e : Element). e.stamp.epoch == epoch) (flat_map elements some) (flat_map elements others)

  -- the sum of them
  abbrev sum_among : List Event → Tally
  sum_among events = sum_over scheme (among events)

  -- the sum of those of one event
  abbrev sum_by : Event → Tally
  sum_by event = sum_over scheme (of_epoch epoch (elements event))

  sum-cons : (event : Event) (events : List Event)
      → sum_among (event ∷ events) ≡ joined (sum_by event) (sum_among events)
  sum-cons event events =
      ap (sum_over scheme)
      (filter-append (λ (e : Element). e.stamp.epoch == epoch) (elements event) (flat_map elements events))
      ∙ sym (sum_over-append scheme (of_epoch epoch (elements event)) (among events))

  -- one sum in front of two
  joined-swap : (s t u : Tally) → joined s (joined t u) ≡ joined t (joined s u)
  joined-swap s t u =
      sym (joined-assoc s t u) ∙ ap (λ (both : Tally). joined both u) (joined-comm s t) ∙ joined-assoc t s u

  sum-put : (before : Event → Event → Bool) (event : Event) (events : List Event)
      → sum_among (put_in_order before event events) ≡ joined (sum_by event) (sum_among events)
  sum-put before event [] = sum-cons event []
  sum-put before event (other ∷ events) = go (before other event) (sum-put before event events)
    where
      go : (b : Bool)
          → sum_among (put_in_order before event events) ≡ joined (sum_by event) (sum_among events)
          → sum_among (cond b (other ∷ put_in_order before event events) (event ∷ other ∷ events))
          ≡ joined (sum_by event) (sum_among (other ∷ events))
      go true further =
          sum-cons other (put_in_order before event events)
          ∙ ap (joined (sum_by other)) further
          ∙ joined-swap (sum_by other) (sum_by event) (sum_among events)
          ∙ ap (joined (sum_by event)) (sym (sum-cons other events))
      go false further = sum-cons event (other ∷ events)

  sum-in_order : (before : Event → Event → Bool) (events : List Event)
      → sum_among (in_order before events) ≡ sum_among events
  sum-in_order before [] = refl
  sum-in_order before (event ∷ events) =
      sum-put before event (in_order before events)
      ∙ ap (joined (sum_by event)) (sum-in_order before events)
      ∙ sym (sum-cons event events)

  -- The sum over the merged order of histories is the sum over one history after another.
  pub sum-order : (histories : List (List Event))
      → sum_among (order_of histories) ≡ sum_among (all_events histories)
  sum-order histories = sum-in_order (comes_before event_moment) (all_events histories)
