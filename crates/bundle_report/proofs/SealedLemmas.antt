-- The epochs that a history seals are those from the header's first on, and what is sealed has no elements any more.
use Rattle.std.proofs.Common.{◌≡◌, ◌⊎◌, ℕ, suc, ◌+◌, ◌<◌, ◌≤◌, ◌==◌, Bool, false, List, [], ◌∷◌, ◌++◌, length, Option, Some, None, Ok, inl, inr, refl, sym, ◌∙◌, ap, subst, append-nil, arith}
use Rattle.merkle_records.specs.Scheme.{Scheme}
use Rattle.std.specs.List.{flat_map}
use Rattle.std.specs.Prelude.{nat_lt, cond}
use Rattle.std.proofs.lemmas.Bool.{cond-false, ne_eqb}
use Rattle.std.proofs.lemmas.Bool.Decides.{nat_tests}
use Rattle.std.proofs.lemmas.Grind.{flat_map-append}
use Rattle.std.proofs.lemmas.List.Elements.{filter-append}
use Rattle.lamport_clocks.specs.declared.stamp.Stamp.{Stamp}
use Rattle.lamport_clocks.specs.declared.header.Header.{Header}
use Rattle.lamport_clocks.specs.Reading.{Reading}
use Rattle.lamport_clocks.specs.Clock.{received, sent, advanced, sealed_by_advancing}
use Rattle.lamport_clocks.proofs.ClockLaws.{received-ok, received-epoch, open_epochs, sent-ok, sent-at, advanced-ok, sealed_epoch}
use Rattle.record_text.specs.declared.element.Element.{Element}
use Rattle.log_codec.specs.declared.log_command.LogCommand.{LogCommand}
use Rattle.verifier_commands.specs.Machine.{opening_machine}
use Rattle.verifier_commands.specs.Change.{Change, did_add_m, did_evict_m, did_add_b, did_evict_b, did_evict_bm, did_get, did_put, did_next_epoch}
use Rattle.soundness.specs.History.{Event, log_events}
use Rattle.soundness.specs.Certified.{added_by, evicted_by, of_epoch, added_in, evicted_in, epochs_in, sealed_by, sealed_count, epochs_from}
use Rattle.verifier_commands.specs.Ticks.{Ticks}
use Rattle.verifier_commands.proofs.TickLaws.{ticks-epoch, ticks-first}
use Rattle.soundness.specs.IsHistory.{IsTicking}
use Rattle.soundness.proofs.HistoryLaws.{log-ticks}

-- ---- the epochs that are sealed

-- the epoch that is sealed next: the one before the clock's, or the first while the clock is in it
abbrev pub IsNext : Reading → ℕ → Type 0
IsNext clock epoch =
    ((clock.first < clock.at.epoch) × (epoch + 1 ≡ clock.at.epoch))
    ⊎ ((clock.first ≡ clock.at.epoch) × (epoch ≡ clock.first))

-- what was sealed: nothing, or this epoch and then the one behind it is next
abbrev pub Seals : Reading → ℕ → List ℕ → Type 0
Seals new epoch sealed = ((sealed ≡ []) × IsNext new epoch) ⊎ ((sealed ≡ epoch ∷ []) × IsNext new (suc epoch))

-- the clock stays in its epoch
seals_same : (old new : Reading) (epoch : ℕ) → new.first ≡ old.first → new.at.epoch ≡ old.at.epoch → IsNext old epoch
    → Seals new epoch []
seals_same old new epoch first same (inl past) = inl (refl, inl (omega arith, omega arith))
seals_same old new epoch first same (inr at) = inl (refl, inr (omega arith, omega arith))

-- the clock turns
seals_turned : (old new : Reading) (epoch : ℕ) (sealed : Option ℕ) → advanced old ≡ Ok (sealed, new) → IsNext old epoch
    → Seals new epoch (epochs_in sealed)
seals_turned old new epoch sealed is (inl past) =
    let turn = advanced-ok old new sealed is in
    let first = ap (λ (r : Reading). r.first) turn.2 in
    let at = ap (λ (r : Reading). r.at.epoch) turn.2 in
    let own : sealed_by_advancing old ≡ Some epoch = (sealed_epoch old epoch).1 (omega (arith, past.0, past.1), past.1) in
    inr (ap epochs_in (turn.1 ∙ own), inl (omega (arith, first, at, past.0), omega (arith, at, past.1)))
seals_turned old new epoch sealed is (inr own) =
    let turn = advanced-ok old new sealed is in
    let first = ap (λ (r : Reading). r.first) turn.2 in
    let at = ap (λ (r : Reading). r.at.epoch) turn.2 in
    let not_past : nat_lt old.first old.at.epoch ≡ false = grind (arith, nat_tests, own.0) in
    let none : sealed_by_advancing old ≡ None = cond-false (nat_lt old.first old.at.epoch) _ _ not_past in
    inl (ap epochs_in (turn.1 ∙ none), inl (omega (arith, first, at, own.0), omega (arith, at, own.0, own.1)))

-- what was sent is of the clock's epoch
sent_epoch : (old new : Reading) (stamp : Stamp) → sent old stamp ≡ Ok new → new.at.epoch ≡ old.at.epoch
sent_epoch old new stamp is = ap (λ (s : Stamp). s.epoch) (sent-at old new stamp is) ∙ (sent-ok old new stamp is).0

-- so it is with any change
seals_change : (old new : Reading) (epoch : ℕ) (change : Change) → Ticks old new change → IsNext old epoch
    → Seals new epoch (sealed_by change)
seals_change old new epoch (did_add_m parent after child) is next =
    seals_same old new epoch (ticks-first old new (did_add_m parent after child) is)
    (ap (λ (r : Reading). r.at.epoch) is) next
seals_change old new epoch (did_evict_m parent after child) is next =
    seals_same old new epoch (ticks-first old new (did_evict_m parent after child) is)
    (ap (λ (r : Reading). r.at.epoch) is) next
seals_change old new epoch (did_add_b child element) is next =
    seals_same old new epoch (ticks-first old new (did_add_b child element) is)
    (received-epoch old new element.stamp is) next
seals_change old new epoch (did_evict_b child element) is next =
    seals_same old new epoch (ticks-first old new (did_evict_b child element) is)
    (sent_epoch old new element.stamp is) next
seals_change old new epoch (did_evict_bm parent after child element) is next =
    seals_same old new epoch (ticks-first old new (did_evict_bm parent after child element) is)
    (sent_epoch old new element.stamp is) next
seals_change old new epoch (did_get entry) is next =
    seals_same old new epoch (ticks-first old new (did_get entry) is)
    (ap (λ (r : Reading). r.at.epoch) is) next
seals_change old new epoch (did_put before after) is next =
    seals_same old new epoch (ticks-first old new (did_put before after) is)
    (ap (λ (r : Reading). r.at.epoch) is) next
seals_change old new epoch (did_next_epoch sealed) is next = seals_turned old new epoch sealed is next

-- the epochs that events seal
abbrev pub sealed_in : List Event → List ℕ
sealed_in events = flat_map (λ event. sealed_by event.change) events

-- What is sealed from an epoch on: it and those behind it, one after another.
pub sealed-from : (number index : ℕ) (clock : Reading) (events : List Event) (epoch : ℕ)
    → IsTicking number index clock events
    → IsNext clock epoch → sealed_in events ≡ epochs_from epoch (sealed_count events)
sealed-from number index clock [] epoch ticks next = refl
sealed-from number index clock (event ∷ events) epoch ticks next =
    go (sealed_by event.change) (seals_change clock ticks.0 epoch event.change ticks.4 next)
    (λ from upcoming. sealed-from number (suc index) ticks.0 events from ticks.5 upcoming)
  where
    IsSealed : List ℕ → Type 0
    IsSealed sealed = sealed ++ sealed_in events ≡ epochs_from epoch (length (sealed ++ sealed_in events))

    go : (sealed : List ℕ) → Seals ticks.0 epoch sealed
        → ((from : ℕ) → IsNext ticks.0 from → sealed_in events ≡ epochs_from from (sealed_count events))
        → IsSealed sealed
    go sealed (inl none) further =
        subst IsSealed (sym none.0) (further epoch none.1)
    go sealed (inr own) further =
        subst IsSealed (sym own.0) (ap (λ (es : List ℕ). epoch ∷ es) (further (suc epoch) own.1))

-- A log seals the epochs from the header's first on.
pub log-sealed : (scheme : Scheme) (header : Header) (number : ℕ) (commands : List LogCommand)
    → sealed_in (log_events scheme header number commands)
    ≡ epochs_from header.first (sealed_count (log_events scheme header number commands))
log-sealed scheme header number commands =
    sealed-from number 0 (opening_machine number header).state.clock _ header.first
    (log-ticks scheme header number commands) (inr (refl, refl))

-- ---- no elements of an epoch that is closed

module _ (clock new : Reading) (epoch : ℕ) (closed : epoch + 1 < clock.at.epoch) where
  not_of : (element : Element) → clock.at.epoch ≤ element.stamp.epoch + 1 → of_epoch epoch (element ∷ []) ≡ []
  not_of element above = ap (λ (b : Bool). cond b (element ∷ []) []) (ne_eqb _ _ (λ same. absurd (omega arith)))

  received_above : (element : Element) → received clock element.stamp ≡ Ok new
      → clock.at.epoch ≤ element.stamp.epoch + 1
  received_above element is = go (open_epochs clock element.stamp.epoch (received-ok clock new element.stamp is).0)
    where
      go : (element.stamp.epoch ≡ clock.at.epoch)
          ⊎ ((clock.first < clock.at.epoch) × (element.stamp.epoch + 1 ≡ clock.at.epoch))
          → clock.at.epoch ≤ element.stamp.epoch + 1
      go (inl own) = omega arith
      go (inr last) = omega arith

  sent_above : (element : Element) → sent clock element.stamp ≡ Ok new → clock.at.epoch ≤ element.stamp.epoch + 1
  sent_above element is = omega (arith, (sent-ok clock new element.stamp is).0)

  none_added : (change : Change) → Ticks clock new change → of_epoch epoch (added_by change) ≡ []
  none_added (did_add_m parent after child) is = refl
  none_added (did_evict_m parent after child) is = refl
  none_added (did_add_b child element) is = not_of element (received_above element is)
  none_added (did_evict_b child element) is = refl
  none_added (did_evict_bm parent after child element) is = refl
  none_added (did_get entry) is = refl
  none_added (did_put before after) is = refl
  none_added (did_next_epoch sealed) is = refl

  none_evicted : (change : Change) → Ticks clock new change → of_epoch epoch (evicted_by change) ≡ []
  none_evicted (did_add_m parent after child) is = refl
  none_evicted (did_evict_m parent after child) is = refl
  none_evicted (did_add_b child element) is = refl
  none_evicted (did_evict_b child element) is = not_of element (sent_above element is)
  none_evicted (did_evict_bm parent after child element) is = not_of element (sent_above element is)
  none_evicted (did_get entry) is = refl
  none_evicted (did_put before after) is = refl
  none_evicted (did_next_epoch sealed) is = refl

-- of two lists without elements of an epoch
none_of_both : (epoch : ℕ) (some others : List Element) → of_epoch epoch some ≡ [] → of_epoch epoch others ≡ []
    → of_epoch epoch (some ++ others) ≡ []
none_of_both epoch some others a b =
    filter-append (λ (e : Element). e.stamp.epoch == epoch) some others
    ∙ ap (λ (es : List Element). es ++ of_epoch epoch others) a ∙ b

-- Nothing of an epoch before the last one is added any more.
pub closed-added : (number index : ℕ) (clock : Reading) (events : List Event) (epoch : ℕ)
    → IsTicking number index clock events
    → epoch + 1 < clock.at.epoch → added_in epoch events ≡ []
closed-added number index clock [] epoch ticks closed = refl
closed-added number index clock (event ∷ events) epoch ticks closed =
    none_of_both epoch (added_by event.change) (flat_map (λ (e : Event). added_by e.change) events)
    (none_added clock ticks.0 epoch closed event.change ticks.4)
    (closed-added number (suc index) ticks.0 events epoch ticks.5
    (omega (arith, closed, ticks-epoch clock ticks.0 event.change ticks.4)))

-- Nor evicted.
pub closed-evicted : (number index : ℕ) (clock : Reading) (events : List Event) (epoch : ℕ)
    → IsTicking number index clock events
    → epoch + 1 < clock.at.epoch → evicted_in epoch events ≡ []
closed-evicted number index clock [] epoch ticks closed = refl
closed-evicted number index clock (event ∷ events) epoch ticks closed =
    none_of_both epoch (evicted_by event.change) (flat_map (λ (e : Event). evicted_by e.change) events)
    (none_evicted clock ticks.0 epoch closed event.change ticks.4)
    (closed-evicted number (suc index) ticks.0 events epoch ticks.5
    (omega (arith, closed, ticks-epoch clock ticks.0 event.change ticks.4)))

-- What follows adds nothing to an epoch of which it has nothing.
pub of_epoch-front : (elements : Event → List Element) (epoch : ℕ) (before events : List Event)
    → of_epoch epoch (flat_map elements events) ≡ []
    → of_epoch epoch (flat_map elements (before ++ events)) ≡ of_epoch epoch (flat_map elements before)
of_epoch-front elements epoch before events none =
    ap (of_epoch epoch) (flat_map-append elements before events)
    ∙ filter-append (λ (e : Element). e.stamp.epoch == epoch) (flat_map elements before) (flat_map elements events)
    ∙ ap (λ (es : List Element). of_epoch epoch (flat_map elements before) ++ es) none
    ∙ append-nil (of_epoch epoch (flat_map elements before))
