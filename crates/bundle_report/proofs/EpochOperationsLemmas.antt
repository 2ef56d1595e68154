-- The operations of an epoch are the same among those of all epochs up to a later one.
use Rattle.std.proofs.Common.{◌≡◌, ◌≢◌, ℕ, zero, suc, ◌+◌, ◌<◌, ◌≤◌, ◌==◌, nat_le, Bool, true, false, cond, List, [], ◌∷◌, ◌++◌, refl, sym, ◌∙◌, ap, arith}
use Rattle.std.proofs.lemmas.Bool.{ne_eqb}
use Rattle.std.proofs.lemmas.Bool.Decides.{nat_tests}
use Rattle.std.proofs.lemmas.List.Elements.{filter-append}
use Rattle.record_text.specs.declared.operation.Operation.{Operation}
use Rattle.stamp_order.specs.Merged.{up_to}
use Rattle.verifier_commands.specs.Change.{Change, did_add_m, did_evict_m, did_add_b, did_evict_b, did_evict_bm, did_get, did_put, did_next_epoch}
use Rattle.soundness.specs.History.{Event}
use Rattle.soundness.specs.Certified.{event_moment, order_of, order_within, operations_by, operations_in, operations_of}

-- an event of another epoch has no operation of this one
none_by : (event : Event) (change : Change) (epoch : ℕ) → event.at.epoch ≢ epoch
    → operations_of epoch (operations_by event change) ≡ []
none_by event (did_add_m parent after child) epoch other = refl
none_by event (did_evict_m parent after child) epoch other = refl
none_by event (did_add_b child element) epoch other = refl
none_by event (did_evict_b child element) epoch other = refl
none_by event (did_evict_bm parent after child element) epoch other = refl
none_by event (did_get entry) epoch other =
    ap (λ (b : Bool). cond b (operations_by event (did_get entry)) []) (ne_eqb _ _ other)
none_by event (did_put before after) epoch other =
    ap (λ (b : Bool). cond b (operations_by event (did_put before after)) []) (ne_eqb _ _ other)
none_by event (did_next_epoch sealed) epoch other = refl

-- the operations of an epoch, of an event and those behind it
operations_of-cons : (epoch : ℕ) (event : Event) (events : List Event)
    → operations_of epoch (operations_in (event ∷ events))
    ≡ operations_of epoch (operations_by event event.change) ++ operations_of epoch (operations_in events)
operations_of-cons epoch event events =
    filter-append (λ (op : Operation). op.stamp.epoch == epoch)
    (operations_by event event.change) (operations_in events)

-- an epoch up to a bound has the same operations where later events are left out
pub operations-up_to : (bound epoch : ℕ) (events : List Event) → epoch ≤ bound
    → operations_of epoch (operations_in (up_to event_moment bound events)) ≡ operations_of epoch (operations_in events)
operations-up_to bound epoch [] within = refl
operations-up_to bound epoch (event ∷ events) within =
    go (nat_le event.at.epoch bound) refl (operations-up_to bound epoch events within)
  where
    kept : List Event
    kept = up_to event_moment bound events

    go : (b : Bool) → nat_le event.at.epoch bound ≡ b
        → operations_of epoch (operations_in kept) ≡ operations_of epoch (operations_in events)
        → operations_of epoch (operations_in (cond b (event ∷ kept) kept))
        ≡ operations_of epoch (operations_in (event ∷ events))
    go true in_bound further =
        operations_of-cons epoch event kept
        ∙ ap (λ (ops : List Operation). operations_of epoch (operations_by event event.change) ++ ops) further
        ∙ sym (operations_of-cons epoch event events)
    go false past further =
        let above : bound < event.at.epoch = grind (arith, nat_tests) in
        further
        ∙ sym (operations_of-cons epoch event events
        ∙ ap (λ (ops : List Operation). ops ++ operations_of epoch (operations_in events))
        (none_by event event.change epoch (λ same. absurd (omega (arith, above, same)))))

-- each of the epochs within has all its operations among those that are certified
pub operations-within : (first count later : ℕ) (histories : List (List Event)) (events : List Event)
    → order_of histories ≡ events
    → first ≤ later → later < first + count
    → operations_of later (operations_in (order_within first count histories))
    ≡ operations_of later (operations_in events)
operations-within first zero later histories events is above below = absurd (omega arith)
operations-within first (suc count) later histories events is above below =
    ap (λ (all : List Event). operations_of later (operations_in (up_to event_moment (first + count) all))) is
    ∙ operations-up_to (first + count) later events (omega arith)
