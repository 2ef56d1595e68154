-- Operations in the merged order come epoch by epoch, so written epoch by epoch they are what they were.
use Rattle.std.proofs.Common.{◌≡◌, ◌≢◌, ℕ, zero, suc, ◌+◌, ◌<◌, ◌≤◌, ◌==◌, nat_le, Bool, true, false, cond, List, [], ◌∷◌, ◌++◌, refl, ◌∙◌, ap, subst, arith}
use Rattle.merkle_records.specs.Scheme.{Scheme}
use Rattle.std.specs.List.{flat_map, AllByRecursion}
use Rattle.std.proofs.lemmas.Bool.{ne_eqb, eqb-true, eqb-false}
use Rattle.lamport_clocks.specs.declared.header.Header.{Header}
use Rattle.record_text.specs.declared.operation.Operation.{Operation}
use Rattle.stamp_order.specs.Merged.{comes_before, IsMerged}
use Rattle.stamp_order.proofs.InOrderLaws.{every-weaker, every-filter, every-append, IsInOrder-filter}
use Rattle.stamp_order.proofs.MomentLaws.{comes_before-order}
use Rattle.verifier_commands.specs.Change.{Change, did_add_m, did_evict_m, did_add_b, did_evict_b, did_evict_bm, did_get, did_put, did_next_epoch}
use Rattle.soundness.specs.History.{Event}
use Rattle.soundness.specs.Certified.{event_moment, order_of, order_up_to, operations_by, operations_in, operations_of, epochs_from, certified_count, order_within, certified_operations}
use Rattle.soundness.specs.IsHistory.{IsTimely, AreTimely}
use Rattle.soundness.proofs.HistoryLaws.{IsOfLog, timely-epochs}
use Rattle.soundness.proofs.SplitLaws.{epoch_not_before}
use Rattle.soundness.proofs.OrderLemmas.{order_each, order_sorted}
use Rattle.soundness.proofs.SoundLaws.{all_within}

-- ---- operations epoch by epoch

-- each is of this epoch or of a later one than those before it, or of the same
abbrev pub IsByEpoch : ℕ → List Operation → Type 0
IsByEpoch epoch [] = Unit {0}
IsByEpoch epoch (op ∷ ops) = (epoch ≤ op.stamp.epoch) × IsByEpoch op.stamp.epoch ops

pub by_epoch-lower : (lower epoch : ℕ) (ops : List Operation) → lower ≤ epoch → IsByEpoch epoch ops
    → IsByEpoch lower ops
by_epoch-lower lower epoch [] below by = tt
by_epoch-lower lower epoch (op ∷ ops) below by = (omega (arith, by.0), by.1)

-- none is of an epoch before
pub none_before : (later epoch : ℕ) (ops : List Operation) → epoch < later → IsByEpoch later ops
    → operations_of epoch ops ≡ []
none_before later epoch [] below by = refl
none_before later epoch (op ∷ ops) below by =
    ap (λ (b : Bool). cond b (op ∷ operations_of epoch ops) (operations_of epoch ops))
    (ne_eqb _ _ (λ same. absurd (omega (arith, by.0))))
    ∙ none_before op.stamp.epoch epoch ops (omega (arith, by.0)) by.1

-- those of so many epochs, epoch by epoch
abbrev written : ℕ → ℕ → List Operation → List Operation
written epoch count ops = flat_map (λ each. operations_of each ops) (epochs_from epoch count)

-- an operation of an epoch before leaves no trace
written-later : (count epoch : ℕ) (op : Operation) (ops : List Operation) → op.stamp.epoch < epoch
    → written epoch count (op ∷ ops) ≡ written epoch count ops
written-later zero epoch op ops before = refl
written-later (suc count) epoch op ops before =
    ap (λ (b : Bool). cond b (op ∷ operations_of epoch ops) (operations_of epoch ops) ++ written (suc epoch) count (op ∷ ops))
    (ne_eqb op.stamp.epoch epoch (λ same. absurd (omega (arith, before, same))))
    ∙ ap (λ (rest : List Operation). operations_of epoch ops ++ rest)
    (written-later count (suc epoch) op ops (omega (arith, before)))

-- what holds behind the first of the epochs, holds of all
written-more : (count epoch : ℕ)
    → ((ops : List Operation) → IsByEpoch (suc epoch) ops
    → AllByRecursion (λ op. op.stamp.epoch < epoch + suc count) ops → written (suc epoch) count ops ≡ ops)
    → (ops : List Operation) → IsByEpoch epoch ops → AllByRecursion (λ op. op.stamp.epoch < epoch + suc count) ops
    → written epoch (suc count) ops ≡ ops
written-more count epoch further [] by within = further [] tt tt
written-more count epoch further (op ∷ ops) by within =
    go (op.stamp.epoch == epoch) refl (λ lower. written-more count epoch further ops lower within.1)
  where
    go : (b : Bool) → (op.stamp.epoch == epoch) ≡ b
        → (IsByEpoch epoch ops → written epoch (suc count) ops ≡ ops)
        → cond b (op ∷ operations_of epoch ops) (operations_of epoch ops) ++ written (suc epoch) count (op ∷ ops)
        ≡ op ∷ ops
    go true own behind =
        let same : op.stamp.epoch ≡ epoch = eqb-true _ _ own in
        ap (λ (rest : List Operation). op ∷ (operations_of epoch ops ++ rest))
        (written-later count (suc epoch) op ops (omega (arith, same)))
        ∙ ap (λ (rest : List Operation). op ∷ rest) (behind (subst (λ (e : ℕ). IsByEpoch e ops) same by.1))
    go false other behind =
        let apart : op.stamp.epoch ≢ epoch = eqb-false _ _ other in
        ap (λ (none : List Operation). none ++ written (suc epoch) count (op ∷ ops))
        (none_before op.stamp.epoch epoch ops (omega (arith, apart, by.0)) by.1)
        ∙ further (op ∷ ops) (omega (arith, apart, by.0), by.1) within

-- Operations that come epoch by epoch, all of so many epochs, are what is written.
written-whole : (count epoch : ℕ) (ops : List Operation) → IsByEpoch epoch ops
    → AllByRecursion (λ op. op.stamp.epoch < epoch + count) ops
    → written epoch count ops ≡ ops
written-whole zero epoch [] by within = refl
written-whole zero epoch (op ∷ ops) by within = absurd (omega (arith, by.0, within.0))
written-whole (suc count) epoch ops by within =
    written-more count epoch
    (λ ops by within. written-whole count (suc epoch) ops by
    (every-weaker (λ op. op.stamp.epoch < epoch + suc count) (λ op. op.stamp.epoch < suc epoch + count)
    (λ op below. omega (arith, below)) ops within)) ops by within

-- ---- the operations of events

-- an operation is of its event's epoch
pub by_change : (event : Event) (change : Change) (epoch : ℕ) (ops : List Operation) → epoch ≤ event.at.epoch
    → IsByEpoch event.at.epoch ops → IsByEpoch epoch (operations_by event change ++ ops)
by_change event (did_add_m parent after child) epoch ops above by = by_epoch-lower epoch event.at.epoch ops above by
by_change event (did_evict_m parent after child) epoch ops above by = by_epoch-lower epoch event.at.epoch ops above by
by_change event (did_add_b child element) epoch ops above by = by_epoch-lower epoch event.at.epoch ops above by
by_change event (did_evict_b child element) epoch ops above by = by_epoch-lower epoch event.at.epoch ops above by
by_change event (did_evict_bm parent after child element) epoch ops above by =
    by_epoch-lower epoch event.at.epoch ops above by
by_change event (did_get entry) epoch ops above by = (above, by)
by_change event (did_put before after) epoch ops above by = (above, by)
by_change event (did_next_epoch sealed) epoch ops above by = by_epoch-lower epoch event.at.epoch ops above by

within_change : (end : ℕ) (event : Event) (change : Change) → event.at.epoch < end
    → AllByRecursion (λ op. op.stamp.epoch < end) (operations_by event change)
within_change end event (did_add_m parent after child) below = tt
within_change end event (did_evict_m parent after child) below = tt
within_change end event (did_add_b child element) below = tt
within_change end event (did_evict_b child element) below = tt
within_change end event (did_evict_bm parent after child element) below = tt
within_change end event (did_get entry) below = (below, tt)
within_change end event (did_put before after) below = (below, tt)
within_change end event (did_next_epoch sealed) below = tt

-- the operations of events of epochs before an end are of such epochs
within_events : (end : ℕ) (events : List Event) → AllByRecursion (λ event. event.at.epoch < end) events
    → AllByRecursion (λ op. op.stamp.epoch < end) (operations_in events)
within_events end [] all = tt
within_events end (event ∷ events) all =
    every-append (λ op. op.stamp.epoch < end) (operations_by event event.change) (operations_in events)
    (within_change end event event.change all.0) (within_events end events all.1)

-- the operations of events in the order of their moments come epoch by epoch
sorted_by_epoch : (epoch : ℕ) (events : List Event) → IsMerged event_moment events
    → AllByRecursion (λ event. epoch ≤ event.at.epoch) events
    → IsByEpoch epoch (operations_in events)
sorted_by_epoch epoch [] sorted from = tt
sorted_by_epoch epoch (event ∷ events) sorted from =
    by_change event event.change epoch (operations_in events) from.0
    (sorted_by_epoch event.at.epoch events sorted.1
    (every-weaker (λ later. comes_before event_moment later event ≡ false) (λ later. event.at.epoch ≤ later.at.epoch)
    (λ later after. epoch_not_before (event_moment later) (event_moment event) after) events sorted.0))

-- ---- the merged order

-- all events are of the header's first epoch or of later ones
pub order_from_first : (header : Header) (histories : List (List Event)) → AreTimely header 0 histories
    → AllByRecursion (λ event. header.first ≤ event.at.epoch) (order_of histories)
order_from_first header histories timely =
    order_each (λ event. header.first ≤ event.at.epoch) (IsTimely header)
    (λ number events is. every-weaker (IsOfLog number header) (λ event. header.first ≤ event.at.epoch) (λ event of. of.1)
    events (timely-epochs header number events is)) 0 histories timely

-- The operations of so many epochs, written epoch by epoch, are what they were.
pub within_by_epochs : (header : Header) (histories : List (List Event)) (count : ℕ) → AreTimely header 0 histories
    → let operations = operations_in (order_within header.first count histories) in
    flat_map (λ epoch. operations_of epoch operations) (epochs_from header.first count) ≡ operations
within_by_epochs header histories zero timely = refl
within_by_epochs header histories (suc count) timely =
    let last = header.first + count in
    let order = order_of histories in
    let events = order_up_to last histories in
    written-whole (suc count) header.first (operations_in events)
    (sorted_by_epoch header.first events
    (IsInOrder-filter (comes_before event_moment) (comes_before-order event_moment) (λ event. nat_le event.at.epoch last) order
    (order_sorted histories))
    (every-filter (λ event. header.first ≤ event.at.epoch) (λ event. nat_le event.at.epoch last) order
    (order_from_first header histories timely)))
    (within_events (header.first + suc count) events
    (every-weaker (λ event. event.at.epoch ≤ last) (λ event. event.at.epoch < header.first + suc count)
    (λ event up. omega (arith, up)) events (all_within last order)))

-- So are the certified operations.
pub certified_by_epochs : (scheme : Scheme) (header : Header) (histories : List (List Event)) → AreTimely header 0 histories
    → let operations = certified_operations scheme header.first histories in
    flat_map (λ epoch. operations_of epoch operations)
    (epochs_from header.first (certified_count scheme header.first histories))
    ≡ operations
certified_by_epochs scheme header histories timely =
    within_by_epochs header histories (certified_count scheme header.first histories) timely
