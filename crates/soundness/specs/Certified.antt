-- Which epochs are certified, and with which operations, by the histories of all logs.
use Rattle.std.specs.Prelude.{ℕ, zero, suc, ◌+◌, ◌==◌, nat_lt, ◌&&◌, Bool, Option, Some, None, List, [], ◌∷◌, length, map, filter, if◌then◌else◌, min}
use Rattle.std.specs.List.{flat_map}
use Rattle.record_text.specs.declared.element.Element.{Element}
use Rattle.record_text.specs.declared.operation.Operation.{Operation}
use Rattle.merkle_records.specs.Scheme.{Scheme, lanes_of}
use Rattle.multiset_sum.specs.Tally.{Tally}
use Rattle.multiset_sum.specs.Sum.{sum_of}
use Rattle.stamp_order.specs.declared.moment.Moment.{Moment}
use Rattle.stamp_order.specs.Merged.{merged, up_to}
use Rattle.record_text.specs.Same.{same_bytes}
use Rattle.verifier_commands.specs.Change.{Change, did_add_m, did_evict_m, did_add_b, did_evict_b, did_evict_bm, did_get, did_put, did_next_epoch}
pub use Rattle.verifier_commands.specs.Event.{operation_at, operations_by}
use Rattle.soundness.specs.History.{Event}

-- ---- the merged order

-- when an event was
abbrev pub event_moment : Event → Moment
event_moment event = record { at = event.at; verifier = event.verifier; index = event.index }

-- the events of all histories, one history after another
abbrev pub all_events : List (List Event) → List Event
all_events histories = flat_map (λ history. history) histories

-- the events of all histories in the one order of their moments
abbrev pub order_of : List (List Event) → List Event
order_of histories = merged event_moment (all_events histories)

-- the same of the events in epochs up to this one
abbrev pub order_up_to : ℕ → List (List Event) → List Event
order_up_to epoch histories = up_to event_moment epoch (order_of histories)

-- and of those in later epochs
abbrev pub order_after : ℕ → List (List Event) → List Event
order_after epoch histories = filter (λ event. nat_lt epoch event.at.epoch) (order_of histories)

-- ---- operations

-- the operations among events
abbrev pub operations_in : List Event → List Operation
operations_in events = flat_map (λ event. operations_by event event.change) events

-- the operations of an epoch
abbrev pub operations_of : ℕ → List Operation → List Operation
operations_of epoch operations = filter (λ operation. operation.stamp.epoch == epoch) operations

-- ---- elements (Blum et al. 1994)

abbrev pub added_by : Change → List Element
added_by (did_add_m parent after child) = []
added_by (did_evict_m parent after child) = []
added_by (did_add_b child element) = element ∷ []
added_by (did_evict_b child element) = []
added_by (did_evict_bm parent after child element) = []
added_by (did_get entry) = []
added_by (did_put before after) = []
added_by (did_next_epoch sealed) = []

abbrev pub evicted_by : Change → List Element
evicted_by (did_add_m parent after child) = []
evicted_by (did_evict_m parent after child) = []
evicted_by (did_add_b child element) = []
evicted_by (did_evict_b child element) = element ∷ []
evicted_by (did_evict_bm parent after child element) = element ∷ []
evicted_by (did_get entry) = []
evicted_by (did_put before after) = []
evicted_by (did_next_epoch sealed) = []

-- the elements of an epoch
abbrev pub of_epoch : ℕ → List Element → List Element
of_epoch epoch elements = filter (λ element. element.stamp.epoch == epoch) elements

-- the elements of an epoch that were added
abbrev pub added_in : ℕ → List Event → List Element
added_in epoch events = of_epoch epoch (flat_map (λ event. added_by event.change) events)

-- the elements of an epoch that were evicted
abbrev pub evicted_in : ℕ → List Event → List Element
evicted_in epoch events = of_epoch epoch (flat_map (λ event. evicted_by event.change) events)

-- the sum of elements: of each lane, and their number
abbrev pub sum_over : Scheme → List Element → Tally
sum_over scheme elements = sum_of (map (lanes_of scheme) elements)

-- two sums are equal, in each lane and in the count
abbrev pub same_sum : Tally → Tally → Bool
same_sum a b = same_bytes a.lanes b.lanes && a.count == b.count

-- ---- certified epochs

abbrev pub epochs_in : Option ℕ → List ℕ
epochs_in None = []
epochs_in (Some epoch) = epoch ∷ []

-- the epoch that a change seals, if it seals one
abbrev pub sealed_by : Change → List ℕ
sealed_by (did_add_m parent after child) = []
sealed_by (did_evict_m parent after child) = []
sealed_by (did_add_b child element) = []
sealed_by (did_evict_b child element) = []
sealed_by (did_evict_bm parent after child element) = []
sealed_by (did_get entry) = []
sealed_by (did_put before after) = []
sealed_by (did_next_epoch sealed) = epochs_in sealed

-- how many epochs a history has sealed: they are those from the first on
abbrev pub sealed_count : List Event → ℕ
sealed_count history = length (flat_map (λ event. sealed_by event.change) history)

-- how many epochs all histories have sealed
abbrev pub sealed_by_all : List (List Event) → ℕ
sealed_by_all [] = 0
sealed_by_all (history ∷ []) = sealed_count history
sealed_by_all (history ∷ other ∷ histories) = min (sealed_count history) (sealed_by_all (other ∷ histories))

-- what was added of an epoch and what was evicted of it have one sum
abbrev pub is_balanced : Scheme → List Event → ℕ → Bool
is_balanced scheme events epoch = same_sum (sum_over scheme (added_in epoch events)) (sum_over scheme (evicted_in epoch events))

-- of so many epochs, how many from this one on are balanced, up to the first that is not
abbrev pub balanced_from : Scheme → List Event → ℕ → ℕ → ℕ
balanced_from scheme events epoch zero = 0
balanced_from scheme events epoch (suc count) =
    if is_balanced scheme events epoch then suc (balanced_from scheme events (suc epoch) count) else 0

-- How many epochs are certified, from the first on: those that all verifiers have sealed, up to the first whose
-- sums differ.
abbrev pub certified_count : Scheme → ℕ → List (List Event) → ℕ
certified_count scheme first histories = balanced_from scheme (order_of histories) first (sealed_by_all histories)

-- the events of so many epochs from the first on, in order
abbrev pub order_within : ℕ → ℕ → List (List Event) → List Event
order_within first zero histories = []
order_within first (suc count) histories = order_up_to (first + count) histories

-- so many epochs from this one on
abbrev pub epochs_from : ℕ → ℕ → List ℕ
epochs_from epoch zero = []
epochs_from epoch (suc count) = epoch ∷ epochs_from (suc epoch) count

-- The certified operations: all those of the certified epochs, in order.
abbrev pub certified_operations : Scheme → ℕ → List (List Event) → List Operation
certified_operations scheme first histories = operations_in (order_within first (certified_count scheme first histories) histories)
