-- An operation is of the epoch of its event.
use Rattle.std.specs.Prelude.{◌≡◌, refl}
use Rattle.std.specs.List.{AllByRecursion}
use Rattle.verifier_commands.specs.Change.{Change, did_add_m, did_evict_m, did_add_b, did_evict_b, did_evict_bm, did_get, did_put, did_next_epoch}
use Rattle.verifier_commands.specs.Event.{Event, operations_by}
use Rattle.verifier_run.specs.Kept.{keeps_operations}

by_change : (event : Event) (change : Change) → AllByRecursion (λ operation. operation.stamp.epoch ≡ event.at.epoch) (operations_by event change)
by_change event (did_add_m parent after child) = tt
by_change event (did_evict_m parent after child) = tt
by_change event (did_add_b child element) = tt
by_change event (did_evict_b child element) = tt
by_change event (did_evict_bm parent after child element) = tt
by_change event (did_get entry) = (refl, tt)
by_change event (did_put before after) = (refl, tt)
by_change event (did_next_epoch sealed) = tt

pub operations-of_epoch : (event : Event) → AllByRecursion (λ operation. operation.stamp.epoch ≡ event.at.epoch) (keeps_operations event)
operations-of_epoch event = by_change event event.change
