-- Operations by the moments at which they were done, and those up to an epoch in order.
use Rattle.std.specs.Prelude.{ℕ, List}
use Rattle.record_text.specs.declared.operation.Operation.{Operation}
use Rattle.stamp_order.specs.declared.moment.Moment.{Moment}
use Rattle.stamp_order.specs.Merged.{merged, up_to}

-- when an operation was done: the clock after it, its verifier, and its number in the verifier's log
abbrev pub moment_of : Operation → Moment
moment_of operation = record { at = operation.stamp; verifier = operation.verifier; index = operation.index }

-- all operations up to an epoch, in the order of their moments
abbrev pub merged_up_to : ℕ → List Operation → List Operation
merged_up_to epoch operations = merged moment_of (up_to moment_of epoch operations)
