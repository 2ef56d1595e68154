-- What of a run is enough to go on certifying from it, whatever logs it took, if any.
use Rattle.std.specs.Prelude.{◌≡◌, ℕ, suc, ◌^◌, ◌<◌, List, [], ◌∷◌}
use Rattle.std.specs.List.{AllByRecursion}
use Rattle.multiset_sum.specs.declared.part.Part.{Part}
use Rattle.record_text.specs.declared.operation.Operation.{Operation}
use Rattle.stamp_order.specs.Merged.{IsMerged}
use Rattle.stamp_order.specs.Operations.{moment_of}
use Rattle.seals.specs.Meaning.{IsNoLater}
use Rattle.verifier_commands.specs.Machine.{Machine, AreBounded}
use Rattle.verifier_run.specs.Progress.{Progress}
use Rattle.verifier_run.specs.Order.{OneOfEach, clock_of, sealed_next}

-- a part of the verifier of this number, small enough to be added up
pub record IsOwn (number : ℕ) (part : Part) : Type 0 where
  pub verifier : part.verifier ≡ number
  pub added : part.added.count < 2 ^ 25
  pub evicted : part.evicted.count < 2 ^ 25

-- an operation of the verifier of this number: one of the commands that it accepted, no later than its clock
pub record IsDoneBy (number : ℕ) (machine : Machine) (one : Operation) : Type 0 where
  pub verifier : one.verifier ≡ number
  pub accepted : one.index < machine.accepted
  pub no_later : IsNoLater one.stamp machine.state.clock.at

-- The run is of the verifier of this number. Its sums are bounded by its clock; it has one part of each epoch that is sealed, from this one
-- on, each its own; and the operations that it has are its own, in the order of their moments.
pub record CanBeCertified (epoch number : ℕ) (run : Progress Operation) : Type 0 where
  pub number_is : run.course.machine.number ≡ number
  pub bounded : AreBounded run.course.machine.sums run.course.machine.state.clock
  pub each : OneOfEach epoch (sealed_next (clock_of run.course)) run.course.parts
  pub own : AllByRecursion (IsOwn number) run.course.parts
  pub done : AllByRecursion (IsDoneBy number run.course.machine) run.course.items
  pub in_order : IsMerged moment_of run.course.items

-- the same of runs one by one, the first of which is of the verifier of this number
abbrev pub AllCanBeCertified : ℕ → ℕ → List (Progress Operation) → Type 0
AllCanBeCertified epoch number [] = Unit {0}
AllCanBeCertified epoch number (run ∷ runs) = CanBeCertified epoch number run × AllCanBeCertified epoch (suc number) runs
