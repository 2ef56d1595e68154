-- What holds of each end of a step holds of the step, whatever its tests.
use Rattle.std.proofs.Common.{Bool, true, false, Option, Some, None, Result, Ok, Err}
use Rattle.base_words.specs.Steps.{test, need, and_then}
use Rattle.lamport_clocks.specs.declared.clock.ClockFault.{ClockFault}
use Rattle.record_text.specs.declared.refusal.Refusal.{Refusal}
use Rattle.verifier_commands.specs.Transition.{timed}

-- what a step that was taken leaves
abbrev pub Leaves : {X E : Type 0} → (X → Type 0) → Result X E → Type 0
Leaves P (Ok done) = P done
Leaves P (Err refusal) = Unit {0}

pub test-leaves : {X E : Type 0} (P : X → Type 0) (b : Bool) (refusal : E) (next : Result X E) → Leaves P next → Leaves P (test b refusal next)
test-leaves P true refusal next leaves = tt
test-leaves P false refusal next leaves = leaves

pub need-leaves : {A X E : Type 0} (P : X → Type 0) (option : Option A) (refusal : E) (next : A → Result X E) → ((a : A) → Leaves P (next a)) → Leaves P (need option refusal next)
need-leaves P (Some a) refusal next leaves = leaves a
need-leaves P None refusal next leaves = tt

pub and_then-leaves : {A X E : Type 0} (P : X → Type 0) (result : Result A E) (next : A → Result X E) → ((a : A) → Leaves P (next a)) → Leaves P (and_then result next)
and_then-leaves P (Ok a) next leaves = leaves a
and_then-leaves P (Err refusal) next leaves = tt

pub timed-leaves : {A X : Type 0} (P : X → Type 0) (result : Result A ClockFault) (next : A → Result X Refusal) → ((a : A) → Leaves P (next a)) → Leaves P (timed result next)
timed-leaves P (Ok a) next leaves = leaves a
timed-leaves P (Err fault) next leaves = tt
