-- A step of a machine is written as tests in order: the first that is met refuses, and the last line is the effect.
use Rattle.std.specs.Prelude.{Bool, true, false, Option, Some, None, Result, Ok, Err}

-- the refusal where the test is true, else what comes next
abbrev pub test : {E X : Type 0} → Bool → E → Result X E → Result X E
test true refusal next = Err refusal
test false refusal next = next

-- what comes next at the value, or the refusal where there is none
abbrev pub need : {A E X : Type 0} → Option A → E → (A → Result X E) → Result X E
need (Some value) refusal next = next value
need None refusal next = Err refusal

-- what comes next at the value, or the refusal that came in its place
abbrev pub and_then : {A E X : Type 0} → Result A E → (A → Result X E) → Result X E
and_then (Ok value) next = next value
and_then (Err refusal) next = Err refusal
