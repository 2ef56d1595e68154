-- In a step that was taken each part that it needed was there. (That it met none of its tests, `test-ok` tells.)
use Rattle.std.proofs.Common.{◌≡◌, Option, Some, None, Result, Ok, Err, refl}
use Rattle.lamport_clocks.specs.declared.clock.ClockFault.{ClockFault}
use Rattle.base_words.specs.Steps.{need, and_then}
use Rattle.record_text.specs.declared.refusal.Refusal.{Refusal}
use Rattle.verifier_commands.specs.Transition.{timed}

-- there was a value, and what comes next at it is the answer
pub need-ok : {A E X : Type 0} (option : Option A) (refusal : E) (next : A → Result X E) (answer : X)
    → need option refusal next ≡ Ok answer → (value : A) × (option ≡ Some value) × (next value ≡ Ok answer)
need-ok (Some value) refusal next answer is = (value, refl, is)
need-ok None refusal next answer is = absurd (cc)

-- the first step gave a value, and what comes next at it is the answer
pub and_then-ok : {A E X : Type 0} (result : Result A E) (next : A → Result X E) (answer : X)
    → and_then result next ≡ Ok answer → (value : A) × (result ≡ Ok value) × (next value ≡ Ok answer)
and_then-ok (Ok value) next answer is = (value, refl, is)
and_then-ok (Err refusal) next answer is = absurd (cc)

-- the clock gave a value, and what comes next at it is the answer
pub timed-ok : {A X : Type 0} (result : Result A ClockFault) (next : A → Result X Refusal) (answer : X)
    → timed result next ≡ Ok answer → (value : A) × (result ≡ Ok value) × (next value ≡ Ok answer)
timed-ok (Ok value) next answer is = (value, refl, is)
timed-ok (Err fault) next answer is = absurd (cc)
