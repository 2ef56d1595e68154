-- A step whose tests are not met, and whose parts are there, is what comes next.
use Rattle.std.proofs.Common.{◌≡◌, Bool, false, Option, Some, Result, Ok, ◌∙◌, ap}
use Rattle.lamport_clocks.specs.declared.clock.ClockFault.{ClockFault}
use Rattle.base_words.specs.Steps.{test, need, and_then}
use Rattle.record_text.specs.declared.refusal.Refusal.{Refusal}
use Rattle.verifier_commands.specs.Transition.{timed}

pub test-passed : {E X : Type 0} (b : Bool) (refusal : E) (next answer : Result X E) → b ≡ false → next ≡ answer → test b refusal next ≡ answer
test-passed b refusal next answer passed is = ap (λ (x : Bool). test x refusal next) passed ∙ is

pub need-there : {A E X : Type 0} (option : Option A) (refusal : E) (next : A → Result X E) (answer : Result X E) (value : A)
    → option ≡ Some value → next value ≡ answer → need option refusal next ≡ answer
need-there option refusal next answer value there is = ap (λ (o : Option _). need o refusal next) there ∙ is

pub and_then-there : {A E X : Type 0} (result : Result A E) (next : A → Result X E) (answer : Result X E) (value : A)
    → result ≡ Ok value → next value ≡ answer → and_then result next ≡ answer
and_then-there result next answer value there is = ap (λ (r : Result _ _). and_then r next) there ∙ is

pub timed-there : {A X : Type 0} (result : Result A ClockFault) (next : A → Result X Refusal) (answer : Result X Refusal) (value : A)
    → result ≡ Ok value → next value ≡ answer → timed result next ≡ answer
timed-there result next answer value there is = ap (λ (r : Result _ _). timed r next) there ∙ is
