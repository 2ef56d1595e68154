-- A step that was taken met none of its tests.
use Rattle.std.proofs.Common.{◌≡◌, Bool, true, false, Result, Ok, refl}
use Rattle.base_words.specs.Steps.{test}

-- the test was false, and what comes next is the answer
pub test-ok : {E X : Type 0} (b : Bool) (refusal : E) (next : Result X E) (answer : X) → test b refusal next ≡ Ok answer → (b ≡ false) × (next ≡ Ok answer)
test-ok true refusal next answer h = absurd (cc)
test-ok false refusal next answer h = (refl, h)
