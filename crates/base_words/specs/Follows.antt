-- What a method answers and the state that it leaves, against the step that a definition gives.
use Rattle.std.specs.Prelude.{◌≡◌, Result, Ok, Err}

-- The step gives this effect and this new state; or it refuses so, and the state stays as it was.
abbrev pub Follows : {A E S : Type 0} → Result A E → S → S → Result (A × S) E → Type 0
Follows (Ok effect) old new step = step ≡ Ok (effect, new)
Follows (Err refusal) old new step = (step ≡ Err refusal) × (new ≡ old)

-- the same of a step that has no effect beside its new state
abbrev pub Becomes : {E S : Type 0} → Result (Unit {0}) E → S → S → Result S E → Type 0
Becomes (Ok done) old new step = step ≡ Ok new
Becomes (Err refusal) old new step = (step ≡ Err refusal) × (new ≡ old)
