-- What commands come to, taken one after another by a machine of any kind, up to the first that is refused.
use Rattle.std.specs.Prelude.{List, [], ◌∷◌, Option, Some, None, Result, Ok, Err}

-- what each accepted command did, the state after them, and why the next was refused, if one was
pub record Traced (X S E : Type 0) : Type 0 where
  pub done : List X
  pub state : S
  pub refused : Option E

-- with what one command did before what was done behind it
abbrev pub with_done : {X S E : Type 0} → X → Traced X S E → Traced X S E
with_done first traced = record traced { done = first ∷ traced.done }

-- how it goes on behind a step: from the state after it, or no further
abbrev pub traced_behind : {X S E : Type 0} → S → Result (X × S) E → (S → Traced X S E) → Traced X S E
traced_behind state (Ok done) more = with_done done.0 (more done.1)
traced_behind state (Err refusal) more = record { done = []; state = state; refused = Some refusal }

-- What commands come to from a state, by what one command does to a state.
unfoldable pub traced : {X S E C : Type 0} → (S → C → Result (X × S) E) → S → List C → Traced X S E
traced step state [] = record { done = []; state = state; refused = None }
traced step state (command ∷ commands) =
    traced_behind state (step state command) (λ after. traced step after commands)
