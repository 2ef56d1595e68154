-- Commands that are accepted whole: no refusal ends them, and they leave a state.
use Rattle.std.specs.Prelude.{◌≡◌, List, [], ◌∷◌, None, Result, Ok, Err}
use Rattle.record_text.specs.declared.refusal.Refusal.{Refusal}
use Rattle.verifier_commands.specs.Change.{Change}
use Rattle.soundness.specs.StateHistory.{Machinery, refusal_from}

-- the state behind a step; a refused step leaves the one before it
abbrev pub state_behind : {S : Type 0} → S → Result (Change × S) Refusal → (S → S) → S
state_behind state (Ok done) more = more done.1
state_behind state (Err refusal) more = state

-- The state that commands leave, up to the first that is refused.
unfoldable pub state_from : {S C : Type 0} → Machinery S C → S → List C → S
state_from machinery state [] = state
state_from machinery state (command ∷ commands) =
    state_behind state (machinery.step state command) (λ after. state_from machinery after commands)

-- no command is refused
abbrev pub IsAccepted : {S C : Type 0} → Machinery S C → S → List C → Type 0
IsAccepted machinery state commands = refusal_from machinery state commands ≡ None
