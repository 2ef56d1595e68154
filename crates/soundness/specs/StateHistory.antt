-- The history of commands told from a verifier's state alone, whatever its sums and whatever it accepted before: so a
-- host knows of commands what they do from where a verifier rests. A log's history is told so from the opening state (`HistoryFromState`).
use Rattle.std.specs.Prelude.{◌≡◌, ℕ, suc, List, [], ◌∷◌, Option, Some, None, Result, Ok, Err}
use Rattle.lamport_clocks.specs.declared.header.Header.{Header}
use Rattle.lamport_clocks.specs.declared.stamp.Stamp.{Stamp}
use Rattle.record_text.specs.declared.refusal.Refusal.{Refusal}
use Rattle.log_codec.specs.declared.log_command.LogCommand.{LogCommand}
use Rattle.merkle_records.specs.Scheme.{Scheme}
use Rattle.verifier_commands.specs.Change.{Change}
use Rattle.verifier_commands.specs.Transition.{Rules}
use Rattle.verifier_commands.specs.VerifierState.{VerifierState, perform, first_state}
use Rattle.soundness.specs.History.{Event, log_events, log_refusal}

-- What is told of commands of any kind: what each does to a state, and the clock that a state shows.
pub record Machinery (S C : Type 0) : Type 0 where
  pub step : S → C → Result (Change × S) Refusal
  pub clock : S → Stamp

-- the event of a step and those behind it; a refused step ends them
abbrev pub events_behind : {S C : Type 0} → Machinery S C → ℕ → ℕ → Result (Change × S) Refusal → (S → List Event) → List Event
events_behind machinery verifier index (Ok done) more =
    record { verifier = verifier; index = index; at = machinery.clock done.1; change = done.0 } ∷ more done.1
events_behind machinery verifier index (Err refusal) more = []

-- The events of a verifier's commands, from the one with this number on and from this state on.
unfoldable pub events_from : {S C : Type 0} → Machinery S C → ℕ → ℕ → S → List C → List Event
events_from machinery verifier index state [] = []
events_from machinery verifier index state (command ∷ commands) =
    events_behind machinery verifier index (machinery.step state command)
    (λ after. events_from machinery verifier (suc index) after commands)

-- why the next command is refused, if it is; a step that is not goes on
abbrev pub refusal_behind : {S : Type 0} → Result (Change × S) Refusal → (S → Option Refusal) → Option Refusal
refusal_behind (Ok done) more = more done.1
refusal_behind (Err refusal) more = Some refusal

-- The refusal that ends a verifier's commands, if one does.
unfoldable pub refusal_from : {S C : Type 0} → Machinery S C → S → List C → Option Refusal
refusal_from machinery state [] = None
refusal_from machinery state (command ∷ commands) =
    refusal_behind (machinery.step state command) (λ after. refusal_from machinery after commands)

-- the rules for a verifier of this number under a header
abbrev pub rules_under : Scheme → Header → ℕ → Rules
rules_under scheme header number = record { scheme = scheme; number = number; verifiers = header.verifiers }

-- the machinery of a verifier: the command table, and its state's clock
abbrev pub machinery_under : Rules → Machinery VerifierState LogCommand
machinery_under rules = record { step = perform rules; clock = λ state. state.clock.at }

-- the machinery of the verifier of this number under a header
abbrev pub machinery_of : Scheme → Header → ℕ → Machinery VerifierState LogCommand
machinery_of scheme header number = machinery_under (rules_under scheme header number)

-- A log's history is told from the opening state.
pub record HistoryFromState (scheme : Scheme) (header : Header) (number : ℕ) (commands : List LogCommand) : Type 0 where
  pub events : log_events scheme header number commands
      ≡ events_from (machinery_of scheme header number) number 0 (first_state number header) commands
  pub refusal : log_refusal scheme header number commands
      ≡ refusal_from (machinery_of scheme header number) (first_state number header) commands
