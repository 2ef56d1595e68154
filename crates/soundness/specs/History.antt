-- The history of a verifier: what each accepted command of its log did, in order.
use Rattle.std.specs.Prelude.{ℕ, suc, List, [], ◌∷◌, Option}
use Rattle.lamport_clocks.specs.declared.header.Header.{Header}
use Rattle.record_text.specs.declared.refusal.Refusal.{Refusal}
use Rattle.log_codec.specs.declared.log_command.LogCommand.{LogCommand}
use Rattle.merkle_records.specs.Scheme.{Scheme}
pub use Rattle.verifier_commands.specs.Event.{Event}
use Rattle.verifier_commands.specs.Machine.{opening_machine}
use Rattle.verifier_commands.specs.Trace.{trace, events_from}

-- the events of a whole log of the verifier of this number
abbrev pub log_events : Scheme → Header → ℕ → List LogCommand → List Event
log_events scheme header number commands = events_from scheme (opening_machine number header) commands

-- the refusal that ends the commands of a whole log of the verifier of this number, if one does
abbrev pub log_refusal : Scheme → Header → ℕ → List LogCommand → Option Refusal
log_refusal scheme header number commands = (trace scheme (opening_machine number header) commands).refused

-- the histories of logs, the first of which is of the verifier of this number
abbrev pub histories_from : Scheme → Header → ℕ → List (List LogCommand) → List (List Event)
histories_from scheme header number [] = []
histories_from scheme header number (log ∷ logs) =
    log_events scheme header number log ∷ histories_from scheme header (suc number) logs

-- the histories of all logs of a bundle, that of verifier 0 first
abbrev pub histories_of : Scheme → Header → List (List LogCommand) → List (List Event)
histories_of scheme header logs = histories_from scheme header 0 logs
