-- A log whose commands name paths, and the same log by slots.
use Rattle.std.specs.Prelude.{◌≡◌, ℕ, suc, List, [], ◌∷◌, None, Ok}
use Rattle.lamport_clocks.specs.declared.header.Header.{Header}
use Rattle.record_text.specs.Value.{IsOf}
use Rattle.log_codec.specs.declared.command.Command.{Command}
use Rattle.log_codec.specs.declared.command.Command.TheVariants.{AddM, EvictM, AddB, EvictB, EvictBM, Get, Put, NextEpoch, Absent}
use Rattle.log_codec.specs.declared.slot_command.SlotCommand.{SlotCommand}
use Rattle.merkle_records.specs.Scheme.{Scheme}
use Rattle.verifier_commands.specs.declared.state.State.{State}
use Rattle.verifier_commands.specs.Change.{Change}
use Rattle.verifier_commands.specs.Transition.{Rules, transition}
use Rattle.slot_rewriting.specs.Rewriting.{opening_paths, rewritten_from}
use Rattle.soundness.specs.PathHistory.{path_log_refusal}

-- the value of a command, if it has one, is of its path's kind
abbrev pub IsOfKind : ℕ → Command → Type 0
IsOfKind longest (AddM path value parent) = IsOf longest path value
IsOfKind longest (EvictM path parent) = Unit {0}
IsOfKind longest (AddB path value stamp verifier) = IsOf longest path value
IsOfKind longest (EvictB path stamp) = Unit {0}
IsOfKind longest (EvictBM path parent stamp) = Unit {0}
IsOfKind longest (Get path value) = IsOf longest path value
IsOfKind longest (Put path value) = IsOf longest path value
IsOfKind longest NextEpoch = Unit {0}
IsOfKind longest (Absent path parent) = Unit {0}

-- a log of the verifier of this number, by slots
abbrev pub rewritten_log : Header → ℕ → List Command → List SlotCommand
rewritten_log header number commands = rewritten_from (opening_paths number header) commands

-- logs by slots, the first of which is of the verifier of this number
abbrev pub rewritten_logs : Header → ℕ → List (List Command) → List (List SlotCommand)
rewritten_logs header number [] = []
rewritten_logs header number (log ∷ logs) = rewritten_log header number log ∷ rewritten_logs header (suc number) logs

-- no command of any log is refused, where the first log is of the verifier of this number
abbrev pub AreAccepted : Scheme → Header → ℕ → List (List Command) → Type 0
AreAccepted scheme header number [] = Unit {0}
AreAccepted scheme header number (log ∷ logs) = (path_log_refusal scheme header number log ≡ None) × AreAccepted scheme header (suc number) logs

-- no command is refused from the one state on, and behind them the verifier is in the other
abbrev pub Leads : Rules → State → List Command → State → Type 0
Leads rules state [] last = last ≡ state
Leads rules state (command ∷ commands) last =
    (change : Change) × (next : State) × (transition rules state command ≡ Ok (change, next)) × Leads rules next commands last
