-- What bytes mean as a log: commands, up to the first that isn't whole.
use Rattle.std.specs.Prelude.{◌≡◌, ℕ, zero, suc, ◌<◌, List, [], ◌∷◌, ◌++◌, length, Ok, Err}
use Rattle.std.specs.List.{flat_map, AllByRecursion}
use Rattle.record_text.specs.Fields.{Parsed}
use Rattle.record_text.specs.declared.reader.TextFault.{TextFault}
use Rattle.record_text.specs.Format.{LogFormat}
use Rattle.log_codec.specs.declared.command.Command.{Command}
use Rattle.log_codec.specs.declared.log_command.LogCommand.{LogCommand}
use Rattle.log_codec.specs.Command.{path_command_text}
use Rattle.log_codec.specs.LogCommand.{command_text, command_at, IsCommand}

-- how a log ends: behind its last command, or at a fault in its next one
pub data LogEnd : Type 0 where
  whole : LogEnd
  faulty : TextFault → LogEnd

-- the commands of a log, and how it ends
pub record Log : Type 0 where
  pub commands : List LogCommand
  pub end : LogEnd

-- the texts of commands, joined
abbrev pub log_text : List LogCommand → List ℕ
log_text commands = flat_map command_text commands

-- the texts of commands that name paths, joined
abbrev pub path_log_text : List Command → List ℕ
path_log_text commands = flat_map path_command_text commands

-- a log with a command before its own
abbrev pub with_command : LogCommand → Log → Log
with_command command log = record { commands = command ∷ log.commands; end = log.end }

-- a log with commands before its own
abbrev pub with_commands : List LogCommand → Log → Log
with_commands commands log = record { commands = commands ++ log.commands; end = log.end }

-- what follows in a log where a command should begin
abbrev pub log_behind : Parsed LogCommand → (List ℕ → Log) → Log
log_behind (Ok found) more = with_command found.0 (more found.1)
log_behind (Err fault) more = record { commands = []; end = faulty fault }

-- The log that bytes are. The count bounds how many commands are read: each takes a byte at least, so the
-- number of bytes is enough.
unfoldable pub log_up_to : ℕ → LogFormat → List ℕ → Log
log_up_to zero format bytes = record { commands = []; end = whole }
log_up_to (suc count) format [] = record { commands = []; end = whole }
log_up_to (suc count) format (byte ∷ bytes) =
    log_behind (command_at format (byte ∷ bytes)) (λ rest. log_up_to count format rest)

-- the log that bytes are: all of their commands, or those up to the first fault
abbrev pub read_log : LogFormat → List ℕ → Log
read_log format bytes = log_up_to (length bytes) format bytes

-- what is left behind the last command of a log that ends so: nothing, or bytes that begin with a fault
abbrev pub IsLeft : LogFormat → LogEnd → List ℕ → Type 0
IsLeft format whole rest = rest ≡ []
IsLeft format (faulty fault) rest = (0 < length rest) × (command_at format rest ≡ Err fault)

-- The grammar of logs: bytes are the texts of a log's commands, joined, and what is left behind the last.
pub record IsLog (format : LogFormat) (bytes : List ℕ) (log : Log) : Type 0 where
  pub rest : List ℕ
  pub parts : bytes ≡ log_text log.commands ++ rest
  pub in_range : AllByRecursion (IsCommand format) log.commands
  pub left : IsLeft format log.end rest
