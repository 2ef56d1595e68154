-- The same bundle in version 3 of the format: its header, and the log of each verifier by slots.
use Rattle.std.specs.Prelude.{ℕ, suc, List, [], ◌∷◌, ◌++◌, Option, Some, None, if◌then◌else◌}
use Rattle.lamport_clocks.specs.declared.header.Header.{Header}
use Rattle.lamport_clocks.specs.Header.{names_paths}
use Rattle.record_text.specs.Format.{format_of}
use Rattle.log_codec.specs.declared.command.Command.{Command}
use Rattle.log_codec.specs.declared.log_command.LogCommand.{LogCommand}
use Rattle.log_codec.specs.declared.log_command.LogCommand.TheVariants.{ByPath, BySlot}
use Rattle.log_codec.specs.Log.{read_log}
use Rattle.bundle_frames.specs.Bundle.{header_text}
use Rattle.slot_rewriting.specs.Writing.{written_log}
use Rattle.host_rounds.specs.Round.{round_text}

-- the version that an upgrade writes
abbrev pub upgraded_version : ℕ
upgraded_version = 3

-- the header in that version: all other numbers are as they were
abbrev pub upgraded_header : Header → Header
upgraded_header header = record header { version = upgraded_version }

-- those of commands that name paths
abbrev pub path_commands : List LogCommand → List Command
path_commands [] = []
path_commands (ByPath command ∷ commands) = command ∷ path_commands commands
path_commands (BySlot command ∷ commands) = path_commands commands

-- The log of the verifier of this number by slots: where its commands name paths they are rewritten, each add to the lowest
-- empty slot, and where they name slots its bytes stay.
abbrev pub upgraded_log : Header → ℕ → List ℕ → List ℕ
upgraded_log header number log =
    if names_paths header
    then written_log (upgraded_header header) number (path_commands (read_log (format_of header) log).commands)
    else log

-- the same of logs, the first of which is of the verifier of this number
abbrev pub upgraded_from : Header → ℕ → List (List ℕ) → List (List ℕ)
upgraded_from header number [] = []
upgraded_from header number (log ∷ logs) = upgraded_log header number log ∷ upgraded_from header (suc number) logs

-- the logs of all verifiers, that of verifier 0 first
abbrev pub upgraded_logs : Header → List (List ℕ) → List (List ℕ)
upgraded_logs header logs = upgraded_from header 0 logs

-- a bundle of logs, as a host writes one round of them: the header, and then each log in order, in frames of 65,536 bytes and
-- a last one of what is left
abbrev pub logs_text : Header → List (List ℕ) → List ℕ
logs_text header logs = header_text header ++ round_text logs

-- The text of the bundle with this header and these logs in version 3; without a header there is none.
abbrev pub upgraded_text : Option Header → List (List ℕ) → List ℕ
upgraded_text None logs = []
upgraded_text (Some header) logs = logs_text (upgraded_header header) (upgraded_logs header logs)
