-- The bytes of a host's logs, in the version that their header says: its commands as they name paths, or rewritten by slots.
use Rattle.std.specs.Prelude.{◌≡◌, ℕ, suc, List, [], ◌∷◌, ◌++◌, if◌then◌else◌}
use Rattle.lamport_clocks.specs.declared.header.Header.{Header}
use Rattle.lamport_clocks.specs.Header.{names_paths}
use Rattle.log_codec.specs.declared.command.Command.{Command}
use Rattle.log_codec.specs.Command.{path_command_text}
use Rattle.log_codec.specs.SlotCommand.{slot_command_text}
use Rattle.slot_rewriting.specs.Rewriting.{rewritten, paths_after, opening_paths, can_rewrite}
use Rattle.slot_rewriting.specs.declared.writer.CommandWriter.{CommandWriter}
use Rattle.slot_rewriting.specs.declared.writer.CommandWriter.TheVariants.{ByPath, BySlot}

-- the writer of a verifier's log before its first command
abbrev pub opening_writer : ℕ → Header → CommandWriter
opening_writer number header = if names_paths header then ByPath else BySlot (opening_paths number header)

-- what is written of a command: one that can't be rewritten is left out
abbrev pub text_by : CommandWriter → Command → List ℕ
text_by ByPath command = path_command_text command
text_by (BySlot paths) command = if can_rewrite paths command then slot_command_text (rewritten paths command) else []

-- the writer behind a command
abbrev pub writer_after : CommandWriter → Command → CommandWriter
writer_after ByPath command = ByPath
writer_after (BySlot paths) command = BySlot (if can_rewrite paths command then paths_after paths command else paths)

-- the same of commands, one behind another
abbrev pub text_from : CommandWriter → List Command → List ℕ
text_from writer [] = []
text_from writer (command ∷ commands) = text_by writer command ++ text_from (writer_after writer command) commands

abbrev pub writer_behind : CommandWriter → List Command → CommandWriter
writer_behind writer [] = writer
writer_behind writer (command ∷ commands) = writer_behind (writer_after writer command) commands

-- the bytes of the log of the verifier of this number
abbrev pub written_log : Header → ℕ → List Command → List ℕ
written_log header number commands = text_from (opening_writer number header) commands

-- the bytes of logs, the first of which is of the verifier of this number
abbrev pub logs_written_from : Header → ℕ → List (List Command) → List (List ℕ)
logs_written_from header number [] = []
logs_written_from header number (log ∷ logs) = written_log header number log ∷ logs_written_from header (suc number) logs

-- the bytes of the logs of all verifiers
abbrev pub written_logs : Header → List (List Command) → List (List ℕ)
written_logs header logs = logs_written_from header 0 logs

-- Behind the commands a verifier's slots are as before its first one, so what comes behind is written as a log of its own.
abbrev pub ComesToRest : Header → ℕ → List Command → Type 0
ComesToRest header number commands = writer_behind (opening_writer number header) commands ≡ opening_writer number header

-- the same of all logs, the first of which is of the verifier of this number
abbrev pub ComeToRestFrom : Header → ℕ → List (List Command) → Type 0
ComeToRestFrom header number [] = Unit {0}
ComeToRestFrom header number (log ∷ logs) = ComesToRest header number log × ComeToRestFrom header (suc number) logs
