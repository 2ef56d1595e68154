-- A worker's log: the commands that its bytes spell, and what is known of these bytes.
use Rattle.std.specs.Prelude.{◌≡◌, ℕ, Bool, true, List, [], ◌++◌}
use Rattle.std.specs.List.{AllByRecursion}
use Rattle.record_text.specs.Longest.{longest_blob}
use Rattle.log_codec.specs.declared.command.Command.{Command}
use Rattle.log_codec.specs.Command.{IsPathCommand}
use Rattle.slot_rewriting.specs.declared.writer.CommandWriter.{CommandWriter}
use Rattle.slot_rewriting.specs.Writing.{text_from, writer_behind}

-- The writer of a log's first command, the commands that were logged since, and whether the text of each is among the bytes.
pub record Logged : Type 0 where
  pub writer : CommandWriter
  pub commands : List Command
  pub settled : Bool

-- a log before its first command
abbrev pub begun_by : CommandWriter → Logged
begun_by writer = record { writer = writer; commands = []; settled = true }

-- the bytes of a log
abbrev pub text_of : Logged → List ℕ
text_of log = text_from log.writer log.commands

-- the commands of a log can be written
abbrev pub AreWritable : List Command → Type 0
AreWritable commands = AllByRecursion (IsPathCommand longest_blob) commands

-- The bytes and the text behind them are those of the commands that are written, and the writer stands behind these.
pub record AreWritten (first writer : CommandWriter) (written : List Command) (bytes text : List ℕ) : Type 0 where
  pub spelled : bytes ++ text ≡ text_from first written
  pub behind : writer ≡ writer_behind first written
