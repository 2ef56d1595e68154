-- The command at a place of a window.
use Rattle.std.proofs.Common.{ℕ, zero, suc, ◌<◌, List, [], ◌∷◌, length, drop, slice_index_or, arith}
use Rattle.record_text.specs.Format.{LogFormat}
use Rattle.command_window.specs.declared.read_command.ReadCommand.{ReadCommand}
use Rattle.command_window.specs.Window.{IsReadOf, AreReadOf}

-- what bytes begin with, and what follows it
pub read_at : (format : LogFormat) (bytes : List ℕ) (reads : List ReadCommand) (place : ℕ) (other : ReadCommand) → place < length reads → AreReadOf format bytes (drop place reads)
    → IsReadOf format bytes (slice_index_or reads place other) × AreReadOf format (drop (slice_index_or reads place other).len bytes) (drop (suc place) reads)
read_at format bytes [] place other there are = absurd (omega arith)
read_at format bytes (read ∷ reads) zero other there are = are
read_at format bytes (read ∷ reads) (suc place) other there are = read_at format bytes reads place other (omega arith) are
