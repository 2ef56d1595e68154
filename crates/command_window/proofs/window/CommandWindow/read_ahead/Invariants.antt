use Rattle.std.proofs.Common.{◌≡◌, ◌-◌, ◌≤◌, length, drop}
use Rattle.record_hash.specs.Functions.{DigestFunctions}
use Rattle.record_text.specs.Format.{format_of}
use Rattle.command_window.specs.Window.{AreReadOf, AreRight, AreForgotten}
use Rattle.command_window.proofs.ReadLemmas.{taken_by}
use Rattle.command_window.proofs.window.CommandWindow.read_ahead.Given as goal

-- so many bytes are those of the commands, and what those to come ask for is forgotten
abbrev pub invariant-loop-self : goal.invariant-loop-self
invariant-loop-self l = record {
  read : AreReadOf (format_of l.header) l.bytes l.self-inside.reads;
  right : (functions : DigestFunctions) → AreRight functions l.self-inside.asked.items;
  forgotten : AreForgotten (drop (length l.self-inside.reads) l.self-inside.asked.items);
  taken : l.taken ≡ taken_by l.self-inside.reads;
  within : l.taken ≤ length l.bytes;
}

abbrev pub decreases-loop-self : goal.decreases-loop-self
decreases-loop-self l = length l.bytes - l.taken
