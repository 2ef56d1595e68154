-- What a run has come to over the bytes that it was fed: the course of the commands that were whole, and the
-- bytes of a command that is cut.
use Rattle.std.specs.Prelude.{◌≡◌, ℕ, zero, suc, ◌+◌, List, [], ◌∷◌, ◌++◌, length, Option, Some, None, IfSome, Ok, Err}
use Rattle.lamport_clocks.specs.declared.header.Header.{Header}
use Rattle.record_text.specs.declared.refusal.Refusal.{Refusal}
use Rattle.record_text.specs.declared.refusal.Refusal.TheVariants as refusals
use Rattle.record_text.specs.declared.reader.TextFault.TheVariants as faults
use Rattle.record_text.specs.Fields.{Parsed}
use Rattle.record_text.specs.Format.{LogFormat}
use Rattle.log_codec.specs.declared.log_command.LogCommand.{LogCommand}
use Rattle.log_codec.specs.LogCommand.{command_at}
use Rattle.merkle_records.specs.Scheme.{Scheme}
use Rattle.verifier_commands.specs.Event.{Event}
use Rattle.verifier_commands.specs.Machine.{opening_machine}
use Rattle.verifier_run.specs.Course.{Course, opening_course, refuse, after_command}

-- the course, and the bytes of a command that is cut
pub record Progress (A : Type 0) : Type 0 where
  pub course : Course A
  pub held : List ℕ

-- a course with no cut command
abbrev pub between_commands : {A : Type 0} → Course A → Progress A
between_commands course = record { course = course; held = [] }

-- before the first byte, the verifier of this number
abbrev pub opening_progress : {A : Type 0} → ℕ → Header → Progress A
opening_progress number header = between_commands (opening_course (opening_machine number header))

-- what bytes do by what they begin with: a command and more, bytes that are none, or a command that is cut
abbrev pub progress_behind : {A : Type 0} → Course A → List ℕ → Parsed LogCommand → (LogCommand → List ℕ → Progress A) → Progress A
progress_behind course bytes (Ok found) more = more found.0 found.1
progress_behind course bytes (Err faults.Malformed) more = between_commands (refuse course refusals.Malformed)
progress_behind course bytes (Err faults.Truncated) more = record { course = course; held = bytes }

-- a course that is refused takes bytes and does nothing
abbrev pub unless_refused : {A : Type 0} → Option (ℕ × Refusal) → Course A → Progress A → Progress A
unless_refused None course progress = progress
unless_refused (Some refused) course progress = between_commands course

-- What bytes, from a command's first byte on, make of a course. The count bounds how many commands are read:
-- each takes a byte at least, so the number of bytes is enough.
unfoldable pub read_up_to : {A : Type 0} → (Event → List A) → ℕ → Scheme → Course A → List ℕ → Progress A
read_up_to keeps zero scheme course bytes = record { course = course; held = bytes }
read_up_to keeps (suc count) scheme course bytes =
    unless_refused course.refused course
    (progress_behind course bytes (command_at scheme.format bytes)
    (λ command rest. read_up_to keeps count scheme (after_command keeps scheme course command) rest))

-- the same, of as many commands as the bytes may hold
abbrev pub progress_over : {A : Type 0} → (Event → List A) → Scheme → Course A → List ℕ → Progress A
progress_over keeps scheme course bytes = read_up_to keeps (length bytes) scheme course bytes

-- The progress once these bytes are fed: they go on with the cut command.
abbrev pub fed : {A : Type 0} → (Event → List A) → Scheme → Progress A → List ℕ → Progress A
fed keeps scheme progress piece = progress_over keeps scheme progress.course (progress.held ++ piece)

-- the course at the end of the log, where the bytes held are so: a command that is cut is refused
abbrev pub course_at_end : {A : Type 0} → Course A → List ℕ → Course A
course_at_end course [] = course
course_at_end course (byte ∷ held) = refuse course refusals.Truncated

-- The progress once the log has ended.
abbrev pub ended : {A : Type 0} → Progress A → Progress A
ended progress = between_commands (course_at_end progress.course progress.held)

-- the commands that were accepted and the bytes held: at most as many as the bytes fed
abbrev pub weight : {A : Type 0} → Progress A → ℕ
weight progress = progress.course.machine.accepted + length progress.held

-- Between two pieces the bytes held begin a command that is cut, and a refused course holds none.
pub record IsBetweenPieces {A : Type 0} (format : LogFormat) (progress : Progress A) : Type 0 where
  pub cut : command_at format progress.held ≡ Err faults.Truncated
  pub idle : IfSome progress.course.refused (λ refused. progress.held ≡ [])
