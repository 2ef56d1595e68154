-- What each command keeps, and what stays so where a course is refused, holds of a run still once bytes are fed to it.
use Rattle.std.proofs.Common.{ℕ, zero, suc, List, ◌++◌, length, Option, Some, None, Ok, Err}
use Rattle.merkle_records.specs.Scheme.{Scheme}
use Rattle.record_text.specs.declared.operation.Operation.{Operation}
use Rattle.record_text.specs.declared.refusal.Refusal.{Refusal}
use Rattle.record_text.specs.declared.refusal.Refusal.TheVariants as refusals
use Rattle.record_text.specs.declared.reader.TextFault.TheVariants.{Truncated, Malformed}
use Rattle.record_text.specs.Fields.{Parsed}
use Rattle.log_codec.specs.declared.log_command.LogCommand.{LogCommand}
use Rattle.log_codec.specs.LogCommand.{command_at}
use Rattle.verifier_run.specs.Kept.{keeps_operations}
use Rattle.verifier_run.specs.Course.{Course, after_command}
use Rattle.verifier_run.specs.Progress.{Progress, progress_behind, unless_refused, read_up_to, fed}

module _ (P : Course Operation → Type 0) (scheme : Scheme)
    (refused : (course : Course Operation) (refusal : Option (ℕ × Refusal)) → P course → P (record course { refused = refusal }))
    (command : (course : Course Operation) (one : LogCommand) → P course → P (after_command keeps_operations scheme course one)) where
  behind : (course : Course Operation) (bytes : List ℕ) (read : Parsed LogCommand) (more : LogCommand → List ℕ → Progress Operation)
      → P course → ((one : LogCommand) (rest : List ℕ) → P (more one rest).course) → P (progress_behind course bytes read more).course
  behind course bytes (Ok found) more holds further = further found.0 found.1
  behind course bytes (Err Malformed) more holds further = refused course (Some (course.machine.accepted, refusals.Malformed)) holds
  behind course bytes (Err Truncated) more holds further = holds

  unless : (refusal : Option (ℕ × Refusal)) (course : Course Operation) (progress : Progress Operation) → P course → P progress.course
      → P (unless_refused refusal course progress).course
  unless None course progress holds further = further
  unless (Some refusal) course progress holds further = holds

  up_to : (count : ℕ) (course : Course Operation) (bytes : List ℕ) → P course → P (read_up_to keeps_operations count scheme course bytes).course
  unfolding read_up_to
  up_to zero course bytes holds = holds
  up_to (suc count) course bytes holds =
      let more : LogCommand → List ℕ → Progress Operation =
      λ one rest. read_up_to keeps_operations count scheme (after_command keeps_operations scheme course one) rest in
      unless course.refused course (progress_behind course bytes (command_at scheme.format bytes) more) holds
      (behind course bytes (command_at scheme.format bytes) more holds
      (λ one rest. up_to count (after_command keeps_operations scheme course one) rest (command course one holds)))

  -- So it is with a run.
  pub fed_keeps : (run : Progress Operation) (piece : List ℕ) → P run.course → P (fed keeps_operations scheme run piece).course
  fed_keeps run piece holds = up_to (length (run.held ++ piece)) run.course (run.held ++ piece) holds
