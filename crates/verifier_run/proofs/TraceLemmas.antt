-- A run over a whole log against what the log's commands come to.
use Rattle.std.proofs.Common.{◌≡◌, ℕ, zero, suc, ◌<◌, ◌≤◌, List, [], ◌∷◌, ◌++◌, length, Option, Some, None, Result, Ok, Err, refl, sym, ap, ◌∙◌, append-nil, append_assoc, arith}
use Rattle.base_words.specs.Traced.{traced, traced_behind}
use Rattle.multiset_sum.specs.declared.part.Part.{Part}
use Rattle.record_text.specs.declared.refusal.Refusal.{Refusal}
use Rattle.record_text.specs.declared.reader.TextFault.TheVariants as faults
use Rattle.log_codec.specs.declared.log_command.LogCommand.{LogCommand}
use Rattle.log_codec.specs.LogCommand.{command_at}
use Rattle.log_codec.specs.Log.{Log, LogEnd, whole, faulty, with_command, read_log}
use Rattle.log_codec.proofs.LogCommandLaws.{command_shorter}
use Rattle.log_codec.proofs.LogLaws.{read_log-empty, read_log-step, read_log-fault}
use Rattle.merkle_records.specs.Scheme.{Scheme}
use Rattle.verifier_commands.specs.Event.{Event}
use Rattle.verifier_commands.specs.Machine.{Machine}
use Rattle.verifier_commands.specs.Trace.{Done, performed, trace}
use Rattle.verifier_run.specs.Kept.{items_of, parts_of, part_in}
use Rattle.verifier_run.specs.Course.{Course, opening_course, refuse, after_step, after_command}
use Rattle.verifier_run.specs.Progress.{Progress, between_commands, progress_over, fed, ended}
use Rattle.verifier_run.specs.LogCourse.{course_of, log_course}
use Rattle.verifier_run.proofs.CourseLemmas.{by_cases, over-empty, over-refused, over-found, over-malformed, over-cut}

-- a course, and what came behind it
abbrev further : {A : Type 0} → Course A → Course A → Course A
further course more = record {
  machine = more.machine;
  items = course.items ++ more.items;
  parts = course.parts ++ more.parts;
  refused = more.refused;
}

-- nothing came behind a course but this refusal, if any
stays : {A : Type 0} (course : Course A) (refused : Option (ℕ × Refusal)) → record course { refused = refused } ≡ further course (record { machine = course.machine; items = []; parts = []; refused = refused })
stays {A = A} course refused =
    ap (λ (items : List A). record course { items = items; refused = refused }) (sym (append-nil course.items))
    ∙ ap (λ (parts : List Part). record course { items = course.items ++ []; parts = parts; refused = refused }) (sym (append-nil course.parts))

-- an open course is as it is
as_open : {A : Type 0} (course : Course A) → course.refused ≡ None → course ≡ record course { refused = None }
as_open course none = ap (λ (refused : Option (ℕ × Refusal)). record course { refused = refused }) none

module _ {A : Type 0} (keeps : Event → List A) where
  -- what a log comes to behind a course
  abbrev log_further : Scheme → Course A → Log → Course A
  log_further scheme course log = further course (course_of keeps (trace scheme course.machine log.commands) log.end)

  no_commands : (scheme : Scheme) (course : Course A) (end : LogEnd) → log_further scheme course (record { commands = []; end = end }) ≡ record course { refused = (course_of keeps (record { done = []; state = course.machine; refused = None }) end).refused }
  unfolding traced
  no_commands scheme course end = sym (stays course _)

  -- behind a step: what comes behind is a further course, or the step is refused and nothing does
  behind_step : (scheme : Scheme) (course : Course A) (rest : List ℕ) (log : Log) (step : Result (Done × Machine) Refusal)
      → ((done : Done × Machine) → ended (progress_over keeps scheme (after_step keeps course (Ok done)) rest) ≡ between_commands (log_further scheme (after_step keeps course (Ok done)) log))
      → ended (progress_over keeps scheme (after_step keeps course step) rest)
      ≡ between_commands (further course (course_of keeps (traced_behind course.machine step (λ after. trace scheme after log.commands)) log.end))
  behind_step scheme course rest log (Ok done) later =
      let behind = trace scheme done.1 log.commands in
      let refused = (course_of keeps behind log.end).refused in
      later done
      ∙ (ap (λ (items : List A). between_commands (record { machine = behind.state; items = items; parts = (course.parts ++ part_in done.0.effect) ++ parts_of behind.done; refused = refused }))
      (append_assoc course.items (keeps done.0.event) (items_of keeps behind.done))
      ∙ ap (λ (parts : List Part). between_commands (record { machine = behind.state; items = course.items ++ (keeps done.0.event ++ items_of keeps behind.done); parts = parts; refused = refused }))
      (append_assoc course.parts (part_in done.0.effect) (parts_of behind.done)))
  behind_step scheme course rest log (Err refusal) later =
      ap ended (over-refused keeps scheme (refuse course refusal) rest (course.machine.accepted, refusal) refl)
      ∙ ap between_commands (stays course (Some (course.machine.accepted, refusal)))

  behind_command : (scheme : Scheme) (course : Course A) (command : LogCommand) (rest : List ℕ) (log : Log)
      → ((done : Done × Machine) → ended (progress_over keeps scheme (after_step keeps course (Ok done)) rest) ≡ between_commands (log_further scheme (after_step keeps course (Ok done)) log))
      → ended (progress_over keeps scheme (after_command keeps scheme course command) rest) ≡ between_commands (log_further scheme course (with_command command log))
  unfolding traced after_command
  behind_command scheme course command rest log later =
      behind_step scheme course rest log (performed scheme course.machine command) later

  further_up_to : (count : ℕ) (scheme : Scheme) (course : Course A) (bytes : List ℕ) → length bytes ≤ count → course.refused ≡ None
      → ended (progress_over keeps scheme course bytes) ≡ between_commands (log_further scheme course (read_log scheme.format bytes))
  further_up_to count scheme course [] enough none =
      ap ended (over-empty keeps scheme course)
      ∙ (ap between_commands (as_open course none ∙ sym (no_commands scheme course whole))
      ∙ ap (λ (log : Log). between_commands (log_further scheme course log)) (sym (read_log-empty scheme.format)))
  further_up_to zero scheme course (byte ∷ bytes) enough none = absurd (omega arith)
  further_up_to (suc count) scheme course (byte ∷ bytes) enough none =
      by_cases (ended (progress_over keeps scheme course (byte ∷ bytes)) ≡ between_commands (log_further scheme course (read_log scheme.format (byte ∷ bytes))))
      course.refused (command_at scheme.format (byte ∷ bytes))
      (λ at e. absurd (cc))
      (λ command rest none is.
      let shorter : length rest < length (byte ∷ bytes) = command_shorter scheme.format (byte ∷ bytes) command rest is in
      ap ended (over-found keeps scheme course (byte ∷ bytes) command rest none is)
      ∙ (behind_command scheme course command rest (read_log scheme.format rest)
      (λ done. further_up_to count scheme (after_step keeps course (Ok done)) rest (omega arith) none)
      ∙ ap (λ (log : Log). between_commands (log_further scheme course log)) (sym (read_log-step scheme.format (byte ∷ bytes) command rest is))))
      (λ none is.
      ap ended (over-malformed keeps scheme course (byte ∷ bytes) none is)
      ∙ (ap between_commands (sym (no_commands scheme course (faulty faults.Malformed)))
      ∙ ap (λ (log : Log). between_commands (log_further scheme course log)) (sym (read_log-fault scheme.format (byte ∷ bytes) faults.Malformed (omega arith) is))))
      (λ none is.
      ap ended (over-cut keeps scheme course (byte ∷ bytes) none is)
      ∙ (ap between_commands (sym (no_commands scheme course (faulty faults.Truncated)))
      ∙ ap (λ (log : Log). between_commands (log_further scheme course log)) (sym (read_log-fault scheme.format (byte ∷ bytes) faults.Truncated (omega arith) is))))

  -- A whole log, from the opening on, comes to the course of its trace.
  pub log_comes_to_its_course : (scheme : Scheme) (machine : Machine) (log : List ℕ) → ended (fed keeps scheme (between_commands (opening_course machine)) log) ≡ between_commands (log_course keeps scheme machine log)
  log_comes_to_its_course scheme machine log = further_up_to (length log) scheme (opening_course machine) log (omega arith) refl

  -- The same, step by step as a caller goes: the opening, the bytes, the end.
  pub whole_log_run : (scheme : Scheme) (machine : Machine) (log : List ℕ) (first fed_all last : Progress A)
      → first ≡ between_commands (opening_course machine) → fed_all ≡ fed keeps scheme first log → last ≡ ended fed_all
      → last.course ≡ log_course keeps scheme machine log
  whole_log_run scheme machine log first fed_all last opens feeds ends =
      ap (λ (progress : Progress A). progress.course) ends
      ∙ (ap (λ (progress : Progress A). (ended progress).course) feeds
      ∙ (ap (λ (progress : Progress A). (ended (fed keeps scheme progress log)).course) opens
      ∙ ap (λ (progress : Progress A). progress.course) (log_comes_to_its_course scheme machine log)))
