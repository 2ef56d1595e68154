-- The refusal and the operations of all verifiers' runs are those of their histories.
use Rattle.std.proofs.Common.{◌≡◌, ℕ, suc, List, [], ◌∷◌, ◌++◌, length, map, Option, refl, sym, ◌∙◌, ap, zero-add}
use Rattle.merkle_records.specs.Scheme.{Scheme}
use Rattle.std.specs.List.{AllByRecursion}
use Rattle.std.specs.Option.{option_map, option_or}
use Rattle.std.proofs.lemmas.Grind.{flat_map-append}
use Rattle.lamport_clocks.specs.declared.header.Header.{Header}
use Rattle.record_text.specs.declared.operation.Operation.{Operation}
use Rattle.record_text.specs.declared.refusal.Refusal.{Refusal}
use Rattle.log_codec.specs.Log.{Log, read_log}
use Rattle.report_text.specs.declared.ending.BundleEnd.{BundleEnd}
use Rattle.stamp_order.specs.Operations.{moment_of}
use Rattle.verifier_commands.specs.Change.{Change, did_add_m, did_evict_m, did_add_b, did_evict_b, did_evict_bm, did_get, did_put, did_next_epoch}
use Rattle.verifier_commands.specs.Machine.{opening_machine}
use Rattle.verifier_commands.specs.Trace.{trace}
use Rattle.verifier_commands.proofs.TraceLaws.{trace-accepted}
use Rattle.verifier_run.specs.Kept.{keeps_operations}
use Rattle.verifier_run.specs.LogCourse.{refusal_by, log_course}
use Rattle.soundness.specs.History.{Event, log_events, histories_from}
use Rattle.soundness.specs.Certified.{event_moment, all_events, operations_by, operations_in}
use Rattle.bundle_report.specs.BundleReport.{refused_in, refused_end, refused_among}
use Rattle.bundle_report.specs.RunReport.{courses_from, operations_among, first_refused}

-- ---- operations

-- an operation has the moment of its event
pub block_moment : (event : Event) (change : Change)
    → AllByRecursion (λ operation. moment_of operation ≡ event_moment event) (operations_by event change)
block_moment event (did_add_m parent after child) = tt
block_moment event (did_evict_m parent after child) = tt
block_moment event (did_add_b child element) = tt
block_moment event (did_evict_b child element) = tt
block_moment event (did_evict_bm parent after child element) = tt
block_moment event (did_get entry) = (refl, tt)
block_moment event (did_put before after) = (refl, tt)
block_moment event (did_next_epoch sealed) = tt

module _ (scheme : Scheme) (header : Header) where
  -- the histories of logs of bytes, the first of which is of the verifier of this number
  abbrev pub told_from : ℕ → List (List ℕ) → List (List Event)
  told_from number logs =
      histories_from scheme header number (map (λ (log : Log). log.commands) (map (read_log scheme.format) logs))

  -- the operations of all courses are those of all events
  pub operations-among : (number : ℕ) (logs : List (List ℕ))
      → operations_among (courses_from scheme header number logs)
      ≡ operations_in (all_events (told_from number logs))
  operations-among number [] = refl
  operations-among number (log ∷ logs) =
      let commands = (read_log scheme.format log).commands in
      ap (λ (ops : List Operation). operations_in (log_events scheme header number commands) ++ ops)
      (operations-among (suc number) logs)
      ∙ sym (flat_map-append (λ (event : Event). operations_by event event.change)
      (log_events scheme header number commands) (all_events (told_from (suc number) logs)))

  -- ---- refusals

  -- the refusal of a course is the one of its log
  course-refused : (number : ℕ) (log : List ℕ)
      → (log_course keeps_operations scheme (opening_machine number header) log).refused
      ≡ refused_in scheme header number (read_log scheme.format log)
  course-refused number log =
      let machine = opening_machine number header in
      let read = read_log scheme.format log in
      let events = log_events scheme header number read.commands in
      ap (λ (count : ℕ). option_map (λ (why : Refusal). (count, why)) (refusal_by (trace scheme machine read.commands).refused read.end))
      (trace-accepted scheme machine read.commands ∙ zero-add (length events))

  -- The first course that is refused is the first log that is.
  pub refused-courses : (number : ℕ) (logs : List (List ℕ))
      → first_refused number (courses_from scheme header number logs)
      ≡ refused_among scheme header number (map (read_log scheme.format) logs)
  refused-courses number [] = refl
  refused-courses number (log ∷ logs) =
      ap (λ (refused : Option (ℕ × Refusal)).
      option_or (option_map (refused_end number) refused)
      (first_refused (suc number) (courses_from scheme header (suc number) logs)))
      (course-refused number log)
      ∙ ap (λ (status : Option BundleEnd).
      option_or (option_map (refused_end number) (refused_in scheme header number (read_log scheme.format log)))
      status)
      (refused-courses (suc number) logs)
