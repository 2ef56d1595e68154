-- The last line of a report, behind all else.
use Rattle.std.proofs.Common.{◌≡◌, ℕ, ◌≤◌, List, [], ◌++◌, map, Option, None, Some, IfSome, refl, sym, ◌∙◌, ap, subst, append_assoc}
use Rattle.fv_outside.specs.Consumed.{TookAtMost}
use Rattle.fv_outside.specs.Faults.{Rose}
use Rattle.fv_outside.specs.Written.{Grows, GrowsByFront}
use Rattle.fv_outside.specs.declared.failure.Failure.{Failure}
use Rattle.fv_outside.specs.declared.failure.Failure.TheVariants as failures
use Rattle.fv_outside.proofs.WrittenLaws.{Grows-then, GrowsByFront-more, GrowsByFront-then}
use Rattle.record_hash.specs.Functions.{DigestFunctions}
use Rattle.lamport_clocks.specs.declared.header.Header.{Header}
use Rattle.merkle_records.specs.Scheme.{scheme_of}
use Rattle.log_codec.specs.Log.{read_log}
use Rattle.record_text.specs.Format.{format_of}
use Rattle.bundle_frames.specs.Extent.{reading_end}
use Rattle.report_text.specs.declared.status.Status.{Status}
use Rattle.report_text.specs.declared.status.Status.TheVariants as statuses
use Rattle.report_text.specs.declared.ending.BundleEnd.{BundleEnd}
use Rattle.report_text.specs.declared.ending.BundleEnd.TheVariants as bundles
use Rattle.report_text.specs.Ending.{status_of, failure_status}
use Rattle.report_text.specs.Answer.{Answer, IsEnd, OfTaken, Reading, Writing, AnswersNear, AnswersTo}
use Rattle.report_text.proofs.AnsweringLaws.{rose_before, near-end, near-write_fault}
use Rattle.bundle_report.specs.Logged.{logged_of}
use Rattle.bundle_report.specs.Report.{operations_told}
use Rattle.bundle_report.specs.BundleReport.{histories_in, certified_lines}
use Rattle.check_core.specs.Asked.{Asked, unended, asked_at, asked_answer}

-- ---- the answers with and without it

-- one answer is another and a text behind it
pub record IsLonger (last : Status → List ℕ) (short long : Answer) : Type 0 where
  pub text : long.text ≡ short.text ++ last short.status
  pub due : long.due ≡ short.due
  pub status : long.status ≡ short.status

module _ (asked : Asked) (functions : DigestFunctions) where
  longer_at : (header : Option Header) (logs : List (List ℕ)) (bad : Option ℕ)
      → IsLonger asked.last (asked_at (unended asked) functions header logs bad) (asked_at asked functions header logs bad)
  longer_at None logs bad = record { text = refl; due = refl; status = refl }
  longer_at (Some header) logs bad =
      let lines = (asked_at asked functions (Some header) logs bad).due in
      let scheme = scheme_of functions header in
      let read = map (read_log (format_of header)) logs in
      let behind = asked.behind (certified_lines operations_told scheme header (histories_in scheme header read)) in
      let last = asked.last (asked_at asked functions (Some header) logs bad).status in
      record {
        text =
            ap (λ (text : List ℕ). lines ++ text) (sym (append_assoc behind [] last)) ∙ sym (append_assoc lines (behind ++ []) last);
        due = refl;
        status = refl;
      }

  pub longer : (bytes : List ℕ) → IsLonger asked.last (asked_answer (unended asked) functions bytes) (asked_answer asked functions bytes)
  longer bytes = longer_at (logged_of bytes).header (logged_of bytes).logs (logged_of bytes).bad

-- ---- what holds of bytes that are told

pub if_some : (P Q : List ℕ → Type 0) (x : Option (List ℕ)) → ((bytes : List ℕ) → P bytes → Q bytes) → IfSome x P → IfSome x Q
if_some P Q None so holds = tt
if_some P Q (Some bytes) so holds = so bytes holds

of_both : (P Q R : List ℕ → Type 0) (x : Option (List ℕ)) → ((bytes : List ℕ) → P bytes → Q bytes → R bytes) → IfSome x P → IfSome x Q → IfSome x R
of_both P Q R None so first second = tt
of_both P Q R (Some bytes) so first second = so bytes first second

pub of_taken : (most : ℕ) (P Q : List ℕ → Type 0) (x y : Option (List ℕ)) → ((bytes : List ℕ) → P bytes → Q bytes) → OfTaken most P x y → OfTaken most Q x y
of_taken most P Q None y so holds = tt
of_taken most P Q (Some bytes) None so holds = tt
of_taken most P Q (Some bytes) (Some rest) so holds = so _ holds

-- ---- the statuses

pub is_end : (end : BundleEnd) → IsEnd (status_of end)
is_end (bundles.Done epochs) = tt
is_end (bundles.BadBundle offset) = tt
is_end (bundles.Refused verifier index refusal) = tt
is_end (bundles.Unbalanced epoch added evicted) = tt

no_end : (limit : ℕ) (failure : Failure) → IsEnd (failure_status limit failure) → ⊥
no_end limit failures.Memory end = end
no_end limit failures.ReadFault end = end
no_end limit failures.InputLimit end = end
no_end limit failures.VaultFault end = end
no_end limit failures.WriteFault end = end

-- ---- what is answered

-- an answer and a longer one
module _ (last : Status → List ℕ) (short long : List ℕ → Answer) (longer : (bytes : List ℕ) → IsLonger last (short bytes) (long bytes)) (more : ℕ) (end_of : List ℕ → ℕ)
    (limit : ℕ) (reading : Reading) (held held_now : Option (List ℕ)) (faults faults_now : ℕ) where
  -- what is written, up to the last line and with it
  abbrev wrote : Option (List ℕ) → ℕ → Writing
  wrote held_then faults_then = record { held = held; held_after = held_then; faults = faults; faults_after = faults_then }

  abbrev Before : Status → Type 0
  Before result = AnswersNear more short end_of limit result reading (wrote held_now faults_now)

  -- where a check isn't carried through, it comes to no last line
  pub near_failed : (failure : Failure) → Before (failure_status limit failure)
      → AnswersNear more long end_of limit (failure_status limit failure) reading (wrote held_now faults_now)
  near_failed failure answers = record {
    status = λ end. absurd (no_end limit failure end);
    report = λ end. absurd (no_end limit failure end);
    front = λ is. if_some _ (λ bytes. GrowsByFront held held_now (long bytes).text) reading.left (λ bytes front.
        subst (GrowsByFront held held_now) (sym (longer bytes).text)
        (GrowsByFront-more held held_now _ (last (short bytes).status) front)) (answers.front is);
    due = λ is. of_taken limit _ (λ bytes. Grows held held_now (long bytes).due) reading.left reading.left_after
        (λ bytes grows. subst (Grows held held_now) (sym (longer bytes).due) grows) (answers.due is);
    due_front = λ is. of_taken limit _ (λ bytes. GrowsByFront held held_now (long bytes).due) reading.left reading.left_after
        (λ bytes grows. subst (GrowsByFront held held_now) (sym (longer bytes).due) grows) (answers.due_front is);
    limit = answers.limit;
    within = answers.within;
    past = answers.past;
    reached = λ end. absurd (no_end limit failure end);
    stops = answers.stops;
    beyond = answers.beyond;
    read_fault = answers.read_fault;
    write_fault = answers.write_fault;
  }

  module _ (end : BundleEnd) (answers : Before (status_of end)) (held_then : Option (List ℕ)) (faults_then : ℕ) where
    within_limit : TookAtMost limit reading.left reading.left_after
    within_limit = answers.within (λ is. subst IsEnd is (is_end end)) (λ is. subst IsEnd is (is_end end)) (λ is. subst IsEnd is (is_end end))

    -- with the last line
    pub near_ended : Grows held_now held_then (last (status_of end))
        → AnswersNear more long end_of limit (status_of end) reading (wrote held_then faults_then)
    near_ended line =
        near-end more long end_of limit reading (wrote held_then faults_then) (status_of end) (is_end end)
        (if_some _ (λ bytes. status_of end ≡ (long bytes).status) reading.left
        (λ bytes same. same ∙ sym (longer bytes).status) (answers.status (is_end end)))
        (of_both _ _ (λ bytes. Grows held held_then (long bytes).text) reading.left
        (λ bytes same grows.
        subst (Grows held held_then) (sym (longer bytes).text)
        (Grows-then held held_now held_then _ _ grows (subst (λ (status : Status). Grows held_now held_then (last status)) same line)))
        (answers.status (is_end end)) (answers.report (is_end end)))
        within_limit (answers.reached (is_end end)) answers.stops

    -- or a front of it
    pub near_cut : GrowsByFront held_now held_then (last (status_of end)) → faults ≤ faults_now → Rose faults_now faults_then
        → AnswersNear more long end_of limit statuses.WriteFault reading (wrote held_then faults_then)
    near_cut line falls rose =
        near-write_fault more long end_of limit reading (wrote held_then faults_then)
        (of_both _ _ (λ bytes. GrowsByFront held held_then (long bytes).text) reading.left
        (λ bytes same grows.
        subst (GrowsByFront held held_then) (sym (longer bytes).text)
        (GrowsByFront-then held held_now held_then _ _ grows (subst (λ (status : Status). GrowsByFront held_now held_then (last status)) same line)))
        (answers.status (is_end end)) (answers.report (is_end end)))
        answers.past answers.stops (rose_before faults faults_now faults_then falls rose)

-- of all that is asked
module _ (asked : Asked) (functions : DigestFunctions) where
  pub failed_answers : (limit : ℕ) (reading : Reading) (held held_now : Option (List ℕ)) (faults faults_now : ℕ) (failure : Failure)
      → AnswersTo (asked_answer (unended asked) functions) reading_end limit (failure_status limit failure) reading (record { held = held; held_after = held_now; faults = faults; faults_after = faults_now })
      → AnswersTo (asked_answer asked functions) reading_end limit (failure_status limit failure) reading (record { held = held; held_after = held_now; faults = faults; faults_after = faults_now })
  failed_answers = near_failed asked.last (asked_answer (unended asked) functions) (asked_answer asked functions) (longer asked functions) 0 reading_end

  pub ended_answers : (limit : ℕ) (reading : Reading) (held held_now : Option (List ℕ)) (faults faults_now : ℕ) (end : BundleEnd)
      → AnswersTo (asked_answer (unended asked) functions) reading_end limit (status_of end) reading (record { held = held; held_after = held_now; faults = faults; faults_after = faults_now })
      → (held_then : Option (List ℕ)) (faults_then : ℕ) → Grows held_now held_then (asked.last (status_of end))
      → AnswersTo (asked_answer asked functions) reading_end limit (status_of end) reading (record { held = held; held_after = held_then; faults = faults; faults_after = faults_then })
  ended_answers = near_ended asked.last (asked_answer (unended asked) functions) (asked_answer asked functions) (longer asked functions) 0 reading_end

  pub cut_line_answers : (limit : ℕ) (reading : Reading) (held held_now : Option (List ℕ)) (faults faults_now : ℕ) (end : BundleEnd)
      → AnswersTo (asked_answer (unended asked) functions) reading_end limit (status_of end) reading (record { held = held; held_after = held_now; faults = faults; faults_after = faults_now })
      → (held_then : Option (List ℕ)) (faults_then : ℕ) → GrowsByFront held_now held_then (asked.last (status_of end)) → faults ≤ faults_now → Rose faults_now faults_then
      → AnswersTo (asked_answer asked functions) reading_end limit statuses.WriteFault reading (record { held = held; held_after = held_then; faults = faults; faults_after = faults_then })
  cut_line_answers = near_cut asked.last (asked_answer (unended asked) functions) (asked_answer asked functions) (longer asked functions) 0 reading_end
