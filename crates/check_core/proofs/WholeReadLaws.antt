-- What a call answers that reads a whole bundle before it writes anything: an answer to what was read is one to the bytes.
use Rattle.std.proofs.Common.{◌≡◌, ℕ, List, Option, Some, None, IfSome, Ok, Err, refl, sym, subst}
use Rattle.fv_outside.specs.Consumed.{TookAtMost, TookToEnd, StopsAtEnd}
use Rattle.fv_outside.specs.Faults.{Rose}
use Rattle.fv_outside.specs.Written.{Grows, GrowsByFront}
use Rattle.fv_outside.specs.declared.failure.Failure.{Failure}
use Rattle.fv_outside.specs.declared.failure.Failure.TheVariants as failures
use Rattle.fv_outside.proofs.WrittenLaws.{GrowsByFront-none}
use Rattle.report_text.specs.declared.status.Status.{Status}
use Rattle.report_text.specs.Ending.{failure_status}
use Rattle.report_text.specs.Answer.{Answer, IsEnd, Reading, Writing, AnswersTo}
use Rattle.report_text.proofs.AnsweringLaws.{of_taken_any, took_more, answers-end, answers-memory, answers-write_fault}
use Rattle.bundle_frames.specs.Extent.{reading_end}
use Rattle.bundle_report.specs.Logged.{Logged, logged_of}
use Rattle.bundle_report.specs.Answer.{EndsAs}

-- what holds of what was read of a source, holds of what its bytes are read as
pub of_left : (P : Logged → Type 0) (left : Option (List ℕ)) (read : Logged) → IfSome left (λ bytes. read ≡ logged_of bytes)
    → P read → IfSome left (λ bytes. P (logged_of bytes))
of_left P None read is holds = tt
of_left P (Some bytes) read is holds = subst P is holds

module _ (answer : Logged → Answer) (limit : ℕ) (reading : Reading) (writing : Writing) (read : Logged)
    (is : IfSome reading.left (λ bytes. read ≡ logged_of bytes)) (within : TookAtMost limit reading.left reading.left_after)
    (stops : StopsAtEnd reading_end reading.left reading.left_after) {E : Type 0} (status : E → Status) where
  -- where it ends
  pub whole_read-ends : (end : E) → IsEnd (status end) → TookToEnd reading_end reading.left reading.left_after
      → EndsAs status (Ok end) writing.held writing.held_after (answer read)
      → AnswersTo (λ bytes. answer (logged_of bytes)) reading_end limit (status end) reading writing
  whole_read-ends end is_end reached told =
      answers-end (λ bytes. answer (logged_of bytes)) reading_end limit reading writing (status end) is_end
      (of_left (λ bundle. status end ≡ (answer bundle).status) reading.left read is told.0)
      (of_left (λ bundle. Grows writing.held writing.held_after (answer bundle).text) reading.left read is told.1)
      within reached stops

  -- where what it writes stops
  pub whole_read-stops : (stop : Failure) → EndsAs status (Err stop) writing.held writing.held_after (answer read)
      → (stop ≡ failures.Memory → writing.held_after ≡ writing.held) → (stop ≡ failures.WriteFault → Rose writing.faults writing.faults_after)
      → AnswersTo (λ bytes. answer (logged_of bytes)) reading_end limit (failure_status limit stop) reading writing
  whole_read-stops failures.Memory told same rose =
      answers-memory (λ bytes. answer (logged_of bytes)) reading_end limit reading writing
      (of_taken_any (λ bytes. GrowsByFront writing.held writing.held_after (answer (logged_of bytes)).due) limit reading.left reading.left_after (λ bytes.
      subst (λ (held : Option (List ℕ)). GrowsByFront writing.held held (answer (logged_of bytes)).due) (sym (same refl))
      (GrowsByFront-none writing.held (answer (logged_of bytes)).due)))
      (took_more limit reading.left reading.left_after within) stops
  whole_read-stops failures.ReadFault told same rose = absurd told
  whole_read-stops failures.InputLimit told same rose = absurd told
  whole_read-stops failures.VaultFault told same rose = absurd told
  whole_read-stops failures.WriteFault told same rose =
      answers-write_fault (λ bytes. answer (logged_of bytes)) reading_end limit reading writing
      (of_left (λ bundle. GrowsByFront writing.held writing.held_after (answer bundle).text) reading.left read is told)
      (took_more limit reading.left reading.left_after within) stops (rose refl)
