-- Going on from a seal that was found, over what was read with it and what its source has behind that.
use Rattle.std.specs.Prelude.{◌≡◌, ◌≢◌, ℕ, ◌+◌, ◌-◌, ◌≤◌, false, List, [], ◌++◌, length, take, drop, Option}
use Rattle.std.specs.Io.KnownBytes.{Consumes}
use Rattle.fv_outside.specs.Consumed.{TookAtMost, TookJust, most_behind}
use Rattle.fv_outside.specs.Faults.{Rose}
use Rattle.record_hash.specs.Functions.{DigestFunctions}
use Rattle.report_text.specs.declared.status.Status.{Status}
use Rattle.report_text.specs.declared.status.Status.TheVariants as statuses
use Rattle.report_text.specs.Answer.{Answer, answer_behind, Reading, Writing, AnswersNear}
use Rattle.seals.specs.Kept.{seal_in}
use Rattle.bundle_report.specs.Answer.{check_answer}
use Rattle.resumed_runs.specs.Kept.{IsSealOf}
use Rattle.check_core.specs.Asked.{unended, asked_answer}
use Rattle.check_core.specs.Told.{asked_for}
use Rattle.check_core.specs.declared.told.Told.TheVariants.{Lines}
use Rattle.check_core.specs.declared.seal_reading.FoundSeal.{FoundSeal}
use Rattle.check_core.specs.Resuming.{resumed_answer, resumed_end}

-- What is answered to bytes that begin with the seal of a bundle, which has so many of them, up to the last line: the rest of the report of
-- the bundle with what follows the seal.
abbrev pub unended_answer : DigestFunctions → List ℕ → ℕ → List ℕ → Answer
unended_answer functions sealed count bytes =
    answer_behind (length (check_answer false functions sealed).due) (asked_answer (unended (asked_for (Lines false) functions (λ operations. []))) functions (sealed ++ drop count bytes))

-- What a call did that goes on from a seal and answers this.
pub record GoesFromAs (answer : List ℕ → ℕ → List ℕ → Answer) (functions : DigestFunctions) (most : ℕ) (found : FoundSeal) (result : Status)
    (reading : Reading) (writing : Writing) : Type 0 where
  -- with what was read with the seal no more is taken than may be
  pub limit : (taken : ℕ) → result ≡ statuses.InputLimit taken → (taken ≡ most) × TookJust (most + 1 - found.until) reading.left reading.left_after
  pub within : result ≢ statuses.InputLimit most → result ≢ statuses.WriteFault → result ≢ statuses.Memory
      → TookAtMost (most - found.until) reading.left reading.left_after
  pub past : TookAtMost (most + 1 - found.until) reading.left reading.left_after
  -- a fault comes only where the object's own count of faults rose
  pub read_fault : result ≡ statuses.ReadFault → Rose reading.faults reading.faults_after
  pub write_fault : result ≡ statuses.WriteFault → Rose writing.faults writing.faults_after
  -- where it is the seal of a bundle, and not too much was read with it: what is answered to all that the source had
  pub goes_on : (sealed : List ℕ) (start : Option (List ℕ)) → IsSealOf functions sealed (seal_in found.state)
      → found.until ≤ found.count + (found.count + most_behind)
      → Consumes start reading.left (take found.until found.buffer.items)
      → AnswersNear found.count (answer sealed found.count) (resumed_end sealed found.count) most result
      (record { left = start; left_after = reading.left_after; faults = reading.faults; faults_after = reading.faults_after }) writing

-- the same with the last line
abbrev pub GoesFrom : DigestFunctions → ℕ → FoundSeal → Status → Reading → Writing → Type 0
GoesFrom functions = GoesFromAs (resumed_answer functions) functions
