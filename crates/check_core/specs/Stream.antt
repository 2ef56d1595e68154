-- A check in the middle of a bundle: what has come of it, and what was made of that.
use Rattle.std.specs.Prelude.{◌≡◌, ◌≢◌, ℕ, ◌+◌, ◌-◌, ◌<◌, ◌≤◌, false, List, length, map, Option, Some, None, IfSome, Result, Err}
use Rattle.std.specs.List.{AllByRecursion}
use Rattle.fv_outside.specs.Consumed.{TookAtLeast, TookAtMost, TookJust, most_behind}
use Rattle.fv_outside.specs.Faults.{Rose}
use Rattle.fv_outside.specs.declared.failure.Failure.{Failure}
use Rattle.fv_outside.specs.declared.failure.Failure.TheVariants as failures
use Rattle.record_hash.specs.Functions.{DigestFunctions}
use Rattle.lamport_clocks.specs.declared.header.Header.{Header}
use Rattle.merkle_records.specs.Scheme.{scheme_of}
use Rattle.report_text.specs.declared.status.Status.TheVariants.{Done}
use Rattle.report_text.specs.declared.ending.BundleEnd.{BundleEnd}
use Rattle.report_text.specs.Answer.{Answer, answer_behind, Reading as ReadBy, Writing}
use Rattle.bundle_frames.specs.Extent.{reading_end}
use Rattle.bundle_frames.specs.Reading.{Reading, end_ahead, HasRead, ReadsAs}
use Rattle.bundle_report.specs.declared.judged.Judged.{Judged}
use Rattle.bundle_report.specs.Logged.{logged_of}
use Rattle.bundle_report.specs.Report.{EpochTold}
use Rattle.bundle_report.specs.Answer.{check_answer}
use Rattle.bundle_report.specs.BundleReport.{certified_lines, histories_at}
use Rattle.bundle_report.specs.RunReport.{courses_of}
use Rattle.bundle_report.specs.SoFar.{HaveRead, lines_from}
use Rattle.resumed_runs.specs.Kept.{IsUnbroken}
use Rattle.certified_epochs.specs.declared.fed_run.FedRun.{FedRun}
use Rattle.check_core.specs.Asked.{Asked, asked_answer}
use Rattle.check_core.specs.Intake.{behind_at}

-- Of a source that had these bytes and so many faults so much has come: what was taken, and that the bytes mean these logs
-- so far and what is ahead. Behind where reading ends no more was taken than the rest of one read and so many more.
pub record HasCome (left : Option (List ℕ)) (faults more : ℕ) (logs : List (List ℕ)) (reading : Reading) (left_now : Option (List ℕ))
    (faults_now : ℕ) : Type 0 where
  pub having_read : HasRead reading.taken left left_now
  pub means : ReadsAs reading.taken left logged_of (behind_at logs reading)
  pub extent : ReadsAs reading.taken left reading_end (end_ahead reading)
  pub near : 0 < reading.taken → IfSome left (λ bytes. reading.taken ≤ reading_end bytes + (more + most_behind))
  pub never_falls : faults ≤ faults_now

-- the runs have taken these logs so far, and the epochs that are counted are taken out of them
abbrev pub AreChecked : DigestFunctions → Header → List (List ℕ) → Judged → List FedRun → Type 0
AreChecked functions header logs so_far runs = HaveRead (scheme_of functions header) header logs so_far (map (λ fed. fed.run) runs)

-- the lines of the epochs that are counted, or what else is told of them
abbrev pub lines_counted : {A : Type 0} → EpochTold A → DigestFunctions → Header → List (List ℕ) → Judged → List A
lines_counted tell functions header logs so_far = lines_from tell (courses_of (scheme_of functions header) header logs) header.first so_far.count

-- the lines of all epochs that logs certify, or what else is told of them
abbrev pub lines_due : {A : Type 0} → EpochTold A → DigestFunctions → Header → List (List ℕ) → List A
lines_due tell functions header logs = certified_lines tell (scheme_of functions header) header (histories_at (scheme_of functions header) header logs)

-- what is asked of bytes, without the lines of the epochs that are counted of these logs
abbrev pub asked_behind : Asked → DigestFunctions → Header → List (List ℕ) → Judged → List ℕ → Answer
asked_behind asked functions header logs so_far bytes =
    answer_behind (length (lines_counted (asked.tell header) functions header logs so_far)) (asked_answer asked functions bytes)

-- What a call takes of a source of which so many bytes were taken, where no more than a limit may be, and whose faults rose: past the limit
-- it takes one byte.
pub record ReadsWithin (result : Result BundleEnd Failure) (taken most : ℕ) (reading : ReadBy) (writing : Writing) : Type 0 where
  pub limit : result ≡ Err failures.InputLimit → TookJust (most + 1 - taken) reading.left reading.left_after
  pub within : result ≢ Err failures.InputLimit → result ≢ Err failures.WriteFault → result ≢ Err failures.Memory
      → TookAtMost (most - taken) reading.left reading.left_after
  pub past : TookAtMost (most + 1 - taken) reading.left reading.left_after
  pub least : TookAtLeast 0 reading.left reading.left_after
  pub read_fault : result ≡ Err failures.ReadFault → Rose reading.faults reading.faults_after
  pub write_fault : result ≡ Err failures.WriteFault → Rose writing.faults writing.faults_after

-- A source that had these bytes was read to its end, and what it had is a bundle of which nothing is bad or refused: so many bytes, and runs
-- of its logs out of which all certified epochs were taken, in number.
pub record IsReadWhole (functions : DigestFunctions) (header : Header) (left : Option (List ℕ)) (taken certified : ℕ) (runs : List FedRun) : Type 0 where
  pub logs : List (List ℕ)
  pub checked : AreChecked functions header logs (record { count = certified; unbalanced = None }) runs
  pub unbroken : AllByRecursion IsUnbroken (map (λ fed. fed.run) runs)
  pub means : IfSome left (λ bytes. logged_of bytes ≡ record { header = Some header; logs = logs; bad = None })
  pub done : IfSome left (λ bytes. (check_answer false functions bytes).status ≡ Done certified)
  pub all : IfSome left (λ bytes. taken ≡ length bytes)
