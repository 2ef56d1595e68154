-- What a check answers to bytes: its report, and the status that ends it.
use Rattle.std.specs.Prelude.{ℕ, ◌≡◌, Bool, List, [], map, Option, Some, None, Result, Ok, Err}
use Rattle.record_hash.specs.Functions.{DigestFunctions}
use Rattle.record_hash.specs.ShaDigests.{sha_under}
use Rattle.lamport_clocks.specs.declared.header.Header.{Header}
use Rattle.record_text.specs.Format.{format_of}
use Rattle.log_codec.specs.Log.{Log, read_log}
use Rattle.merkle_records.specs.Scheme.{Scheme, scheme_of}
use Rattle.report_text.specs.declared.status.Status.{Status}
use Rattle.report_text.specs.declared.status.Status.TheVariants.{BadBundle}
use Rattle.report_text.specs.Ending.{status_of}
use Rattle.report_text.specs.Answer.{Answer}
use Rattle.report_text.specs.Status.{last_line}
use Rattle.fv_outside.specs.Written.{Grows, GrowsByFront}
use Rattle.soundness.specs.Certified.{certified_count}
use Rattle.bundle_report.specs.Logged.{Logged, logged_of}
use Rattle.bundle_report.specs.Report.{EpochText, told_by}
use Rattle.fv_outside.specs.declared.failure.Failure.{Failure}
use Rattle.fv_outside.specs.declared.failure.Failure.TheVariants as failures
use Rattle.bundle_report.specs.BundleReport.{histories_in, histories_at, end_of, certified_lines, report_of_logs}

-- to logs under a header, in a bundle in which so much is bad: the lines of all epochs that they certify are due
abbrev pub answer_on : EpochText → Scheme → Header → List Log → Option ℕ → Answer
answer_on tell scheme header logs bad = record {
  text = report_of_logs tell scheme header logs (histories_in scheme header logs) bad;
  due = certified_lines tell scheme header (histories_in scheme header logs);
  status = status_of (end_of scheme header logs (histories_in scheme header logs) bad);
}

-- to a bundle that isn't taken: nothing is certified, and it is bad from its first byte
abbrev pub no_answer : Answer
no_answer = record { text = last_line (BadBundle 0); due = []; status = BadBundle 0 }

-- to a bundle with this header, if it is good, and these logs, with receipts or without
abbrev pub answer_at : Bool → DigestFunctions → Option Header → List (List ℕ) → Option ℕ → Answer
answer_at receipts functions None logs bad = no_answer
answer_at receipts functions (Some header) logs bad =
    answer_on (told_by receipts functions header) (scheme_of functions header) header (map (read_log (format_of header)) logs) bad

-- how many epochs of a bundle are certified, with this header, if it is good, and these logs
abbrev pub certified_at : DigestFunctions → Option Header → List (List ℕ) → ℕ
certified_at functions None logs = 0
certified_at functions (Some header) logs =
    certified_count (scheme_of functions header) header.first (histories_at (scheme_of functions header) header logs)

-- to a bundle that was read
abbrev pub answer_by : Bool → DigestFunctions → Logged → Answer
answer_by receipts functions bundle = answer_at receipts functions bundle.header bundle.logs bundle.bad

-- What a check answers to bytes, with receipts or without, where the verifiers compute these functions.
abbrev pub check_answer : Bool → DigestFunctions → List ℕ → Answer
check_answer receipts functions bytes = answer_by receipts functions (logged_of bytes)

-- the same with SHA-256, and with HMAC under a key
abbrev pub sha_check_answer : Bool → List ℕ → List ℕ → Answer
sha_check_answer receipts key bytes = check_answer receipts (sha_under key) bytes

-- What was written is the text of an answer, whose status goes with this end; where the sink failed, a front of it.
abbrev pub EndsAs : {E : Type 0} → (E → Status) → Result E Failure → Option (List ℕ) → Option (List ℕ) → Answer → Type 0
EndsAs status (Ok end) old new answer = (status end ≡ answer.status) × Grows old new answer.text
EndsAs status (Err failures.Memory) old new answer = Unit {0}
EndsAs status (Err failures.ReadFault) old new answer = ⊥
EndsAs status (Err failures.InputLimit) old new answer = ⊥
EndsAs status (Err failures.VaultFault) old new answer = ⊥
EndsAs status (Err failures.WriteFault) old new answer = GrowsByFront old new answer.text
