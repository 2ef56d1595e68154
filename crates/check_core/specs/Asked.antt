-- What is asked of a bundle, and the answer to its bytes.
use Rattle.std.specs.Prelude.{ℕ, List, [], ◌++◌, map, Option, Some, None}
use Rattle.record_hash.specs.Functions.{DigestFunctions}
use Rattle.lamport_clocks.specs.declared.header.Header.{Header}
use Rattle.record_text.specs.Format.{format_of}
use Rattle.record_text.specs.declared.operation.Operation.{Operation}
use Rattle.log_codec.specs.Log.{Log, read_log}
use Rattle.merkle_records.specs.Scheme.{Scheme, scheme_of}
use Rattle.report_text.specs.Ending.{status_of}
use Rattle.report_text.specs.Answer.{Answer}
use Rattle.report_text.specs.declared.status.Status.{Status}
use Rattle.report_text.specs.declared.status.Status.TheVariants.{BadBundle}
use Rattle.bundle_report.specs.Logged.{Logged, logged_of}
use Rattle.bundle_report.specs.Report.{EpochText, operations_told}
use Rattle.bundle_report.specs.BundleReport.{histories_in, end_of, certified_lines}

-- what is told of each epoch under a header, what is written behind that of all certified operations, and what is written last where
-- the report ends so
pub record Asked : Type 0 where
  pub tell : Header → EpochText
  pub behind : List Operation → List ℕ
  pub last : Status → List ℕ

-- the same with nothing written last
abbrev pub unended : Asked → Asked
unended asked = record asked { last = λ status. [] }

-- to logs under a header, in a bundle in which so much is bad: what is told of their epochs is due
abbrev pub asked_on : Asked → Scheme → Header → List Log → Option ℕ → Answer
asked_on asked scheme header logs bad =
    let histories = histories_in scheme header logs in
    let end = status_of (end_of scheme header logs histories bad) in
    record {
      text = certified_lines (asked.tell header) scheme header histories ++ (asked.behind (certified_lines operations_told scheme header histories) ++ asked.last end);
      due = certified_lines (asked.tell header) scheme header histories;
      status = end;
    }

-- to a bundle that isn't taken: it is bad from its first byte
abbrev pub asked_none : Asked → Answer
asked_none asked = record { text = asked.last (BadBundle 0); due = []; status = BadBundle 0 }

-- to a bundle with this header, if it is good, and these logs
abbrev pub asked_at : Asked → DigestFunctions → Option Header → List (List ℕ) → Option ℕ → Answer
asked_at asked functions None logs bad = asked_none asked
asked_at asked functions (Some header) logs bad =
    asked_on asked (scheme_of functions header) header (map (read_log (format_of header)) logs) bad

-- to a bundle that was read
abbrev pub asked_by : Asked → DigestFunctions → Logged → Answer
asked_by asked functions bundle = asked_at asked functions bundle.header bundle.logs bundle.bad

-- to bytes, where the verifiers compute these functions
abbrev pub asked_answer : Asked → DigestFunctions → List ℕ → Answer
asked_answer asked functions bytes = asked_by asked functions (logged_of bytes)
