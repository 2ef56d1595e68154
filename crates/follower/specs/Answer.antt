-- What following a bundle answers to bytes: the map, and the status and last line of the report.
use Rattle.std.specs.Prelude.{ℕ, List, [], ◌++◌, map, Option, Some, None}
use Rattle.record_hash.specs.Functions.{DigestFunctions}
use Rattle.record_hash.specs.ShaDigests.{sha_under}
use Rattle.lamport_clocks.specs.declared.header.Header.{Header}
use Rattle.record_text.specs.Format.{format_of}
use Rattle.log_codec.specs.Log.{Log, read_log}
use Rattle.merkle_records.specs.Scheme.{Scheme, scheme_of}
use Rattle.report_text.specs.Ending.{status_of}
use Rattle.report_text.specs.Answer.{Answer}
use Rattle.report_text.specs.KeyLines.{map_text}
use Rattle.report_text.specs.Status.{last_line}
use Rattle.stamp_order.specs.Serial.{none_everywhere}
use Rattle.soundness.specs.Certified.{certified_operations}
use Rattle.bundle_report.specs.Logged.{Logged, logged_of}
use Rattle.bundle_report.specs.BundleReport.{histories_in, end_of}
use Rattle.bundle_report.specs.Answer.{no_answer}
use Rattle.follower.specs.Followed.{map_behind}

-- to logs under a header, in a bundle in which so much is bad: the plain map behind their certified operations, and the last line of
-- their report; nothing is due where no more can be read
abbrev pub follow_on : Scheme → Header → List Log → Option ℕ → Answer
follow_on scheme header logs bad =
    let histories = histories_in scheme header logs in
    let end = status_of (end_of scheme header logs histories bad) in
    record {
      text = map_text (map_behind none_everywhere (certified_operations scheme header.first histories)) ++ last_line end;
      due = [];
      status = end;
    }

-- to a bundle with this header, if it is good, and these logs
abbrev pub follow_at : DigestFunctions → Option Header → List (List ℕ) → Option ℕ → Answer
follow_at functions None logs bad = no_answer
follow_at functions (Some header) logs bad = follow_on (scheme_of functions header) header (map (read_log (format_of header)) logs) bad

-- to a bundle that was read
abbrev pub follow_by : DigestFunctions → Logged → Answer
follow_by functions bundle = follow_at functions bundle.header bundle.logs bundle.bad

-- What following answers to bytes, where the verifiers compute these functions.
abbrev pub follow_answer : DigestFunctions → List ℕ → Answer
follow_answer functions bytes = follow_by functions (logged_of bytes)

-- the same with SHA-256, and with HMAC under a key
abbrev pub sha_follow_answer : List ℕ → List ℕ → Answer
sha_follow_answer key bytes = follow_answer (sha_under key) bytes
