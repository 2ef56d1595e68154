-- A bundle whose report ends with nothing bad, refused or unbalanced: its header and logs are whole, what is counted is what is certified, and its runs
-- are unbroken.
use Rattle.std.proofs.Common.{◌≡◌, ℕ, zero, suc, List, [], ◌∷◌, length, map, Option, Some, None, false, refl, sym, ◌∙◌, ap, subst}
use Rattle.std.specs.List.{AllByRecursion}
use Rattle.lamport_clocks.specs.declared.header.Header.{Header}
use Rattle.lamport_clocks.specs.Header.{IsHeader}
use Rattle.record_hash.specs.Functions.{DigestFunctions}
use Rattle.record_text.specs.declared.operation.Operation.{Operation}
use Rattle.record_text.specs.declared.refusal.Refusal.{Refusal}
use Rattle.record_text.specs.Format.{format_of}
use Rattle.log_codec.specs.Log.{read_log}
use Rattle.merkle_records.specs.Scheme.{Scheme, scheme_of}
use Rattle.bundle_frames.specs.Bundle.{Frame, header_in, bundle_behind, bundle_of}
use Rattle.bundle_frames.proofs.FindsLaws.{IsHeader-from_header_in}
use Rattle.report_text.specs.declared.ending.BundleEnd.{BundleEnd}
use Rattle.report_text.specs.declared.ending.BundleEnd.TheVariants as ends
use Rattle.report_text.specs.declared.status.Status.TheVariants as statuses
use Rattle.report_text.specs.Ending.{status_of}
use Rattle.verifier_run.specs.Course.{Course}
use Rattle.verifier_run.specs.Progress.{Progress, course_at_end}
use Rattle.verifier_run.proofs.RunLaws.{log_is_ended}
use Rattle.bundle_report.specs.declared.judged.Judged.{Judged}
use Rattle.bundle_report.specs.declared.judged.Uneven.{Uneven}
use Rattle.bundle_report.specs.declared.refused_log.RefusedLog.{RefusedLog}
use Rattle.bundle_report.specs.BundleReport.{end_of, histories_in}
use Rattle.bundle_report.specs.RunReport.{courses_from, courses_of}
use Rattle.bundle_report.specs.Judged.{judged, refused_log_by, refused_log, end_by}
use Rattle.bundle_report.specs.Logs.{empty_logs, joined_from, logs_so_far}
use Rattle.bundle_report.specs.Logged.{logged_of}
use Rattle.bundle_report.specs.Answer.{answer_at, check_answer}
use Rattle.bundle_report.specs.SoFar.{left_from, runs_from, HaveRead}
use Rattle.bundle_report.proofs.CertifyLaws.{judged-end}
use Rattle.bundle_report.proofs.LeftLaws.{run_of, whole_of}
use Rattle.bundle_report.proofs.SoFarLaws.{joined-length}
use Rattle.bundle_report.proofs.DueLaws.{taken_whole, empty-length}
use Rattle.resumed_runs.specs.Kept.{IsUnbroken}

-- ---- the header and the logs

header_begins : (bytes : List ℕ) (header : Header) (found : Option Header) → (bundle_behind found bytes).header ≡ Some header → found ≡ Some header
header_begins bytes header None is = is
header_begins bytes header (Some own) is = is

pub header-good : (bytes : List ℕ) (header : Header) → (logged_of bytes).header ≡ Some header → IsHeader header
header-good bytes header is = IsHeader-from_header_in bytes header (header_begins bytes header (header_in bytes) is)

-- there is a log of each verifier
logs_by : (found : Option Header) (frames : List Frame) (header : Header) → found ≡ Some header → length (joined_from 0 (logs_so_far None [] found) frames) ≡ header.verifiers
logs_by found frames header is =
    subst (λ (o : Option Header). length (joined_from 0 (logs_so_far None [] o) frames) ≡ header.verifiers) (sym is)
    (joined-length 0 (empty_logs header.verifiers) frames ∙ empty-length header.verifiers)

pub logs-whole : (bytes : List ℕ) (header : Header) → (logged_of bytes).header ≡ Some header → length (logged_of bytes).logs ≡ header.verifiers
logs-whole bytes header is = logs_by (bundle_of bytes).header (bundle_of bytes).frames header is

-- ---- how the report ends

status_done : (end : BundleEnd) (count : ℕ) → status_of end ≡ statuses.Done count → end ≡ ends.Done count
status_done (ends.Done epochs) count is = let same : epochs ≡ count = cc in ap ends.Done same
status_done (ends.BadBundle offset) count is = absurd (cc)
status_done (ends.Refused verifier index refusal) count is = absurd (cc)
status_done (ends.Unbalanced epoch added evicted) count is = absurd (cc)

-- so many epochs are certified, and nothing is unbalanced, refused or bad
pub record EndsDone (judged : Judged) (refused : Option RefusedLog) (bad : Option ℕ) (count : ℕ) : Type 0 where
  pub counted : judged ≡ record { count = count; unbalanced = None }
  pub none_refused : refused ≡ None
  pub none_bad : bad ≡ None

counted_done : (counted count : ℕ) → ends.Done counted ≡ ends.Done count → counted ≡ count
counted_done counted count is = cc

ends_done : (counted count : ℕ) (uneven : Option Uneven) (refused : Option RefusedLog) (bad : Option ℕ) → end_by counted uneven refused bad ≡ ends.Done count
    → EndsDone (record { count = counted; unbalanced = uneven }) refused bad count
ends_done counted count (Some uneven) refused bad is = absurd (cc)
ends_done counted count None (Some log) bad is = absurd (cc)
ends_done counted count None None (Some offset) is = absurd (cc)
ends_done counted count None None None is = record {
  counted = ap (λ (n : ℕ). record { count = n; unbalanced = None }) (counted_done counted count is);
  none_refused = refl;
  none_bad = refl;
}

module _ (functions : DigestFunctions) (header : Header) (logs : List (List ℕ)) (bad : Option ℕ) (good : IsHeader header) (whole : length logs ≡ header.verifiers) (count : ℕ) where
  abbrev scheme : Scheme
  scheme = scheme_of functions header

  abbrev found : Judged
  found = judged header.verifiers (courses_of scheme header logs)

  -- What is judged of the logs, and the first that is refused.
  pub judged-done : (answer_at false functions (Some header) logs bad).status ≡ statuses.Done count
      → EndsDone found (refused_log 0 (courses_of scheme header logs)) bad count
  judged-done done =
      ends_done found.count count found.unbalanced (refused_log 0 (courses_of scheme header logs)) bad
      (judged-end scheme header logs bad good whole
      ∙ status_done (end_of scheme header (map (read_log (format_of header)) logs) (histories_in scheme header (map (read_log (format_of header)) logs)) bad) count done)

  -- The runs with these epochs taken out of them have read the logs.
  pub read-done : (answer_at false functions (Some header) logs bad).status ≡ statuses.Done count
      → HaveRead scheme header logs (record { count = count; unbalanced = None }) (runs_from scheme header count 0 logs)
  read-done done =
      subst (λ (n : ℕ). HaveRead scheme header logs (record { count = n; unbalanced = None }) (runs_from scheme header n 0 logs))
      (ap (λ (j : Judged). j.count) (judged-done done).counted) (taken_whole scheme header logs good whole)

-- ---- the runs

none_refused : (number : ℕ) (refused : Option (ℕ × Refusal)) (more : Option RefusedLog) → refused_log_by number refused more ≡ None → (refused ≡ None) × (more ≡ None)
none_refused number None more is = (refl, is)
none_refused number (Some refused) more is = absurd (cc)

at_end : (course : Course Operation) (held : List ℕ) → (course_at_end course held).refused ≡ None → IsUnbroken (record { course = course; held = held })
at_end course [] is = record { uncut = refl; unrefused = is }
at_end course (byte ∷ held) is = absurd (cc)

left_unbroken : (first count : ℕ) (run : Progress Operation) → IsUnbroken run → IsUnbroken (left_from first count run)
left_unbroken first zero run is = is
left_unbroken first (suc count) run is = record { uncut = is.uncut; unrefused = is.unrefused }

module _ (scheme : Scheme) (header : Header) (count : ℕ) where
  -- Where none of the logs is refused, their runs are unbroken.
  pub runs-unbroken : (number : ℕ) (logs : List (List ℕ)) → refused_log number (courses_from scheme header number logs) ≡ None
      → AllByRecursion IsUnbroken (runs_from scheme header count number logs)
  runs-unbroken number [] none = tt
  runs-unbroken number (log ∷ logs) none =
      let run = run_of scheme header number log in
      let both = none_refused number (whole_of scheme header number log).refused (refused_log (suc number) (courses_from scheme header (suc number) logs)) none in (
        left_unbroken header.first count run (at_end run.course run.held (ap (λ (course : Course Operation). course.refused) (log_is_ended scheme number header log) ∙ both.0)),
        runs-unbroken (suc number) logs both.1,
      )

-- ---- the bundle

module _ (functions : DigestFunctions) (bytes : List ℕ) (header : Header) (count : ℕ) (header_is : (logged_of bytes).header ≡ Some header)
    (done : (check_answer false functions bytes).status ≡ statuses.Done count) where
  answered : (answer_at false functions (Some header) (logged_of bytes).logs (logged_of bytes).bad).status ≡ statuses.Done count
  answered =
      subst (λ (found : Option Header). (answer_at false functions found (logged_of bytes).logs (logged_of bytes).bad).status ≡ statuses.Done count) header_is done

  pub bundle-done : EndsDone (judged header.verifiers (courses_of (scheme_of functions header) header (logged_of bytes).logs))
      (refused_log 0 (courses_of (scheme_of functions header) header (logged_of bytes).logs)) (bundle_of bytes).bad count
  bundle-done = judged-done functions header (logged_of bytes).logs (logged_of bytes).bad (header-good bytes header header_is) (logs-whole bytes header header_is) count answered

  pub bundle-unbroken : AllByRecursion IsUnbroken (runs_from (scheme_of functions header) header count 0 (logged_of bytes).logs)
  bundle-unbroken = runs-unbroken (scheme_of functions header) header count 0 (logged_of bytes).logs bundle-done.none_refused

  pub bundle-read : HaveRead (scheme_of functions header) header (logged_of bytes).logs (record { count = count; unbalanced = None })
      (runs_from (scheme_of functions header) header count 0 (logged_of bytes).logs)
  bundle-read =
      read-done functions header (logged_of bytes).logs (logged_of bytes).bad (header-good bytes header header_is) (logs-whole bytes header header_is) count answered
