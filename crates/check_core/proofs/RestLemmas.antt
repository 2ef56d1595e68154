-- The rest of a report behind the lines that are there.
use Rattle.std.proofs.Common.{◌≡◌, ℕ, false, List, [], ◌++◌, length, drop, Option, Some, None, refl, sym, ap, ◌∙◌, append_assoc}
use Rattle.std.proofs.Math.Seq.{drop-append_seam}
use Rattle.record_hash.specs.Functions.{DigestFunctions}
use Rattle.lamport_clocks.specs.declared.header.Header.{Header}
use Rattle.merkle_records.specs.Scheme.{scheme_of}
use Rattle.record_text.specs.declared.operation.Operation.{Operation}
use Rattle.verifier_run.specs.Progress.{Progress}
use Rattle.report_text.specs.Status.{last_line}
use Rattle.bundle_frames.specs.Bundle.{Frame, bundle_of}
use Rattle.bundle_frames.specs.Reading.{resumed_reading, ahead}
use Rattle.bundle_report.specs.declared.judged.Judged.{Judged}
use Rattle.bundle_report.specs.Logs.{joined_from}
use Rattle.bundle_report.specs.Logged.{Logged, logged_of}
use Rattle.bundle_report.specs.Report.{plain_text}
use Rattle.bundle_report.specs.SoFar.{HaveRead}
use Rattle.bundle_report.specs.Answer.{answer_at, answer_by, check_answer}
use Rattle.bundle_report.proofs.DueLaws.{due-stays}
use Rattle.check_core.specs.Intake.{behind_at}
use Rattle.check_core.specs.Resuming.{rest_answer}
use Rattle.check_core.specs.Stream.{lines_due}
use Rattle.check_core.proofs.ResumedLemmas.{means_resumed}

-- a front, and all behind it
joins : (front rest all : List ℕ) → all ≡ front ++ rest → front ++ drop (length front) all ≡ all
joins front rest all is = ap (λ (l : List ℕ). front ++ drop (length front) l) is ∙ ap (λ (l : List ℕ). front ++ l) (drop-append_seam front rest) ∙ sym is

module _ (functions : DigestFunctions) (sealed : List ℕ) (header : Header) (is : (logged_of sealed).header ≡ Some header) (good : (bundle_of sealed).bad ≡ None)
    (so_far : Judged) (runs : List (Progress Operation)) (read : HaveRead (scheme_of functions header) header (logged_of sealed).logs so_far runs) where
  abbrev logs : List (List ℕ)
  logs = (logged_of sealed).logs

  -- the lines of the bundle alone
  pub due_of : (check_answer false functions sealed).due ≡ lines_due plain_text functions header logs
  due_of = ap (λ (h : Option Header). (answer_at false functions h logs (logged_of sealed).bad).due) is

  -- all bytes are answered by the logs with what the frames that follow add
  answered : (more : List ℕ) → check_answer false functions (sealed ++ more)
      ≡ answer_at false functions (Some header) (joined_from 0 logs (ahead (resumed_reading header (length sealed) 0 []) more).frames) (ahead (resumed_reading header (length sealed) 0 []) more).bad
  answered more = ap (answer_by false functions) (means_resumed sealed header is good [] more 0)

  -- the lines, and the rest with what follows it, are the report of all of it
  pub rest_joins : (more : List ℕ)
      → (check_answer false functions sealed).due ++ (rest_answer functions sealed more).text ≡ (check_answer false functions (sealed ++ more)).text
  rest_joins more =
      let rest = ahead (resumed_reading header (length sealed) 0 []) more in
      let front = due-stays plain_text (scheme_of functions header) header logs rest.frames read.header_good read.whole in
      let last = last_line (answer_at false functions (Some header) (joined_from 0 logs rest.frames) rest.bad).status in
      joins (check_answer false functions sealed).due (front.0 ++ last) (check_answer false functions (sealed ++ more)).text
      (ap (λ a. a.text) (answered more)
      ∙ ap (λ (lines : List ℕ). lines ++ last) (sym front.1)
      ∙ append_assoc (lines_due plain_text functions header logs) front.0 last
      ∙ ap (λ (lines : List ℕ). lines ++ (front.0 ++ last)) (sym due_of))
