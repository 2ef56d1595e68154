-- Going on from a seal: what is answered to all that the source had before the seal was read.
use Rattle.std.proofs.Common.{◌≡◌, ℕ, ◌+◌, ◌-◌, ◌≤◌, false, List, [], ◌++◌, length, drop, Option, None, Some, Result, Ok, Err, refl, sym, ap, subst, ◌∙◌, arith, length-append, append_assoc}
use Rattle.std.proofs.lemmas.List.{drop-append-le}
use Rattle.std.specs.Io.KnownBytes.{Consumes}
use Rattle.fv_outside.specs.Consumed.{TookAtLeast, most_behind}
use Rattle.fv_outside.specs.declared.failure.Failure.{Failure}
use Rattle.fv_outside.specs.declared.failure.Failure.TheVariants as failures
use Rattle.record_hash.specs.Functions.{DigestFunctions}
use Rattle.lamport_clocks.specs.declared.header.Header.{Header}
use Rattle.merkle_records.specs.Scheme.{scheme_of}
use Rattle.record_text.specs.declared.operation.Operation.{Operation}
use Rattle.seals.specs.State.{Seal}
use Rattle.report_text.specs.declared.status.Status.TheVariants.{Done}
use Rattle.report_text.specs.declared.ending.BundleEnd.{BundleEnd}
use Rattle.report_text.specs.Status.{last_line}
use Rattle.report_text.specs.Answer.{Answer, answer_behind, Writing, AnswersNear}
use Rattle.bundle_frames.specs.Bundle.{bundle_of}
use Rattle.bundle_frames.specs.Extent.{reading_end}
use Rattle.bundle_frames.specs.Reading.{Reading, resumed_reading, ahead}
use Rattle.bundle_report.specs.declared.judged.Judged.{Judged}
use Rattle.bundle_report.specs.Answer.{answer_at, check_answer}
use Rattle.bundle_report.specs.Judged.{judged}
use Rattle.bundle_report.specs.Logs.{joined_from}
use Rattle.bundle_report.specs.Logged.{logged_of}
use Rattle.bundle_report.specs.Report.{plain_text}
use Rattle.bundle_report.specs.RunReport.{courses_of}
use Rattle.bundle_report.specs.SoFar.{HaveRead}
use Rattle.bundle_report.proofs.DueLaws.{due-stays, lines-due}
use Rattle.resumed_runs.specs.Kept.{IsSealOf, runs_from_kept}
use Rattle.check_core.specs.Asked.{Asked, unended, asked_at, asked_by, asked_answer}
use Rattle.check_core.specs.Told.{asked_for}
use Rattle.check_core.specs.declared.told.Told.TheVariants.{Lines}
use Rattle.check_core.specs.Found.{unended_answer}
use Rattle.check_core.specs.Outcomes.{check_status}
use Rattle.check_core.specs.Resuming.{resumed_answer, resumed_end}
use Rattle.check_core.specs.Stream.{HasCome, asked_behind, lines_counted, lines_due}
use Rattle.check_core.proofs.LastLineLemmas.{IsLonger, longer}
use Rattle.check_core.proofs.MovedLemmas.{moved}
use Rattle.check_core.proofs.RestLemmas.{due_of}
use Rattle.check_core.proofs.ResumedLemmas.{means_resumed, has_come_resumed}

-- what is known of what seals keep
pub record AreKept (functions : DigestFunctions) : Type 0 where
  pub whole : (bytes : List ℕ) (header : Header) (count : ℕ) → (logged_of bytes).header ≡ Some header → (check_answer false functions bytes).status ≡ Done count
      → (bundle_of bytes).bad ≡ None
  pub judged : (bytes : List ℕ) (header : Header) (count : ℕ) → (logged_of bytes).header ≡ Some header → (check_answer false functions bytes).status ≡ Done count
      → judged header.verifiers (courses_of (scheme_of functions header) header (logged_of bytes).logs) ≡ record { count = count; unbalanced = None }
  pub read : (bytes : List ℕ) (seal : Seal) → IsSealOf functions bytes seal
      → HaveRead (scheme_of functions seal.header) seal.header (logged_of bytes).logs (record { count = seal.certified; unbalanced = None })
      (runs_from_kept seal.header 0 seal.runs)

-- ---- what is asked: the lines, and nothing behind them

abbrev pub plain_asked : DigestFunctions → Asked
plain_asked functions = asked_for (Lines false) functions (λ (operations : List Operation). [])

plain_at : (functions : DigestFunctions) (header : Option Header) (logs : List (List ℕ)) (bad : Option ℕ)
    → asked_at (plain_asked functions) functions header logs bad ≡ answer_at false functions header logs bad
plain_at functions None logs bad = refl
plain_at functions (Some header) logs bad = refl

plain_check : (functions : DigestFunctions) (bytes : List ℕ) → asked_answer (plain_asked functions) functions bytes ≡ check_answer false functions bytes
plain_check functions bytes = plain_at functions (logged_of bytes).header (logged_of bytes).logs (logged_of bytes).bad

-- an answer is longer also without its front
behind_longer : (count : ℕ) (short long other : Answer) → count ≤ length short.text → IsLonger last_line short long → long ≡ other
    → IsLonger last_line (answer_behind count short) (answer_behind count other)
behind_longer count short long other few more is = record {
  text = ap (λ (a : Answer). drop count a.text) (sym is) ∙ ap (drop count) more.text ∙ drop-append-le count short.text (last_line short.status) few;
  due = ap (λ (a : Answer). drop count a.due) (sym is) ∙ ap (drop count) more.due;
  status = ap (λ (a : Answer). a.status) (sym is) ∙ more.status;
}

took_least : (unread rest : List ℕ) (after : Option (List ℕ)) → TookAtLeast 0 (Some rest) after → TookAtLeast 0 (Some (unread ++ rest)) after
took_least unread rest None least = absurd least
took_least unread rest (Some after) least = omega (arith, length-append unread rest, least)

none_come : (faults more : ℕ) (logs : List (List ℕ)) (reading : Reading) (left : Option (List ℕ)) → HasCome None faults more logs reading left faults
none_come faults more logs reading left = record { having_read = tt; means = tt; extent = tt; near = λ some. tt; never_falls = omega arith }

module _ (functions : DigestFunctions) (kept : AreKept functions) (sealed : List ℕ) (seal : Seal) (of : IsSealOf functions sealed seal) where
  abbrev logs : List (List ℕ)
  logs = (logged_of sealed).logs

  abbrev pub so_far : Judged
  so_far = record { count = seal.certified; unbalanced = None }

  good : (bundle_of sealed).bad ≡ None
  good = kept.whole sealed seal.header seal.certified of.header of.done

  abbrev due : List ℕ
  due = (check_answer false functions sealed).due

  due_is : due ≡ lines_due plain_text functions seal.header logs
  due_is = due_of functions sealed seal.header of.header good so_far (runs_from_kept seal.header 0 seal.runs) (kept.read sealed seal of)

  -- the lines of the epochs that are counted are those of the bundle
  counted_due : lines_counted plain_text functions seal.header logs so_far ≡ due
  counted_due =
      lines-due plain_text (scheme_of functions seal.header) seal.header logs so_far (runs_from_kept seal.header 0 seal.runs) (kept.read sealed seal of)
      (sym (kept.judged sealed seal.header seal.certified of.header of.done))
      ∙ sym due_is

  -- ---- the last line

  few_due : (more : List ℕ) → length due ≤ length (asked_answer (unended (plain_asked functions)) functions (sealed ++ more)).text
  few_due more =
      let rest = ahead (resumed_reading seal.header (length sealed) 0 []) more in
      let read = kept.read sealed seal of in
      let front = due-stays plain_text (scheme_of functions seal.header) seal.header logs rest.frames read.header_good read.whole in
      let all = lines_due plain_text functions seal.header (joined_from 0 logs rest.frames) in
      let text : (asked_answer (unended (plain_asked functions)) functions (sealed ++ more)).text ≡ all ++ [] =
      ap (λ b. (asked_by (unended (plain_asked functions)) functions b).text) (means_resumed sealed seal.header of.header good [] more 0) in
      let same : length (asked_answer (unended (plain_asked functions)) functions (sealed ++ more)).text ≡ length (all ++ []) = ap length text in
      let sum : length (all ++ []) ≡ length all + 0 = length-append all [] in
      let parts : length (lines_due plain_text functions seal.header logs) + length front.0 ≡ length all =
      sym (length-append (lines_due plain_text functions seal.header logs) front.0) ∙ ap length front.1 in
      let size : length due ≡ length (lines_due plain_text functions seal.header logs) = ap length due_is in
      omega (arith, same, sum, parts, size)

  pub rest_longer : (count : ℕ) (bytes : List ℕ) → IsLonger last_line (unended_answer functions sealed count bytes) (resumed_answer functions sealed count bytes)
  rest_longer count bytes =
      let all = sealed ++ drop count bytes in
      behind_longer (length due) (asked_answer (unended (plain_asked functions)) functions all) (asked_answer (plain_asked functions) functions all)
      (check_answer false functions all) (few_due (drop count bytes)) (longer (plain_asked functions) functions all) (plain_check functions all)

  -- ---- what is answered before it

  abbrev without_counted : List ℕ → Answer
  without_counted bytes = answer_behind (length due) (asked_answer (unended (plain_asked functions)) functions bytes)

  module _ (front unread : List ℕ) (count most : ℕ) (counted : length front ≡ count) (within : count ≤ most) (few : length unread ≤ count + most_behind) where
    abbrev pub reader_then : Reading
    reader_then = resumed_reading seal.header (length sealed) (most - count + length sealed) unread

    -- without the lines that are counted is without those of the bundle
    behind_due : (all after : Option (List ℕ)) (faults faults_after : ℕ) (writing : Writing) (result : Result BundleEnd Failure)
        → AnswersNear count (asked_behind (unended (plain_asked functions)) functions seal.header logs so_far) reading_end (most - count + length sealed)
        (check_status (most - count + length sealed) result) (record { left = all; left_after = after; faults = faults; faults_after = faults_after }) writing
        → AnswersNear count without_counted reading_end (most - count + length sealed)
        (check_status (most - count + length sealed) result) (record { left = all; left_after = after; faults = faults; faults_after = faults_after }) writing
    behind_due all after faults faults_after writing result a =
        subst (λ (lines : List ℕ). AnswersNear count (λ bytes. answer_behind (length lines) (asked_answer (unended (plain_asked functions)) functions bytes)) reading_end
        (most - count + length sealed) (check_status (most - count + length sealed) result)
        (record { left = all; left_after = after; faults = faults; faults_after = faults_after }) writing) counted_due a

    pub goes_from : (start left after : Option (List ℕ)) (faults faults_after : ℕ) (writing : Writing) (result : Result BundleEnd Failure)
        → (result ≡ Err failures.VaultFault → ⊥) → TookAtLeast 0 left after
        → ((all : Option (List ℕ)) → HasCome all faults count logs reader_then left faults
        → AnswersNear count (asked_behind (unended (plain_asked functions)) functions seal.header logs so_far) reading_end (most - count + length sealed)
        (check_status (most - count + length sealed) result) (record { left = all; left_after = after; faults = faults; faults_after = faults_after }) writing)
        → Consumes start left (front ++ unread)
        → AnswersNear count (unended_answer functions sealed count) (resumed_end sealed count) most (check_status most result)
        (record { left = start; left_after = after; faults = faults; faults_after = faults_after }) writing
    goes_from None left after faults faults_after writing result fine least answers read =
        moved count front sealed counted count most within without_counted reading_end None after faults faults_after writing result tt fine
        (behind_due None after faults faults_after writing result (answers None (none_come faults count logs reader_then left)))
    goes_from (Some bytes) None after faults faults_after writing result fine least answers read = absurd read
    goes_from (Some bytes) (Some rest) after faults faults_after writing result fine least answers read =
        let tail = unread ++ rest in
        let all : (sealed ++ unread) ++ rest ≡ sealed ++ tail = append_assoc sealed unread rest in
        let start : front ++ tail ≡ bytes = sym (read ∙ append_assoc front unread rest) in
        let come = has_come_resumed sealed seal.header of.header good unread (Some rest) faults faults count (most - count + length sealed) few (omega arith) in
        let a = behind_due (Some ((sealed ++ unread) ++ rest)) after faults faults_after writing result (answers (Some ((sealed ++ unread) ++ rest)) come) in
        subst (λ (from : List ℕ). AnswersNear count (unended_answer functions sealed count) (resumed_end sealed count) most (check_status most result)
        (record { left = Some from; left_after = after; faults = faults; faults_after = faults_after }) writing) start
        (moved count front sealed counted count most within without_counted reading_end (Some tail) after faults faults_after writing result (took_least unread rest after least) fine
        (subst (λ (from : List ℕ). AnswersNear count without_counted reading_end (most - count + length sealed) (check_status (most - count + length sealed) result)
        (record { left = Some from; left_after = after; faults = faults; faults_after = faults_after }) writing) all a))
