-- What follows for those who serve round after round: what a check answers to the bundle, and what was written so far.
use Rattle.std.proofs.Common.{◌≡◌, Bool, ℕ, zero, suc, List, [], ◌∷◌, ◌++◌, length, map, slice_get, Option, Some, refl, ◌∙◌, ap, subst}
use Rattle.fv_outside.specs.Written.{Grows, GrowsByFront}
use Rattle.fv_outside.proofs.WrittenLaws.{GrowsByFront-whole, GrowsByFront-more}
use Rattle.record_hash.specs.Functions.{DigestFunctions}
use Rattle.lamport_clocks.specs.declared.header.Header.{Header}
use Rattle.merkle_records.specs.Scheme.{scheme_of}
use Rattle.report_text.specs.Status.{last_line}
use Rattle.report_text.specs.Ending.{status_of}
use Rattle.report_text.specs.declared.status.Status.{Status}
use Rattle.record_text.specs.declared.operation.Operation.{Operation}
use Rattle.load_summary.specs.Tallies.{tallies_of}
use Rattle.load_summary.specs.Counting.{Counted}
use Rattle.load_summary.specs.Summary.{summary_with_end}
use Rattle.bundle_report.specs.declared.judged.Judged.{Judged}
use Rattle.bundle_report.specs.Logged.{Logged}
use Rattle.bundle_report.specs.Report.{EpochTold, EpochText, told_by, operations_told}
use Rattle.bundle_report.specs.Answer.{answer_by, check_answer}
use Rattle.bundle_report.specs.RunReport.{courses_of}
use Rattle.bundle_report.specs.SoFar.{lines_from}
use Rattle.bundle_report.proofs.CertifyLaws.{judged-count}
use Rattle.bundle_report.proofs.DueLaws.{lines-front, lines-due, due-stays}
use Rattle.host_rounds.specs.Round.{logs_with, pieces_of}
use Rattle.host_rounds.specs.Bundle.{IsBundle}
use Rattle.host_rounds.specs.SoFar.{RunsSoFar, HaveRun, AllCounted, lines_counted, lines_due, operations_due, summary_due, end_due}
use Rattle.host_rounds.proofs.BundleLaws.{round-joined}

-- ---- what a check answers to the bundle of logs

module _ (receipts : Bool) (functions : DigestFunctions) (header : Header) (logs : List (List ℕ)) (rounds : List (List (List ℕ))) (bytes : List ℕ)
    (bundle : IsBundle header logs rounds bytes) where
  pub bundle-due : (check_answer receipts functions bytes).due ≡ lines_due (told_by receipts functions header) functions header logs
  bundle-due = ap (λ (logged : Logged). (answer_by receipts functions logged).due) bundle.means

  pub bundle-end : (check_answer receipts functions bytes).status ≡ status_of (end_due functions header logs)
  bundle-end = ap (λ (logged : Logged). (answer_by receipts functions logged).status) bundle.means

  pub bundle-text : (check_answer receipts functions bytes).text ≡ lines_due (told_by receipts functions header) functions header logs ++ last_line (status_of (end_due functions header logs))
  bundle-text = ap (λ (logged : Logged). (answer_by receipts functions logged).text) bundle.means

-- ---- what was written so far

-- nothing, where no epoch is counted
pub counted-none : {A : Type 0} (tell : EpochTold A) (functions : DigestFunctions) (header : Header) (logs : List (List ℕ)) (so_far : RunsSoFar) → so_far.judged.count ≡ 0
    → lines_counted tell functions header logs so_far ≡ []
counted-none tell functions header logs so_far none = ap (lines_from tell (courses_of (scheme_of functions header) header logs) header.first) none

module _ (tell : EpochText) (functions : DigestFunctions) (header : Header) (logs : List (List ℕ)) (so_far : RunsSoFar) (have : HaveRun functions header logs so_far)
    (round : List (List ℕ)) (before after : Option (List ℕ)) where
  -- the lines that are counted are a front of those that are due once a round more is taken
  pub counted-front : Grows before after (lines_counted tell functions header logs so_far)
      → GrowsByFront before after (lines_due tell functions header (logs_with logs round))
  counted-front written =
      let front = lines-front tell (scheme_of functions header) header logs so_far.judged _ (pieces_of 0 round) have.taken in
      subst (λ (all : List (List ℕ)). GrowsByFront before after (lines_due tell functions header all)) (round-joined 0 logs round)
      (subst (GrowsByFront before after) front.1
      (GrowsByFront-more before after (lines_counted tell functions header logs so_far) front.0 (GrowsByFront-whole before after _ written)))

  -- so is a front of those that are due
  pub due-front : GrowsByFront before after (lines_due tell functions header logs)
      → GrowsByFront before after (lines_due tell functions header (logs_with logs round))
  due-front written =
      let front = due-stays tell (scheme_of functions header) header logs (pieces_of 0 round) have.taken.header_good have.taken.whole in
      subst (λ (all : List (List ℕ)). GrowsByFront before after (lines_due tell functions header all)) (round-joined 0 logs round)
      (subst (GrowsByFront before after) front.1 (GrowsByFront-more before after (lines_due tell functions header logs) front.0 written))

-- ---- the summary

-- what the code writes as the summary is the summary of the logs
pub summary-is : (functions : DigestFunctions) (header : Header) (logs : List (List ℕ)) (so_far : RunsSoFar) (seed ops : ℕ) (end : Status)
    → HaveRun functions header logs so_far → AllCounted functions header logs so_far
    → summary_with_end seed ops so_far.judged.count so_far.summary.tallies end ≡ summary_due functions header logs seed ops end
summary-is functions header logs so_far seed ops end have all =
    let scheme = scheme_of functions header in
    let count = ap (λ (j : Judged). j.count) all ∙ judged-count scheme header logs have.taken.header_good have.taken.whole in
    let told = lines-due operations_told scheme header logs so_far.judged (map (λ fed. fed.run) so_far.runs) have.taken all in
    ap (λ (counted : Counted). summary_with_end seed ops so_far.judged.count counted.tallies end) have.summed
    ∙ ap (λ (operations : List Operation). summary_with_end seed ops so_far.judged.count (tallies_of header.verifiers operations) end) told
    ∙ ap (λ (epochs : ℕ). summary_with_end seed ops epochs (tallies_of header.verifiers (operations_due functions header logs)) end) count

-- ---- logs with a round behind them

pub logs_with-none : (logs : List (List ℕ)) → logs_with logs [] ≡ logs
logs_with-none [] = refl
logs_with-none (log ∷ logs) = refl

pub logs_with-length : (logs round : List (List ℕ)) → length (logs_with logs round) ≡ length logs
logs_with-length [] round = refl
logs_with-length (log ∷ logs) [] = refl
logs_with-length (log ∷ logs) (bytes ∷ round) = ap suc (logs_with-length logs round)

pub logs_with-at : (index : ℕ) (logs round : List (List ℕ)) (log bytes : List ℕ) → slice_get logs index ≡ Some log → slice_get round index ≡ Some bytes
    → slice_get (logs_with logs round) index ≡ Some (log ++ bytes)
logs_with-at index [] round log bytes there more = absurd (cc)
logs_with-at index (first ∷ logs) [] log bytes there more = absurd (cc)
logs_with-at zero (first ∷ logs) (own ∷ round) log bytes there more =
    let a : first ≡ log = cc in
    let b : own ≡ bytes = cc in
    ap (λ (front : List ℕ). Some (front ++ own)) a ∙ ap (λ (back : List ℕ). Some (log ++ back)) b
logs_with-at (suc index) (first ∷ logs) (own ∷ round) log bytes there more = logs_with-at index logs round log bytes there more
