-- The lines of the epochs that logs so far certify: they stay, whatever the logs go on with.
use Rattle.std.proofs.Common.{◌≡◌, ℕ, zero, suc, ◌+◌, ◌-◌, ◌<◌, List, [], ◌∷◌, ◌++◌, length, None, refl, sym, ◌∙◌, ap, subst, arith}
use Rattle.lamport_clocks.specs.declared.header.Header.{Header}
use Rattle.lamport_clocks.specs.Header.{IsHeader}
use Rattle.merkle_records.specs.Scheme.{Scheme}
use Rattle.multiset_sum.specs.declared.part.Part.{Part}
use Rattle.epoch_gather.specs.declared.outcome.Verdict.{Verdict}
use Rattle.epoch_gather.specs.declared.outcome.Verdict.TheVariants.{Balanced, Unbalanced, Missing}
use Rattle.epoch_gather.specs.Verdict.{verdict_of}
use Rattle.bundle_frames.specs.Bundle.{Frame}
use Rattle.record_text.specs.declared.operation.Operation.{Operation}
use Rattle.verifier_run.specs.Course.{Course}
use Rattle.verifier_run.specs.Order.{OneOfEach, clock_of, sealed_next}
use Rattle.verifier_run.specs.Progress.{Progress, opening_progress}
use Rattle.verifier_run.specs.Likeness.{AreLike}
use Rattle.verifier_run.proofs.RunLaws.{fed_nothing}
use Rattle.bundle_report.specs.declared.judged.Judged.{Judged}
use Rattle.bundle_report.specs.Logs.{empty_logs, joined_from}
use Rattle.bundle_report.specs.Report.{EpochTold}
use Rattle.bundle_report.specs.BundleReport.{certified_lines, histories_at}
use Rattle.bundle_report.specs.RunReport.{courses_of, parts_at}
use Rattle.bundle_report.specs.Judged.{none_judged, judged_by, judged_from, judged}
use Rattle.bundle_report.specs.SoFar.{lines_from, runs_from, runs_behind, opening_runs, verdict_at, HaveRead}
use Rattle.bundle_report.proofs.CertifyLaws.{judged-count}
use Rattle.bundle_report.proofs.LeftLaws.{run_of, whole_of, whole-parts, each_of}
use Rattle.bundle_report.proofs.LikeRunsLaws.{runs-like}
use Rattle.bundle_report.proofs.LinesLaws.{lines-are, lines-behind}
use Rattle.bundle_report.proofs.SoFarLaws.{taken-more, lines-taken, counted-within}

-- ---- the lines that are due

-- The lines of all epochs that runs tell to be certified are those of the report.
pub lines-certified : {A : Type 0} (tell : EpochTold A) (scheme : Scheme) (header : Header) (logs : List (List ℕ)) → IsHeader header → length logs ≡ header.verifiers
    → lines_from tell (courses_of scheme header logs) header.first (judged header.verifiers (courses_of scheme header logs)).count
    ≡ certified_lines tell scheme header (histories_at scheme header logs)
lines-certified tell scheme header logs good whole =
    let count = judged-count scheme header logs good whole in
    ap (lines_from tell (courses_of scheme header logs) header.first) count
    ∙ lines-are scheme header logs tell _

-- Where all that is certified is counted, the lines of what is counted are due.
pub lines-due : {A : Type 0} (tell : EpochTold A) (scheme : Scheme) (header : Header) (logs : List (List ℕ)) (so_far : Judged) (runs : List (Progress Operation))
    → HaveRead scheme header logs so_far runs → so_far ≡ judged header.verifiers (courses_of scheme header logs)
    → lines_from tell (courses_of scheme header logs) header.first so_far.count ≡ certified_lines tell scheme header (histories_at scheme header logs)
lines-due tell scheme header logs so_far runs taken all =
    ap (λ (j : Judged). lines_from tell (courses_of scheme header logs) header.first j.count) all
    ∙ lines-certified tell scheme header logs taken.header_good taken.whole

-- The lines of what is counted are a front of those that are due once the logs go on with frames.
pub lines-front : {A : Type 0} (tell : EpochTold A) (scheme : Scheme) (header : Header) (logs : List (List ℕ)) (so_far : Judged) (runs : List (Progress Operation)) (frames : List Frame)
    → HaveRead scheme header logs so_far runs
    → (more : List A) × (lines_from tell (courses_of scheme header logs) header.first so_far.count ++ more
    ≡ certified_lines tell scheme header (histories_at scheme header (joined_from 0 logs frames)))
lines-front {A} tell scheme header logs so_far runs frames taken =
    let later = taken-more scheme header logs so_far runs frames taken in
    let all = courses_of scheme header (joined_from 0 logs frames) in
    let count = (judged header.verifiers all).count in
    let within = counted-within scheme header (joined_from 0 logs frames) so_far (runs_behind scheme 0 runs frames) later in
    let sum : so_far.count + (count - so_far.count) ≡ count = omega (arith, within) in (
      lines_from tell all (header.first + so_far.count) (count - so_far.count),
      ap (λ (t : List A). t ++ lines_from tell all (header.first + so_far.count) (count - so_far.count))
          (sym (lines-taken tell scheme header logs so_far runs frames taken))
          ∙ sym (lines-behind tell all header.first so_far.count (count - so_far.count))
          ∙ ap (lines_from tell all header.first) sum
          ∙ lines-certified tell scheme header (joined_from 0 logs frames) later.header_good later.whole,
    )

-- ---- all that is certified is balanced

module _ (scheme : Scheme) (header : Header) (logs : List (List ℕ)) where
  abbrev courses : List (Course Operation)
  courses = courses_of scheme header logs

  -- each epoch of these parts of one course that is counted
  balanced_from : (index next : ℕ) (parts : List Part) → OneOfEach (header.first + index) next parts
      → (place : ℕ) → place < (judged_from header.verifiers index parts courses).count
      → verdict_at scheme header logs (index + place) ≡ Balanced
  balanced_from index next [] is place below = absurd (omega (arith, below))
  balanced_from index next (part ∷ parts) is place below =
      let later : suc (header.first + index) ≡ header.first + suc index = omega arith in
      go (verdict_of header.verifiers part.epoch (parts_at index courses)) refl
      (balanced_from (suc index) next parts (subst (λ (e : ℕ). OneOfEach e next parts) later is.1)) place below
    where
      more : Judged
      more = judged_from header.verifiers (suc index) parts courses

      go : (verdict : Verdict) → verdict_of header.verifiers part.epoch (parts_at index courses) ≡ verdict
          → ((at : ℕ) → at < more.count → verdict_at scheme header logs (suc index + at) ≡ Balanced)
          → (at : ℕ) → at < (judged_by part.epoch verdict more).count → verdict_at scheme header logs (index + at) ≡ Balanced
      go Balanced same further zero within =
          let here : index + 0 ≡ index = omega arith in
          ap (verdict_at scheme header logs) here
          ∙ ap (λ (e : ℕ). verdict_of header.verifiers e (parts_at index courses)) (sym is.0) ∙ same
      go Balanced same further (suc at) within =
          let there : index + suc at ≡ suc index + at = omega arith in
          ap (verdict_at scheme header logs) there ∙ further at (omega (arith, within))
      go (Unbalanced added evicted) same further at within = absurd (omega (arith, within))
      go (Missing verifier) same further at within = absurd (omega (arith, within))

-- Runs with all that is certified taken out of them have taken the logs so far.
pub taken_whole : (scheme : Scheme) (header : Header) (logs : List (List ℕ)) → IsHeader header → length logs ≡ header.verifiers
    → let count = (judged header.verifiers (courses_of scheme header logs)).count in
    HaveRead scheme header logs (record { count = count; unbalanced = None }) (runs_from scheme header count 0 logs)
taken_whole scheme header [] good whole = absurd (omega (arith, whole, good.some_verifiers))
taken_whole scheme header (log ∷ logs) good whole =
    let parts = whole-parts scheme header 0 log in
    let from : header.first ≡ header.first + 0 = omega arith in
    let next = sealed_next (clock_of (run_of scheme header 0 log).course) in
    record {
      header_good = good;
      whole = whole;
      runs_are = runs-like scheme header (judged header.verifiers (courses_of scheme header (log ∷ logs))).count 0 (log ∷ logs);
      balanced = λ index below.
          let there : 0 + index ≡ index = omega arith in
          ap (verdict_at scheme header (log ∷ logs)) (sym there)
          ∙ balanced_from scheme header (log ∷ logs) 0 next (whole_of scheme header 0 log).parts
          (subst (λ (e : ℕ). OneOfEach e next (whole_of scheme header 0 log).parts) from
          (subst (OneOfEach header.first next) (sym parts) (each_of scheme header 0 log))) index below;
      uneven = tt;
    }

-- The lines that are due stay, and more may come behind them, where the logs go on with frames.
pub due-stays : {A : Type 0} (tell : EpochTold A) (scheme : Scheme) (header : Header) (logs : List (List ℕ)) (frames : List Frame) → IsHeader header → length logs ≡ header.verifiers
    → (more : List A) × (certified_lines tell scheme header (histories_at scheme header logs) ++ more
    ≡ certified_lines tell scheme header (histories_at scheme header (joined_from 0 logs frames)))
due-stays {A} tell scheme header logs frames good whole =
    let count = (judged header.verifiers (courses_of scheme header logs)).count in
    let front = lines-front tell scheme header logs (record { count = count; unbalanced = None }) (runs_from scheme header count 0 logs) frames
    (taken_whole scheme header logs good whole) in (
      front.0,
      ap (λ (t : List A). t ++ front.0) (sym (lines-certified tell scheme header logs good whole)) ∙ front.1,
    )

-- ---- before the first byte

pub empty-length : (count : ℕ) → length (empty_logs count) ≡ count
empty-length zero = refl
empty-length (suc count) = ap suc (empty-length count)

runs_opening : (scheme : Scheme) (header : Header) (number count : ℕ)
    → opening_runs header number count ≡ runs_from scheme header 0 number (empty_logs count)
runs_opening scheme header number zero = refl
runs_opening scheme header number (suc count) =
    ap (λ (runs : List (Progress Operation)). opening_progress number header ∷ runs) (runs_opening scheme header (suc number) count)
    ∙ ap (λ (run : Progress Operation). run ∷ runs_from scheme header 0 (suc number) (empty_logs count)) (sym (fed_nothing scheme number header))

-- Runs that took nothing have taken logs of no bytes, and no epoch is counted.
pub taken-none : (scheme : Scheme) (header : Header) → IsHeader header
    → HaveRead scheme header (empty_logs header.verifiers) none_judged (opening_runs header 0 header.verifiers)
taken-none scheme header good = record {
  header_good = good;
  whole = empty-length header.verifiers;
  runs_are =
      subst (AreLike (runs_from scheme header 0 0 (empty_logs header.verifiers))) (sym (runs_opening scheme header 0 header.verifiers))
      (runs-like scheme header 0 0 (empty_logs header.verifiers));
  balanced = λ index below. absurd (omega (arith, below));
  uneven = tt;
}
