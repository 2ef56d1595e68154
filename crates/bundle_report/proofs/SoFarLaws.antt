-- What runs over logs so far certify, epoch by epoch.
use Rattle.std.proofs.Common.{◌≡◌, ℕ, zero, suc, ◌+◌, ◌<◌, ◌≤◌, List, [], ◌∷◌, length, map, drop, Option, Some, None, refl, sym, ◌∙◌, ap, subst, arith}
use Rattle.std.specs.Prelude.{IfSome}
use Rattle.std.proofs.lemmas.List.{length-drop}
use Rattle.bundle_frames.specs.Bundle.{Frame}
use Rattle.bundle_report.specs.Logs.{joined_from}
use Rattle.lamport_clocks.specs.declared.header.Header.{Header}
use Rattle.merkle_records.specs.Scheme.{Scheme}
use Rattle.multiset_sum.specs.declared.part.Part.{Part}
use Rattle.epoch_gather.specs.declared.outcome.Verdict.{Verdict}
use Rattle.epoch_gather.specs.declared.outcome.Verdict.TheVariants.{Balanced}
use Rattle.epoch_gather.specs.Verdict.{verdict_of}
use Rattle.record_text.specs.declared.operation.Operation.{Operation}
use Rattle.verifier_run.specs.Course.{Course}
use Rattle.record_text.specs.declared.refusal.Refusal.{Refusal}
use Rattle.log_codec.specs.Log.{read_log}
use Rattle.verifier_run.specs.Progress.{Progress, ended}
use Rattle.verifier_run.specs.Likeness.{AreLike}
use Rattle.verifier_run.proofs.RunLaws.{log_is_ended, ended_left}
use Rattle.verifier_run.specs.Order.{OneOfEach, clock_of, sealed_next}
use Rattle.bundle_report.specs.declared.judged.Judged.{Judged}
use Rattle.bundle_report.specs.declared.judged.Uneven.{Uneven}
use Rattle.bundle_report.specs.RunReport.{courses_from, courses_of, parts_at}
use Rattle.bundle_report.specs.Report.{EpochTold}
use Rattle.bundle_report.specs.BundleReport.{end_of, histories_in}
use Rattle.bundle_report.specs.Judged.{judged_by, judged_from, judged, first_parts, refused_log_by, refused_log, end_by}
use Rattle.bundle_report.specs.SoFar.{lines_from, left_from, runs_from, runs_behind, runs_ended, verdict_at, IsUneven, HaveRead}
use Rattle.bundle_report.specs.declared.refused_log.RefusedLog.{RefusedLog}
use Rattle.bundle_report.proofs.RunReportLemmas.{told_from}
use Rattle.bundle_report.proofs.CertifyLaws.{judged-end}
use Rattle.bundle_report.proofs.EpochVerdictLemmas.{all_seal, verdict-balanced, verdict-unbalanced}
use Rattle.bundle_report.proofs.LeftLaws.{run_of, whole_of, whole-parts, each_of}
use Rattle.bundle_report.proofs.LikeRunsLaws.{like-refused, like-behind, like-ended}
use Rattle.bundle_report.proofs.MoreLaws.{AreLong, long-sealed, long-none, parts-stay, runs-stay, lines-stay}

-- ---- the first run

-- the part at a place of one of each
part_of_epoch : (from next place : ℕ) (parts : List Part) (part : Part) (more : List Part) → OneOfEach from next parts
    → drop place parts ≡ part ∷ more → part.epoch ≡ from + place
part_of_epoch from next place [] part more is there = absurd (none place there)
  where
    none : (n : ℕ) → drop n [] ≡ part ∷ more → ⊥
    none zero h = cc
    none (suc n) h = cc
part_of_epoch from next zero (first ∷ parts) part more is there =
    let own : first ≡ part = cc in
    let same : from ≡ from + 0 = omega arith in
    ap (λ (p : Part). p.epoch) (sym own) ∙ is.0 ∙ same
part_of_epoch from next (suc place) (first ∷ parts) part more is there =
    let same : suc from + place ≡ from + suc place = omega arith in
    part_of_epoch (suc from) next place parts part more is.1 there ∙ same

-- the parts of the first course
first-parts : (scheme : Scheme) (header : Header) (log : List ℕ) (logs : List (List ℕ))
    → first_parts (courses_of scheme header (log ∷ logs)) ≡ (run_of scheme header 0 log).course.parts
first-parts scheme header log logs = whole-parts scheme header 0 log

-- ---- judged behind those that are balanced

-- so many certified epochs before
abbrev pub behind : ℕ → Judged → Judged
behind count more = record { count = count + more.count; unbalanced = more.unbalanced }

module _ (scheme : Scheme) (header : Header) (logs : List (List ℕ)) where
  abbrev courses : List (Course Operation)
  courses = courses_of scheme header logs

  -- one part of each epoch, of which the first so many are balanced
  judged_behind : (count index next : ℕ) (parts : List Part) → OneOfEach (header.first + index) next parts
      → count ≤ length parts
      → ((place : ℕ) → place < count → verdict_at scheme header logs (index + place) ≡ Balanced)
      → judged_from header.verifiers index parts courses
      ≡ behind count (judged_from header.verifiers (index + count) (drop count parts) courses)
  judged_behind zero index next parts is within balanced =
      let same : index ≡ index + 0 = omega arith in
      ap (λ (n : ℕ). judged_from header.verifiers n parts courses) same
      ∙ zero_behind (judged_from header.verifiers (index + 0) parts courses)
    where
      zero_behind : (more : Judged) → more ≡ behind 0 more
      zero_behind more =
          let same : more.count ≡ 0 + more.count = omega arith in
          ap (λ (n : ℕ). record more { count = n }) same
  judged_behind (suc count) index next [] is within balanced = absurd (omega (arith, within))
  judged_behind (suc count) index next (part ∷ parts) is within balanced =
      let here : index + 0 ≡ index = omega arith in
      let own : verdict_of header.verifiers part.epoch (parts_at index courses) ≡ Balanced =
      ap (λ (e : ℕ). verdict_of header.verifiers e (parts_at index courses)) is.0
      ∙ ap (verdict_at scheme header logs) (sym here) ∙ balanced 0 (omega arith) in
      let later : suc (header.first + index) ≡ header.first + suc index = omega arith in
      let at : suc index + count ≡ index + suc count = omega arith in
      let rest = judged_from header.verifiers (index + suc count) (drop count parts) courses in
      let sum : suc (count + rest.count) ≡ suc count + rest.count = omega arith in
      ap (λ (v : Verdict). judged_by part.epoch v (judged_from header.verifiers (suc index) parts courses)) own
      ∙ ap (judged_by part.epoch Balanced)
      (judged_behind count (suc index) next parts (subst (λ (e : ℕ). OneOfEach e next parts) later is.1) (omega (arith, within))
      (λ place below.
      let there : index + suc place ≡ suc index + place = omega arith in
      ap (verdict_at scheme header logs) (sym there) ∙ balanced (suc place) (omega (arith, below)))
      ∙ ap (λ (n : ℕ). behind count (judged_from header.verifiers n (drop count parts) courses)) at)
      ∙ ap (λ (n : ℕ). record rest { count = n }) sum

-- ---- where so many epochs are balanced

-- each log has handed in a part of each epoch that is counted
pub taken-long : (scheme : Scheme) (header : Header) (logs : List (List ℕ)) (so_far : Judged) (runs : List (Progress Operation))
    → HaveRead scheme header logs so_far runs → AreLong scheme header so_far.count 0 logs
taken-long scheme header logs so_far runs taken = go so_far.count taken.balanced
  where
    go : (count : ℕ) → ((index : ℕ) → index < count → verdict_at scheme header logs index ≡ Balanced) → AreLong scheme header count 0 logs
    go zero balanced = long-none scheme header 0 logs
    go (suc count) balanced =
        let told = verdict-balanced scheme header logs taken.whole taken.header_good.some_verifiers count (balanced count (omega arith)) in
        long-sealed scheme header count 0 logs (all_seal count (told_from scheme header 0 logs) told.0)

-- What all logs come to stands behind the epochs that are counted.
pub judged-taken : (scheme : Scheme) (header : Header) (log : List ℕ) (logs : List (List ℕ)) (so_far : Judged) (runs : List (Progress Operation))
    → HaveRead scheme header (log ∷ logs) so_far runs
    → judged header.verifiers (courses_of scheme header (log ∷ logs))
    ≡ behind so_far.count (judged_from header.verifiers so_far.count (drop so_far.count (run_of scheme header 0 log).course.parts)
    (courses_of scheme header (log ∷ logs)))
judged-taken scheme header log logs so_far runs taken =
    let all = courses_of scheme header (log ∷ logs) in
    let parts = (run_of scheme header 0 log).course.parts in
    let next = sealed_next (clock_of (run_of scheme header 0 log).course) in
    let long = taken-long scheme header (log ∷ logs) so_far runs taken in
    let from : header.first ≡ header.first + 0 = omega arith in
    let at : 0 + so_far.count ≡ so_far.count = omega arith in
    ap (λ (ps : List Part). judged_from header.verifiers 0 ps all) (first-parts scheme header log logs)
    ∙ judged_behind scheme header (log ∷ logs) so_far.count 0 next parts
    (subst (λ (e : ℕ). OneOfEach e next parts) from (each_of scheme header 0 log)) long.0
    (λ place below.
    let there : 0 + place ≡ place = omega arith in
    ap (verdict_at scheme header (log ∷ logs)) there ∙ taken.balanced place below)
    ∙ ap (λ (n : ℕ). behind so_far.count (judged_from header.verifiers n (drop so_far.count parts) all)) at

-- No more are counted than are certified.
pub counted-within : (scheme : Scheme) (header : Header) (logs : List (List ℕ)) (so_far : Judged) (runs : List (Progress Operation))
    → HaveRead scheme header logs so_far runs → so_far.count ≤ (judged header.verifiers (courses_of scheme header logs)).count
counted-within scheme header [] so_far runs taken = absurd (omega (arith, taken.whole, taken.header_good.some_verifiers))
counted-within scheme header (log ∷ logs) so_far runs taken =
    omega (arith, ap (λ (j : Judged). j.count) (judged-taken scheme header log logs so_far runs taken))

-- ---- the next epoch

-- what is judged where the next part is there, by its verdict, or is not
abbrev pub NextTells : Scheme → Header → List (List ℕ) → ℕ → List Part → Type 0
NextTells scheme header logs count [] =
    judged header.verifiers (courses_of scheme header logs) ≡ record { count = count; unbalanced = None }
NextTells scheme header logs count (part ∷ parts) =
    (part.epoch ≡ header.first + count)
    × ((more : Judged) × (judged header.verifiers (courses_of scheme header logs)
    ≡ behind count (judged_by (header.first + count) (verdict_at scheme header logs count) more)))

pub next-tells : (scheme : Scheme) (header : Header) (log : List ℕ) (logs : List (List ℕ)) (so_far : Judged) (runs : List (Progress Operation))
    → HaveRead scheme header (log ∷ logs) so_far runs → (parts : List Part)
    → drop so_far.count (run_of scheme header 0 log).course.parts ≡ parts
    → NextTells scheme header (log ∷ logs) so_far.count parts
next-tells scheme header log logs so_far runs taken [] is =
    let same : so_far.count + 0 ≡ so_far.count = omega arith in
    judged-taken scheme header log logs so_far runs taken
    ∙ ap (λ (ps : List Part). behind so_far.count (judged_from header.verifiers so_far.count ps (courses_of scheme header (log ∷ logs)))) is
    ∙ ap (λ (n : ℕ). record { count = n; unbalanced = None }) same
next-tells scheme header log logs so_far runs taken (part ∷ parts) is =
    let all = courses_of scheme header (log ∷ logs) in
    let epoch = part_of_epoch header.first (sealed_next (clock_of (run_of scheme header 0 log).course)) so_far.count
    (run_of scheme header 0 log).course.parts part parts (each_of scheme header 0 log) is in (
      epoch,
      (
        judged_from header.verifiers (suc so_far.count) parts all,
        judged-taken scheme header log logs so_far runs taken
            ∙ ap (λ (ps : List Part). behind so_far.count (judged_from header.verifiers so_far.count ps all)) is
            ∙ ap (λ (e : ℕ). behind so_far.count (judged_by e (verdict_of header.verifiers e (parts_at so_far.count all))
            (judged_from header.verifiers (suc so_far.count) parts all))) epoch,
      ),
    )

-- Where the next epoch is said to be unbalanced, that is what all logs come to.
pub uneven-judged : (scheme : Scheme) (header : Header) (logs : List (List ℕ)) (so_far : Judged) (runs : List (Progress Operation)) (uneven : Uneven)
    → HaveRead scheme header logs so_far runs → so_far.unbalanced ≡ Some uneven
    → so_far ≡ judged header.verifiers (courses_of scheme header logs)
uneven-judged scheme header [] so_far runs uneven taken is = absurd (omega (arith, taken.whole, taken.header_good.some_verifiers))
uneven-judged scheme header (log ∷ logs) so_far runs uneven taken is =
    go (drop so_far.count (run_of scheme header 0 log).course.parts) refl
  where
    said : IsUneven scheme header (log ∷ logs) so_far.count uneven
    said = subst (λ (o : Option Uneven). IfSome o (IsUneven scheme header (log ∷ logs) so_far.count)) is taken.uneven

    sealed : so_far.count < length (run_of scheme header 0 log).course.parts
    sealed =
        let told = verdict-unbalanced scheme header (log ∷ logs) taken.whole taken.header_good.some_verifiers so_far.count
        uneven.added uneven.evicted said.1 in
        let long = long-sealed scheme header so_far.count 0 (log ∷ logs) (all_seal so_far.count (told_from scheme header 0 (log ∷ logs)) told.0) in
        omega (arith, long.0)

    go : (parts : List Part) → drop so_far.count (run_of scheme header 0 log).course.parts ≡ parts
        → so_far ≡ judged header.verifiers (courses_of scheme header (log ∷ logs))
    go [] none =
        absurd (omega (arith, sealed, length-drop so_far.count (run_of scheme header 0 log).course.parts, ap length none))
    go (part ∷ parts) some =
        let next = next-tells scheme header log logs so_far runs taken (part ∷ parts) some in
        let same : so_far.count + 0 ≡ so_far.count = omega arith in
        sym (next.1.1
        ∙ ap (λ (v : Verdict). behind so_far.count (judged_by (header.first + so_far.count) v next.1.0)) said.1
        ∙ ap (λ (n : ℕ). record { count = n; unbalanced = Some (record { epoch = header.first + so_far.count; added = uneven.added; evicted = uneven.evicted }) }) same
        ∙ ap (λ (e : ℕ). record { count = so_far.count; unbalanced = Some (record { epoch = e; added = uneven.added; evicted = uneven.evicted }) }) (sym said.0)
        ∙ ap (λ (o : Option Uneven). record { count = so_far.count; unbalanced = o }) (sym is))

-- ---- more of the logs

-- The verdict on an epoch that all have sealed stays.
verdict-stays : (scheme : Scheme) (header : Header) (logs : List (List ℕ)) (frames : List Frame) (index : ℕ)
    → AreLong scheme header (suc index) 0 logs
    → verdict_at scheme header (joined_from 0 logs frames) index ≡ verdict_at scheme header logs index
verdict-stays scheme header logs frames index long =
    ap (verdict_of header.verifiers (header.first + index)) (parts-stay scheme header frames index 0 logs long)

pub joined-length : (number : ℕ) (logs : List (List ℕ)) (frames : List Frame) → length (joined_from number logs frames) ≡ length logs
joined-length number [] frames = refl
joined-length number (log ∷ logs) frames = ap suc (joined-length (suc number) logs frames)

-- Runs that take frames have taken the logs with what these add.
pub taken-more : (scheme : Scheme) (header : Header) (logs : List (List ℕ)) (so_far : Judged) (runs : List (Progress Operation)) (frames : List Frame)
    → HaveRead scheme header logs so_far runs
    → HaveRead scheme header (joined_from 0 logs frames) so_far (runs_behind scheme 0 runs frames)
taken-more scheme header logs so_far runs frames taken =
    let long = taken-long scheme header logs so_far runs taken in
    record {
      header_good = taken.header_good;
      whole = joined-length 0 logs frames ∙ taken.whole;
      runs_are =
          subst (λ (rs : List (Progress Operation)). AreLike rs (runs_behind scheme 0 runs frames)) (runs-stay scheme header frames so_far.count 0 logs long)
          (like-behind scheme 0 (runs_from scheme header so_far.count 0 logs) runs frames taken.runs_are);
      balanced = λ index below.
          verdict-stays scheme header logs frames index (sealed_at index (taken.balanced index below)) ∙ taken.balanced index below;
      uneven = stays so_far.unbalanced taken.uneven;
    }
  where
    sealed_at : (index : ℕ) → verdict_at scheme header logs index ≡ Balanced → AreLong scheme header (suc index) 0 logs
    sealed_at index is =
        let told = verdict-balanced scheme header logs taken.whole taken.header_good.some_verifiers index is in
        long-sealed scheme header index 0 logs (all_seal index (told_from scheme header 0 logs) told.0)

    stays : (o : Option Uneven) → IfSome o (IsUneven scheme header logs so_far.count)
        → IfSome o (IsUneven scheme header (joined_from 0 logs frames) so_far.count)
    stays None said = tt
    stays (Some uneven) said =
        let told = verdict-unbalanced scheme header logs taken.whole taken.header_good.some_verifiers so_far.count uneven.added uneven.evicted said.1 in
        let long = long-sealed scheme header so_far.count 0 logs (all_seal so_far.count (told_from scheme header 0 logs) told.0) in
        (said.0, verdict-stays scheme header logs frames so_far.count long ∙ said.1)

-- The lines of the epochs that are counted stay.
pub lines-taken : {A : Type 0} (tell : EpochTold A) (scheme : Scheme) (header : Header) (logs : List (List ℕ)) (so_far : Judged) (runs : List (Progress Operation)) (frames : List Frame)
    → HaveRead scheme header logs so_far runs
    → lines_from tell (courses_of scheme header (joined_from 0 logs frames)) header.first so_far.count
    ≡ lines_from tell (courses_of scheme header logs) header.first so_far.count
lines-taken tell scheme header logs so_far runs frames taken =
    lines-stay scheme header frames tell logs so_far.count (taken-long scheme header logs so_far runs taken)

-- ---- the ends of the logs

-- a run that has ended is refused as the whole log is
refused_at_end : (scheme : Scheme) (header : Header) (number count : ℕ) (log : List ℕ)
    → (ended (left_from header.first count (run_of scheme header number log))).course.refused ≡ (whole_of scheme header number log).refused
refused_at_end scheme header number zero log = ap (λ (c : Course Operation). c.refused) (log_is_ended scheme number header log)
refused_at_end scheme header number (suc count) log =
    ap (λ (run : Progress Operation). run.course.refused) (ended_left (header.first + count) (run_of scheme header number log))
    ∙ ap (λ (c : Course Operation). c.refused) (log_is_ended scheme number header log)

-- The first run that is refused at its end is the first of the whole logs.
refused_from : (scheme : Scheme) (header : Header) (count number : ℕ) (logs : List (List ℕ))
    → refused_log number (map (λ run. run.course) (runs_ended (runs_from scheme header count number logs)))
    ≡ refused_log number (courses_from scheme header number logs)
refused_from scheme header count number [] = refl
refused_from scheme header count number (log ∷ logs) =
    ap (λ (refused : Option (ℕ × Refusal)). refused_log_by number refused
    (refused_log (suc number) (map (λ run. run.course) (runs_ended (runs_from scheme header count (suc number) logs)))))
    (refused_at_end scheme header number count log)
    ∙ ap (refused_log_by number (whole_of scheme header number log).refused) (refused_from scheme header count (suc number) logs)

-- How the report ends, by the runs at the ends of their logs.
pub end-taken : (scheme : Scheme) (header : Header) (logs : List (List ℕ)) (so_far : Judged) (runs : List (Progress Operation)) (bad : Option ℕ)
    → HaveRead scheme header logs so_far runs → so_far ≡ judged header.verifiers (courses_of scheme header logs)
    → end_by so_far.count so_far.unbalanced (refused_log 0 (map (λ run. run.course) (runs_ended runs))) bad
    ≡ end_of scheme header (map (read_log scheme.format) logs) (histories_in scheme header (map (read_log scheme.format) logs)) bad
end-taken scheme header logs so_far runs bad taken all =
    ap (λ (refused : Option RefusedLog). end_by so_far.count so_far.unbalanced refused bad)
    (like-refused 0 (runs_ended (runs_from scheme header so_far.count 0 logs)) (runs_ended runs)
    (like-ended (runs_from scheme header so_far.count 0 logs) runs taken.runs_are)
    ∙ refused_from scheme header so_far.count 0 logs)
    ∙ ap (λ (j : Judged). end_by j.count j.unbalanced (refused_log 0 (courses_of scheme header logs)) bad) all
    ∙ judged-end scheme header logs bad taken.header_good taken.whole
