-- How many epochs the runs of all verifiers tell to be certified, how their report ends, and that their parts can be judged.
use Rattle.std.proofs.Common.{◌≡◌, ℕ, zero, suc, ◌+◌, ◌-◌, ◌≤◌, List, [], ◌∷◌, length, map, Option, Some, None, refl, sym, ◌∙◌, ap, subst, add-zero, arith}
use Rattle.merkle_records.specs.Scheme.{Scheme}
use Rattle.std.specs.Option.{option_map, option_or}
use Rattle.lamport_clocks.specs.declared.header.Header.{Header}
use Rattle.lamport_clocks.specs.Header.{IsHeader}
use Rattle.record_text.specs.declared.operation.Operation.{Operation}
use Rattle.record_text.specs.declared.refusal.Refusal.{Refusal}
use Rattle.log_codec.specs.Log.{Log, read_log}
use Rattle.multiset_sum.specs.declared.part.Part.{Part}
use Rattle.epoch_gather.specs.declared.outcome.Verdict.{Verdict}
use Rattle.epoch_gather.specs.declared.outcome.Verdict.TheVariants.{Balanced, Unbalanced, Missing}
use Rattle.epoch_gather.specs.Verdict.{verdict_of}
use Rattle.verifier_run.specs.Course.{Course}
use Rattle.report_text.specs.declared.ending.BundleEnd.{BundleEnd}
use Rattle.report_text.specs.declared.ending.BundleEnd.TheVariants as ends
use Rattle.soundness.specs.History.{Event, log_events}
use Rattle.soundness.specs.Certified.{order_of, sealed_count, sealed_by_all, balanced_from, epochs_from, certified_count}
use Rattle.bundle_report.specs.declared.judged.Judged.{Judged}
use Rattle.bundle_report.specs.BundleReport.{refused_end, done_or_bad, end_or, end_of, histories_in}
use Rattle.bundle_report.specs.RunReport.{courses_from, courses_of, parts_at, first_refused}
use Rattle.bundle_report.specs.Judged.{judged_by, judged_from, judged, CanBeJudged, first_parts, refused_log_by, refused_log, end_by}
use Rattle.bundle_report.proofs.PartLemmas.{part_of, log-parts}
use Rattle.bundle_report.proofs.EpochPartLemmas.{parts-numbers, parts-once, parts-counts}
use Rattle.bundle_report.proofs.EpochVerdictLemmas.{epoch_verdict}
use Rattle.bundle_report.proofs.RunReportLemmas.{told_from}
use Rattle.bundle_report.proofs.RunEndLemmas.{exit-whole}
use Rattle.bundle_report.proofs.CertifiedCountLemmas.{counted_from, counted-start, counted-balanced, counted-unbalanced, counted-missing, ends-unbalanced, ends-missing}

-- ---- the parts of epochs one after another

-- the parts of so many epochs from this one on
abbrev parts_in : Scheme → ℕ → List Event → ℕ → ℕ → List Part
parts_in scheme number events epoch count = map (part_of scheme number events) (epochs_from epoch count)

-- ---- the first refused log

-- How it ends where no epoch is unbalanced: with the status of the first refused course, if there is one.
ends-even : (count number : ℕ) (courses : List (Course Operation)) (bad : Option ℕ)
    → end_by count None (refused_log number courses) bad
    ≡ end_or (first_refused number courses) (done_or_bad count bad)
ends-even count number [] None = refl
ends-even count number [] (Some offset) = refl
ends-even count number (course ∷ courses) bad = go course.refused (ends-even count (suc number) courses bad)
  where
    go : (refused : Option (ℕ × Refusal))
        → end_by count None (refused_log (suc number) courses) bad
        ≡ end_or (first_refused (suc number) courses) (done_or_bad count bad)
        → end_by count None (refused_log_by number refused (refused_log (suc number) courses)) bad
        ≡ end_or (option_or (option_map (refused_end number) refused) (first_refused (suc number) courses))
        (done_or_bad count bad)
    go None further = further
    go (Some refused) further = refl

-- ---- the courses

-- there is a course of each log
pub courses-length : (scheme : Scheme) (header : Header) (number : ℕ) (logs : List (List ℕ))
    → length (courses_from scheme header number logs) ≡ length logs
courses-length scheme header number [] = refl
courses-length scheme header number (log ∷ logs) =
    ap suc (courses-length scheme header (suc number) logs)

-- The parts of the runs can be judged.
pub can_be_judged : (scheme : Scheme) (header : Header) (logs : List (List ℕ)) → IsHeader header
    → length logs ≡ header.verifiers
    → (index : ℕ) → CanBeJudged (length (courses_of scheme header logs))
    (parts_at index (courses_of scheme header logs))
can_be_judged scheme header logs good whole index =
    let courses = courses_of scheme header logs in
    subst (λ (verifiers : ℕ). CanBeJudged verifiers (parts_at index courses))
    (sym (courses-length scheme header 0 logs ∙ whole))
    (record {
      numbers = parts-numbers scheme header index logs whole;
      once = parts-once scheme header index logs;
      counts = parts-counts scheme header index logs good;
    })

-- all histories have sealed no more epochs than the first
sealed_first : (history : List Event) (histories : List (List Event))
    → sealed_by_all (history ∷ histories) ≤ sealed_count history
sealed_first history [] = omega arith
sealed_first history (other ∷ histories) = omega arith

-- the first course is judged
judged-first : (verifiers : ℕ) (courses : List (Course Operation))
    → judged verifiers courses ≡ judged_from verifiers 0 (first_parts courses) courses
judged-first verifiers [] = refl
judged-first verifiers (course ∷ courses) = refl

-- ---- epoch after epoch

module _ (scheme : Scheme) (header : Header) (logs : List (List ℕ)) where
  -- the logs that were read
  abbrev read : List Log
  read = map (read_log scheme.format) logs

  abbrev histories : List (List Event)
  histories = histories_in scheme header read

  abbrev courses : List (Course Operation)
  courses = courses_of scheme header logs

  -- how many epochs are certified
  abbrev certified : ℕ
  certified = certified_count scheme header.first histories

  -- how the report ends
  abbrev exit : Option ℕ → BundleEnd
  exit bad = end_of scheme header read histories bad

  -- What was judged of epochs, behind those that are known to be balanced, is what the histories say.
  abbrev IsJudged : Option ℕ → ℕ → Judged → Type 0
  IsJudged bad done more =
      (done + more.count ≡ certified) × (end_by (done + more.count) more.unbalanced (refused_log 0 courses) bad ≡ exit bad)

  -- behind all that are sealed nothing is counted
  counted-past : (done : ℕ) → sealed_by_all histories ≤ done → counted_from scheme header logs done ≡ done
  counted-past done past =
      let none : sealed_by_all histories - done ≡ 0 = omega (arith, past) in
      ap (λ (n : ℕ). done + balanced_from scheme (order_of histories) (header.first + done) n) none ∙ add-zero done

  module _ (whole : length logs ≡ header.verifiers) (some : 1 ≤ header.verifiers) (bad : Option ℕ) where
    -- an epoch by its verdict, and those behind it
    judged-epoch : (done epoch : ℕ) → epoch ≡ header.first + done
        → counted_from scheme header logs done ≡ certified
        → (ruling : Verdict) → epoch_verdict scheme header logs done ≡ ruling → (more : Judged)
        → (counted_from scheme header logs (suc done) ≡ certified → IsJudged bad (suc done) more)
        → IsJudged bad done (judged_by epoch ruling more)
    judged-epoch done epoch at count Balanced is more further =
        let next : suc done ≡ done + 1 = omega arith in
        let behind = further (ap (counted_from scheme header logs) next
        ∙ counted-balanced scheme header logs whole some done is ∙ count) in
        let same : suc done + more.count ≡ done + suc more.count = omega arith in (
          sym same ∙ behind.0,
          ap (λ (n : ℕ). end_by n more.unbalanced (refused_log 0 courses) bad) (sym same) ∙ behind.1,
        )
    judged-epoch done epoch at count (Unbalanced added evicted) is more further = (
      add-zero done ∙ sym (counted-unbalanced scheme header logs whole some done added evicted is) ∙ count,
      ap (λ (e : ℕ). ends.Unbalanced e added evicted) at
          ∙ ends-unbalanced scheme header logs whole some done bad added evicted count is,
    )
    judged-epoch done epoch at count (Missing verifier) is more further = (
      add-zero done ∙ sym (counted-missing scheme header logs whole some done verifier is) ∙ count,
      ends-even (done + 0) 0 courses bad
          ∙ ap (λ (n : ℕ). end_or (first_refused 0 courses) (done_or_bad n bad)) (add-zero done)
          ∙ ends-missing scheme header logs whole some done bad verifier count is,
    )

    -- So many epochs, where all that are sealed by all are among them and those before.
    judged-epochs : (number : ℕ) (events : List Event) (many done epoch : ℕ) → epoch ≡ header.first + done
        → sealed_by_all histories ≤ done + many
        → counted_from scheme header logs done ≡ certified
        → IsJudged bad done
        (judged_from header.verifiers done (parts_in scheme number events epoch many) courses)
    judged-epochs number events zero done epoch at past count =
        let own : done ≡ certified = sym (counted-past done (omega (arith, past))) ∙ count in
        let same : done + 0 ≡ certified = add-zero done ∙ own in (
          same,
          ends-even (done + 0) 0 courses bad
              ∙ exit-whole scheme header logs bad (done + 0) same (omega (arith, past)),
        )
    judged-epochs number events (suc many) done epoch at past count =
        let next : suc epoch ≡ header.first + suc done = omega (arith, at) in
        judged-epoch done epoch at count
        (verdict_of header.verifiers epoch (parts_at done courses))
        (ap (λ (e : ℕ). verdict_of header.verifiers e (parts_at done courses)) (sym at))
        (judged_from header.verifiers (suc done) (parts_in scheme number events (suc epoch) many) courses)
        (λ counted. judged-epochs number events many (suc done) (suc epoch) next (omega (arith, past)) counted)

-- ---- of all verifiers

module _ (scheme : Scheme) (header : Header) (log : List ℕ) (logs : List (List ℕ)) (good : IsHeader header) (whole : length (log ∷ logs) ≡ header.verifiers) where
  -- what the logs come to
  abbrev all_courses : List (Course Operation)
  all_courses = courses_of scheme header (log ∷ logs)

  -- the history of the first log
  abbrev first_events : List Event
  first_events = log_events scheme header 0 (read_log scheme.format log).commands

  -- its parts
  abbrev its_parts : List Part
  its_parts = parts_in scheme 0 first_events header.first (sealed_count first_events)

  -- what is judged, by its parts
  abbrev found : Judged
  found = judged_from header.verifiers 0 its_parts all_courses

  its-parts : first_parts all_courses ≡ its_parts
  its-parts = log-parts scheme header 0 (read_log scheme.format log).commands

  judged-found : judged (length all_courses) all_courses ≡ found
  judged-found =
      ap (λ (verifiers : ℕ). judged verifiers all_courses) (courses-length scheme header 0 (log ∷ logs) ∙ whole)
      ∙ judged-first header.verifiers all_courses
      ∙ ap (λ (parts : List Part). judged_from header.verifiers 0 parts all_courses) its-parts

  found-judged : (bad : Option ℕ) → IsJudged scheme header (log ∷ logs) bad 0 found
  found-judged bad =
      judged-epochs scheme header (log ∷ logs) whole good.some_verifiers bad 0 first_events (sealed_count first_events) 0 header.first
      (sym (add-zero header.first))
      (omega (arith, sealed_first first_events (told_from scheme header 1 logs)))
      (counted-start scheme header (log ∷ logs))

-- As many epochs are certified as are judged to be balanced.
pub count-many : (scheme : Scheme) (header : Header) (logs : List (List ℕ)) → IsHeader header → length logs ≡ header.verifiers
    → (judged (length (courses_of scheme header logs)) (courses_of scheme header logs)).count
    ≡ certified_count scheme header.first (histories_in scheme header (map (read_log scheme.format) logs))
count-many scheme header [] good whole = absurd (omega (arith, whole, good.some_verifiers))
count-many scheme header (log ∷ logs) good whole =
    let counted : 0 + (found scheme header log logs good whole).count ≡ (found scheme header log logs good whole).count = omega arith in
    ap (λ (j : Judged). j.count) (judged-found scheme header log logs good whole)
    ∙ sym counted ∙ (found-judged scheme header log logs good whole None).0

-- ---- by the number of verifiers

-- as many courses as verifiers
by_verifiers : (scheme : Scheme) (header : Header) (logs : List (List ℕ)) → length logs ≡ header.verifiers
    → judged header.verifiers (courses_of scheme header logs)
    ≡ judged (length (courses_of scheme header logs)) (courses_of scheme header logs)
by_verifiers scheme header logs whole =
    ap (λ (n : ℕ). judged n (courses_of scheme header logs)) (sym (courses-length scheme header 0 logs ∙ whole))

-- As many epochs are certified as are judged to be balanced.
pub judged-count : (scheme : Scheme) (header : Header) (logs : List (List ℕ)) → IsHeader header → length logs ≡ header.verifiers
    → (judged header.verifiers (courses_of scheme header logs)).count
    ≡ certified_count scheme header.first (histories_in scheme header (map (read_log scheme.format) logs))
judged-count scheme header logs good whole =
    ap (λ (j : Judged). j.count) (by_verifiers scheme header logs whole) ∙ count-many scheme header logs good whole

-- How the report ends is told by what is judged, by the first course that is refused, and by what is bad.
pub judged-end : (scheme : Scheme) (header : Header) (logs : List (List ℕ)) (bad : Option ℕ) → IsHeader header → length logs ≡ header.verifiers
    → let found = judged header.verifiers (courses_of scheme header logs) in
    end_by found.count found.unbalanced (refused_log 0 (courses_of scheme header logs)) bad
    ≡ end_of scheme header (map (read_log scheme.format) logs) (histories_in scheme header (map (read_log scheme.format) logs)) bad
judged-end scheme header [] bad good whole = absurd (omega (arith, whole, good.some_verifiers))
judged-end scheme header (log ∷ logs) bad good whole =
    let own = found scheme header log logs good whole in
    let same : own.count ≡ 0 + own.count = omega arith in
    ap (λ (j : Judged). end_by j.count j.unbalanced (refused_log 0 (courses_of scheme header (log ∷ logs))) bad)
    (by_verifiers scheme header (log ∷ logs) whole ∙ judged-found scheme header log logs good whole)
    ∙ ap (λ (n : ℕ). end_by n own.unbalanced (refused_log 0 (courses_of scheme header (log ∷ logs))) bad) same
    ∙ (found-judged scheme header log logs good whole bad).1
