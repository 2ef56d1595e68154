-- What runs certify and how their report ends is the same whatever they keep of events.
use Rattle.std.proofs.Common.{◌≡◌, ℕ, suc, List, [], ◌∷◌, ◌++◌, length, map, slice_get, Option, refl, sym, ◌∙◌, ap, subst}
use Rattle.std.specs.Option.{option_to_list}
use Rattle.lamport_clocks.specs.declared.header.Header.{Header}
use Rattle.lamport_clocks.specs.Header.{IsHeader}
use Rattle.log_codec.specs.Log.{read_log}
use Rattle.merkle_records.specs.Scheme.{Scheme}
use Rattle.multiset_sum.specs.declared.part.Part.{Part}
use Rattle.epoch_gather.specs.Verdict.{verdict_of}
use Rattle.verifier_commands.specs.Event.{Event}
use Rattle.verifier_commands.specs.Machine.{opening_machine}
use Rattle.verifier_run.specs.Kept.{keeps_operations}
use Rattle.verifier_run.specs.Course.{Course}
use Rattle.verifier_run.specs.LogCourse.{log_course, courses_keeping}
use Rattle.soundness.specs.Certified.{certified_count}
use Rattle.bundle_report.specs.declared.judged.Judged.{Judged}
use Rattle.bundle_report.specs.declared.refused_log.RefusedLog.{RefusedLog}
use Rattle.bundle_report.specs.BundleReport.{end_of, histories_in}
use Rattle.bundle_report.specs.RunReport.{courses_from, courses_of, parts_at}
use Rattle.bundle_report.specs.Judged.{judged_by, judged_from, judged, CanBeJudged, refused_log_by, refused_log, end_by}
use Rattle.bundle_report.proofs.CertifyLaws.{courses-length, can_be_judged, judged-count, judged-end}

module _ {A : Type 0} (keeps : Event → List A) (scheme : Scheme) (header : Header) where
  -- there is a course of each log
  pub keeping-length : (number : ℕ) (logs : List (List ℕ)) → length (courses_keeping keeps scheme header number logs) ≡ length logs
  keeping-length number [] = refl
  keeping-length number (log ∷ logs) = ap suc (keeping-length (suc number) logs)

  parts_same : (index number : ℕ) (logs : List (List ℕ))
      → parts_at index (courses_keeping keeps scheme header number logs) ≡ parts_at index (courses_from scheme header number logs)
  parts_same index number [] = refl
  parts_same index number (log ∷ logs) =
      ap (λ (parts : List Part).
      option_to_list (slice_get (log_course keeps_operations scheme (opening_machine number header) log).parts index) ++ parts)
      (parts_same index (suc number) logs)

  refused_same : (number : ℕ) (logs : List (List ℕ))
      → refused_log number (courses_keeping keeps scheme header number logs) ≡ refused_log number (courses_from scheme header number logs)
  refused_same number [] = refl
  refused_same number (log ∷ logs) =
      ap (refused_log_by number (log_course keeps_operations scheme (opening_machine number header) log).refused)
      (refused_same (suc number) logs)

  epochs_same : (verifiers index : ℕ) (parts : List Part) (logs : List (List ℕ))
      → judged_from verifiers index parts (courses_keeping keeps scheme header 0 logs)
      ≡ judged_from verifiers index parts (courses_of scheme header logs)
  epochs_same verifiers index [] logs = refl
  epochs_same verifiers index (part ∷ parts) logs =
      ap (λ (more : Judged). judged_by part.epoch
      (verdict_of verifiers part.epoch (parts_at index (courses_keeping keeps scheme header 0 logs))) more)
      (epochs_same verifiers (suc index) parts logs)
      ∙ ap (λ (gathered : List Part). judged_by part.epoch (verdict_of verifiers part.epoch gathered)
      (judged_from verifiers (suc index) parts (courses_of scheme header logs)))
      (parts_same index 0 logs)

  judged_same : (verifiers : ℕ) (logs : List (List ℕ))
      → judged verifiers (courses_keeping keeps scheme header 0 logs) ≡ judged verifiers (courses_of scheme header logs)
  judged_same verifiers [] = refl
  judged_same verifiers (log ∷ logs) =
      epochs_same verifiers 0 (log_course keeps_operations scheme (opening_machine 0 header) log).parts (log ∷ logs)

  module _ (logs : List (List ℕ)) (good : IsHeader header) (whole : length logs ≡ header.verifiers) where
    -- the courses of all logs
    abbrev pub kept_courses : List (Course A)
    kept_courses = courses_keeping keeps scheme header 0 logs

    -- The parts of the runs can be judged.
    pub judged-keeping : (index : ℕ) → CanBeJudged (length kept_courses) (parts_at index kept_courses)
    judged-keeping index =
        subst (λ (verifiers : ℕ). CanBeJudged verifiers (parts_at index kept_courses))
        (courses-length scheme header 0 logs ∙ sym (keeping-length 0 logs))
        (subst (CanBeJudged (length (courses_of scheme header logs))) (sym (parts_same index 0 logs))
        (can_be_judged scheme header logs good whole index))

    judged_all : judged (length kept_courses) kept_courses ≡ judged header.verifiers (courses_of scheme header logs)
    judged_all =
        ap (λ (n : ℕ). judged n kept_courses) (keeping-length 0 logs ∙ whole) ∙ judged_same header.verifiers logs

    -- As many epochs are certified as are judged to be balanced.
    pub count-keeping : (judged (length kept_courses) kept_courses).count
        ≡ certified_count scheme header.first (histories_in scheme header (map (read_log scheme.format) logs))
    count-keeping = ap (λ (j : Judged). j.count) judged_all ∙ judged-count scheme header logs good whole

    -- How the report ends is told by what is judged, by the first run that is refused, and by what is bad.
    pub end-keeping : (bad : Option ℕ)
        → let found = judged (length kept_courses) kept_courses in
        end_by found.count found.unbalanced (refused_log 0 kept_courses) bad
        ≡ end_of scheme header (map (read_log scheme.format) logs) (histories_in scheme header (map (read_log scheme.format) logs)) bad
    end-keeping bad =
        ap (λ (j : Judged). end_by j.count j.unbalanced (refused_log 0 kept_courses) bad) judged_all
        ∙ ap (λ (refused : Option RefusedLog).
        let found = judged header.verifiers (courses_of scheme header logs) in end_by found.count found.unbalanced refused bad)
        (refused_same 0 logs)
        ∙ judged-end scheme header logs bad good whole
