-- The runs of all logs can be judged, and tell how the report ends.
use Rattle.std.proofs.Common.{◌≡◌, false, ℕ, ◌≤◌, List, length, map, Option, Some, Result, Ok, Err, IfOk, sym, ◌∙◌, ap, subst, arith}
use Rattle.std.proofs.lemmas.List.{length-map}
use Rattle.record_hash.specs.Functions.{DigestFunctions}
use Rattle.lamport_clocks.specs.declared.header.Header.{Header}
use Rattle.lamport_clocks.specs.Header.{IsHeader}
use Rattle.merkle_records.specs.Scheme.{Scheme, scheme_of}
use Rattle.verifier_commands.specs.Event.{Event}
use Rattle.verifier_run.specs.Course.{Course}
use Rattle.verifier_run.specs.LogCourse.{courses_keeping}
use Rattle.report_text.specs.declared.status.Status.{Status}
use Rattle.report_text.specs.declared.ending.BundleEnd.{BundleEnd}
use Rattle.report_text.specs.Ending.{status_of}
use Rattle.bundle_report.specs.Answer.{answer_at}
use Rattle.bundle_report.specs.RunReport.{parts_at}
use Rattle.bundle_report.specs.Judged.{CanBeJudged, end_of_runs}
use Rattle.bundle_report.proofs.KeepingLaws.{keeping-length, judged-keeping, end-keeping}

module _ {A R : Type 0} (course_of : R → Course A) (keeps : Event → List A) (scheme : Scheme) (header : Header) (logs : List (List ℕ))
    (good : IsHeader header) (whole : length logs ≡ header.verifiers) (held runs : List R) (is : held ≡ runs)
    (are : map course_of runs ≡ courses_keeping keeps scheme header 0 logs) where
  courses_are : map course_of held ≡ courses_keeping keeps scheme header 0 logs
  courses_are = ap (map course_of) is ∙ are

  many : length held ≡ length (courses_keeping keeps scheme header 0 logs)
  many = sym (length-map held course_of) ∙ ap length courses_are

  -- there are no more than a header has verifiers
  pub few_held : length held ≤ 64
  few_held = omega (arith, many ∙ keeping-length keeps scheme header 0 logs ∙ whole, good.verifiers)

  -- and of their parts a verdict can be given
  pub judged_held : (index : ℕ) → CanBeJudged (length held) (parts_at index (map course_of held))
  judged_held index =
      subst (λ (n : ℕ). CanBeJudged n (parts_at index (map course_of held))) (sym many)
      (subst (λ (courses : List (Course A)). CanBeJudged (length (courses_keeping keeps scheme header 0 logs)) (parts_at index courses)) (sym courses_are)
      (judged-keeping keeps scheme header logs good whole index))

-- The end that runs tell has the status of the answer.
pub status_kept : {A : Type 0} (keeps : Event → List A) (functions : DigestFunctions) (found : Option Header) (header : Header) (logs : List (List ℕ)) (bad : Option ℕ)
    → found ≡ Some header → IsHeader header → length logs ≡ header.verifiers
    → let courses = courses_keeping keeps (scheme_of functions header) header 0 logs in
    status_of (end_of_runs courses bad)
    ≡ (answer_at false functions found logs bad).status
status_kept keeps functions found header logs bad is good whole =
    ap status_of (end-keeping keeps (scheme_of functions header) header logs good whole bad)
    ∙ sym (ap (λ (o : Option Header). (answer_at false functions o logs bad).status) is)

-- what ends so has its status
pub status_told : {X E : Type 0} (end_of : X → BundleEnd) (result : Result X E) (end : BundleEnd) (status : Status) → status_of end ≡ status
    → IfOk result (λ found. end_of found ≡ end) → IfOk result (λ found. status_of (end_of found) ≡ status)
status_told end_of (Ok found) end status same is = ap status_of is ∙ same
status_told end_of (Err error) end status same is = tt
