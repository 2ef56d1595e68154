-- Which epochs are certified, and how the report ends, as all runs tell it.
use Rattle.std.specs.Prelude.{ℕ, suc, ◌<◌, ◌^◌, List, [], ◌∷◌, length, Option, Some, None, All}
use Rattle.std.specs.List.{IsDistinct}
use Rattle.multiset_sum.specs.declared.part.Part.{Part}
use Rattle.epoch_gather.specs.declared.outcome.Verdict.{Verdict}
use Rattle.epoch_gather.specs.declared.outcome.Verdict.TheVariants as verdicts
use Rattle.epoch_gather.specs.Parts.{is_same_part}
use Rattle.epoch_gather.specs.Verdict.{verdict_of}
use Rattle.record_text.specs.declared.refusal.Refusal.{Refusal}
use Rattle.verifier_run.specs.Course.{Course}
use Rattle.report_text.specs.declared.ending.BundleEnd.{BundleEnd}
use Rattle.report_text.specs.declared.ending.BundleEnd.TheVariants.{Done, BadBundle, Refused, Unbalanced}
use Rattle.bundle_report.specs.declared.judged.Judged.{Judged}
use Rattle.bundle_report.specs.declared.judged.Uneven.{Uneven}
use Rattle.bundle_report.specs.declared.refused_log.RefusedLog.{RefusedLog}
use Rattle.bundle_report.specs.RunReport.{parts_at}

-- no epoch more
abbrev pub none_judged : Judged
none_judged = record { count = 0; unbalanced = None }

-- an epoch with this verdict, and what comes behind it where it is balanced
abbrev pub judged_by : ℕ → Verdict → Judged → Judged
judged_by epoch verdicts.Balanced more = record { count = suc more.count; unbalanced = more.unbalanced }
judged_by epoch (verdicts.Unbalanced added evicted) more =
    record { count = 0; unbalanced = Some (record { epoch = epoch; added = added; evicted = evicted }) }
judged_by epoch (verdicts.Missing verifier) more = none_judged

-- the epochs of these parts of one course, which stand there from this index on
abbrev pub judged_from : {A : Type 0} → ℕ → ℕ → List Part → List (Course A) → Judged
judged_from verifiers index [] courses = none_judged
judged_from verifiers index (part ∷ parts) courses =
    judged_by part.epoch (verdict_of verifiers part.epoch (parts_at index courses)) (judged_from verifiers (suc index) parts courses)

-- the epochs of all courses, by those that the first has sealed
abbrev pub judged : {A : Type 0} → ℕ → List (Course A) → Judged
judged verifiers [] = none_judged
judged verifiers (course ∷ courses) = judged_from verifiers 0 course.parts (course ∷ courses)

-- parts of one epoch of which a verdict can be given: at most one of each verifier, with counts that can be added up
pub record CanBeJudged (verifiers : ℕ) (parts : List Part) : Type 0 where
  pub numbers : All (λ part. part.verifier < verifiers) parts
  pub once : IsDistinct is_same_part parts
  pub counts : All (λ part. (part.added.count < 2 ^ 25) × (part.evicted.count < 2 ^ 25)) parts

-- ---- how the report ends

-- the parts of the sealed epochs of the first course
abbrev pub first_parts : {A : Type 0} → List (Course A) → List Part
first_parts [] = []
first_parts (course ∷ courses) = course.parts

-- a course that is refused so, or the one that is found behind it
abbrev pub refused_log_by : ℕ → Option (ℕ × Refusal) → Option RefusedLog → Option RefusedLog
refused_log_by number None more = more
refused_log_by number (Some refused) more = Some (record { verifier = number; index = refused.0; refusal = refused.1 })

-- the first course that is refused, if one is, where the first course is of the verifier of this number
abbrev pub refused_log : {A : Type 0} → ℕ → List (Course A) → Option RefusedLog
refused_log number [] = None
refused_log number (course ∷ courses) = refused_log_by number course.refused (refused_log (suc number) courses)

-- how the report ends: an epoch whose sums differ goes before a refused log, and that before what is bad
abbrev pub end_by : ℕ → Option Uneven → Option RefusedLog → Option ℕ → BundleEnd
end_by count (Some uneven) refused bad = Unbalanced uneven.epoch uneven.added uneven.evicted
end_by count None (Some log) bad = Refused log.verifier log.index log.refusal
end_by count None None (Some offset) = BadBundle offset
end_by count None None None = Done count

-- the same as all courses tell it, in a bundle in which so much is bad
abbrev pub end_of_runs : {A : Type 0} → List (Course A) → Option ℕ → BundleEnd
end_of_runs courses bad =
    let found = judged (length courses) courses in
    end_by found.count found.unbalanced (refused_log 0 courses) bad
