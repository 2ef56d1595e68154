-- The report of a bundle as the runs of its logs tell it: the courses of all verifiers, the lowest number first.
use Rattle.std.specs.Prelude.{ℕ, suc, List, [], ◌∷◌, ◌++◌, slice_get, Option, None}
use Rattle.merkle_records.specs.Scheme.{Scheme}
use Rattle.std.specs.List.{flat_map}
use Rattle.std.specs.Option.{option_map, option_or, option_to_list}
use Rattle.lamport_clocks.specs.declared.header.Header.{Header}
use Rattle.multiset_sum.specs.declared.part.Part.{Part}
use Rattle.record_text.specs.declared.operation.Operation.{Operation}
use Rattle.verifier_run.specs.Kept.{keeps_operations}
use Rattle.verifier_run.specs.Course.{Course}
use Rattle.verifier_run.specs.LogCourse.{courses_keeping}
use Rattle.report_text.specs.declared.ending.BundleEnd.{BundleEnd}
use Rattle.bundle_report.specs.BundleReport.{refused_end}

-- what the logs of verifiers come to, the first of which has this number, where operations are kept
abbrev pub courses_from : Scheme → Header → ℕ → List (List ℕ) → List (Course Operation)
courses_from scheme header number logs = courses_keeping keeps_operations scheme header number logs

-- what the logs of all verifiers of a bundle come to
abbrev pub courses_of : Scheme → Header → List (List ℕ) → List (Course Operation)
courses_of scheme header logs = courses_from scheme header 0 logs

-- the parts of one sealed epoch, by its number from the first epoch on, of each course that has sealed it
abbrev pub parts_at : {A : Type 0} → ℕ → List (Course A) → List Part
parts_at index [] = []
parts_at index (course ∷ courses) = option_to_list (slice_get course.parts index) ++ parts_at index courses

-- the operations of all courses, one course after another
abbrev pub operations_among : List (Course Operation) → List Operation
operations_among courses = flat_map (λ course. course.items) courses

-- the status of the first course that is refused, if one is, where the first course is of the verifier of this number
abbrev pub first_refused : {A : Type 0} → ℕ → List (Course A) → Option BundleEnd
first_refused number [] = None
first_refused number (course ∷ courses) =
    option_or (option_map (refused_end number) course.refused) (first_refused (suc number) courses)
