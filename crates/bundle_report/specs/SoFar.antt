-- What runs have come to over the logs so far, with the epochs that are certified taken out of them.
use Rattle.std.specs.Prelude.{◌≡◌, ℕ, zero, suc, ◌+◌, ◌<◌, ◌==◌, List, [], ◌∷◌, length, map, IfSome, if◌then◌else◌}
use Rattle.std.specs.List.{flat_map}
use Rattle.lamport_clocks.specs.declared.header.Header.{Header}
use Rattle.lamport_clocks.specs.Header.{IsHeader}
use Rattle.merkle_records.specs.Scheme.{Scheme}
use Rattle.epoch_gather.specs.declared.outcome.Verdict.{Verdict}
use Rattle.epoch_gather.specs.declared.outcome.Verdict.TheVariants.{Balanced, Unbalanced}
use Rattle.epoch_gather.specs.Verdict.{verdict_of}
use Rattle.record_text.specs.declared.operation.Operation.{Operation}
use Rattle.stamp_order.specs.Merged.{merged, of_epoch}
use Rattle.stamp_order.specs.Operations.{moment_of}
use Rattle.bundle_frames.specs.Bundle.{Frame}
use Rattle.verifier_run.specs.Kept.{keeps_operations}
use Rattle.verifier_run.specs.Course.{Course}
use Rattle.verifier_run.specs.Taken.{left_of}
use Rattle.verifier_run.specs.Progress.{Progress, opening_progress, fed, ended}
use Rattle.verifier_run.specs.Likeness.{AreLike}
use Rattle.soundness.specs.Certified.{epochs_from}
use Rattle.bundle_report.specs.declared.judged.Judged.{Judged}
use Rattle.bundle_report.specs.declared.judged.Uneven.{Uneven}
use Rattle.bundle_report.specs.Report.{EpochTold}
use Rattle.bundle_report.specs.RunReport.{courses_of, parts_at, operations_among}

-- ---- the lines of an epoch, or what else is told of it

-- the operations of an epoch, of all courses, in the one order of their moments
abbrev pub epoch_operations : ℕ → List (Course Operation) → List Operation
epoch_operations epoch courses = merged moment_of (of_epoch moment_of epoch (operations_among courses))

-- the lines of an epoch that has these
abbrev pub lines_told : {A : Type 0} → EpochTold A → List (Course Operation) → ℕ → List A
lines_told tell courses epoch = tell epoch (epoch_operations epoch courses)

-- the lines of so many epochs from this one on
abbrev pub lines_from : {A : Type 0} → EpochTold A → List (Course Operation) → ℕ → ℕ → List A
lines_from tell courses epoch count = flat_map (lines_told tell courses) (epochs_from epoch count)

-- ---- runs

-- a run with so many epochs from this one on taken out of it
abbrev pub left_from : ℕ → ℕ → Progress Operation → Progress Operation
left_from first zero progress = progress
left_from first (suc count) progress = left_of (first + count) progress

-- the runs of so many verifiers, the first of which has this number, before the first byte
abbrev pub opening_runs : Header → ℕ → ℕ → List (Progress Operation)
opening_runs header number zero = []
opening_runs header number (suc count) = opening_progress number header ∷ opening_runs header (suc number) count

-- the runs of logs so far, the first of which is of the verifier of this number, with so many epochs taken out of each
abbrev pub runs_from : Scheme → Header → ℕ → ℕ → List (List ℕ) → List (Progress Operation)
runs_from scheme header count number [] = []
runs_from scheme header count number (log ∷ logs) =
    left_from header.first count (fed keeps_operations scheme (opening_progress number header) log) ∷ runs_from scheme header count (suc number) logs

-- the verdict on an epoch, by its number from the first on, as the courses of logs tell it
abbrev pub verdict_at : Scheme → Header → List (List ℕ) → ℕ → Verdict
verdict_at scheme header logs index =
    verdict_of header.verifiers (header.first + index) (parts_at index (courses_of scheme header logs))

-- the next epoch is sealed by all, and its sums are these and differ
abbrev pub IsUneven : Scheme → Header → List (List ℕ) → ℕ → Uneven → Type 0
IsUneven scheme header logs index uneven =
    (uneven.epoch ≡ header.first + index) × (verdict_at scheme header logs index ≡ Unbalanced uneven.added uneven.evicted)

-- The runs have taken these logs so far, in whatever order their caches list entries by path. The epochs that are counted are
-- balanced, and taken out of the runs; and where the next is said to be unbalanced, it is.
pub record HaveRead (scheme : Scheme) (header : Header) (logs : List (List ℕ)) (so_far : Judged) (runs : List (Progress Operation)) : Type 0 where
  pub header_good : IsHeader header
  pub whole : length logs ≡ header.verifiers
  pub runs_are : AreLike (runs_from scheme header so_far.count 0 logs) runs
  pub balanced : (index : ℕ) → index < so_far.count → verdict_at scheme header logs index ≡ Balanced
  pub uneven : IfSome so_far.unbalanced (IsUneven scheme header logs so_far.count)

-- ---- more of the logs

-- the run of a verifier once it took a frame: one of another verifier is passed by
abbrev pub having_read_one : Scheme → ℕ → Progress Operation → Frame → Progress Operation
having_read_one scheme number run frame = if frame.verifier == number then fed keeps_operations scheme run frame.body else run

-- and once it took these frames
abbrev pub having_read : Scheme → ℕ → Progress Operation → List Frame → Progress Operation
having_read scheme number run [] = run
having_read scheme number run (frame ∷ frames) = having_read scheme number (having_read_one scheme number run frame) frames

-- the runs of verifiers, the first of which has this number, once they took frames
abbrev pub runs_behind : Scheme → ℕ → List (Progress Operation) → List Frame → List (Progress Operation)
runs_behind scheme number [] frames = []
runs_behind scheme number (run ∷ runs) frames = having_read scheme number run frames ∷ runs_behind scheme (suc number) runs frames

-- the runs at the ends of their logs
abbrev pub runs_ended : List (Progress Operation) → List (Progress Operation)
runs_ended runs = map ended runs
