-- One turn of certifying: the next epoch of runs that certified epochs were taken out of.
use Rattle.std.specs.Prelude.{◌≡◌, ℕ, suc, ◌+◌, Bool, true, false, List, [], length, map, slice_get, Option, Some, None}
use Rattle.std.specs.List.{AllByRecursion}
use Rattle.std.specs.Option.{option_map}
use Rattle.epoch_gather.specs.declared.outcome.Verdict.{Verdict}
use Rattle.epoch_gather.specs.declared.outcome.Verdict.TheVariants as verdicts
use Rattle.epoch_gather.specs.Verdict.{verdict_of}
use Rattle.stamp_order.specs.Operations.{moment_of, merged_up_to}
use Rattle.stamp_order.specs.Merged.{IsMerged}
use Rattle.record_text.specs.declared.operation.Operation.{Operation}
use Rattle.verifier_run.specs.Course.{Course}
use Rattle.verifier_run.specs.Progress.{Progress, ended}
use Rattle.verifier_run.specs.Taken.{left_of}
use Rattle.bundle_report.specs.declared.judged.Judged.{Judged}
use Rattle.bundle_report.specs.Report.{EpochTold}
use Rattle.bundle_report.specs.RunReport.{parts_at, operations_among}
use Rattle.bundle_report.specs.Judged.{first_parts}
use Rattle.resumed_runs.specs.Base.{AllCanBeCertified}
use Rattle.certified_epochs.specs.declared.fed_run.FedRun.{FedRun}

-- no run was starved
abbrev pub AreFed : List FedRun → Type 0
AreFed runs = AllByRecursion (λ fed. fed.is_starved ≡ false) runs

-- the operations of each run stand in the order of their moments
abbrev pub StandInOrder : List FedRun → Type 0
StandInOrder runs = AllByRecursion (λ fed. IsMerged moment_of fed.run.course.items) runs

-- a run at the end of its log
abbrev pub ended_fed : FedRun → FedRun
ended_fed fed = record fed { run = ended fed.run }

-- a run without what it has up to an epoch
abbrev pub left_fed : ℕ → FedRun → FedRun
left_fed epoch fed = record fed { run = left_of epoch fed.run }

-- the courses of runs
abbrev pub courses_in : List (Progress Operation) → List (Course Operation)
courses_in runs = map (λ run. run.course) runs

-- the epoch of the first part that the first run still has
abbrev pub next_epoch : List (Progress Operation) → Option ℕ
next_epoch runs = option_map (λ part. part.epoch) (slice_get (first_parts (courses_in runs)) 0)

-- this is the verdict on an epoch, by what the runs have handed in of it, which stands at this place among their parts
abbrev pub IsVerdictAt : List (Progress Operation) → ℕ → ℕ → Verdict → Type 0
IsVerdictAt runs index epoch verdict = verdict ≡ verdict_of (length runs) epoch (parts_at index (courses_in runs))

-- Runs can be certified further, whatever logs they took, if any: behind as many epochs as are counted, from a first one on, each has what
-- a verdict takes.
pub record CanCertify (so_far : Judged) (runs : List (Progress Operation)) : Type 0 where
  pub first : ℕ
  pub each : AllCanBeCertified (first + so_far.count) 0 runs

-- these are the verdicts on the next epochs, one after another, where runs can be certified
abbrev pub AreVerdictsOn : Judged → List (Progress Operation) → List Verdict → Type 0
AreVerdictsOn so_far runs verdicts =
    (can : CanCertify so_far runs) (index : ℕ) (verdict : Verdict) → slice_get verdicts index ≡ Some verdict
    → IsVerdictAt runs index (can.first + so_far.count + index) verdict

-- how many parts the first run still has
abbrev pub parts_left : List FedRun → ℕ
parts_left runs = length (first_parts (courses_in (map (λ fed. fed.run) runs)))

-- whether there is more, what is judged, the runs, and the lines or what else is told
pub record Turned (A : Type 0) : Type 0 where
  pub more : Bool
  pub judged : Judged
  pub runs : List (Progress Operation)
  pub text : List A

-- nothing changes
abbrev pub no_turn : {A : Type 0} → Judged → List (Progress Operation) → Turned A
no_turn judged runs = record { more = false; judged = judged; runs = runs; text = [] }

-- the next epoch by its verdict: a balanced one is counted, told and taken out of the runs
abbrev pub turn_by : {A : Type 0} → EpochTold A → Judged → List (Progress Operation) → ℕ → Verdict → Turned A
turn_by tell judged runs epoch verdicts.Balanced = record {
  more = true;
  judged = record judged { count = suc judged.count };
  runs = map (left_of epoch) runs;
  text = tell epoch (merged_up_to epoch (operations_among (courses_in runs)));
}
turn_by tell judged runs epoch (verdicts.Unbalanced added evicted) =
    no_turn (record judged { unbalanced = Some (record { epoch = epoch; added = added; evicted = evicted }) }) runs
turn_by tell judged runs epoch (verdicts.Missing verifier) = no_turn judged runs

-- the next epoch, if the first run has sealed one
abbrev pub turn_at : {A : Type 0} → EpochTold A → Judged → List (Progress Operation) → Option ℕ → Turned A
turn_at tell judged runs None = no_turn judged runs
turn_at tell judged runs (Some epoch) = turn_by tell judged runs epoch (verdict_of (length runs) epoch (parts_at 0 (courses_in runs)))

-- One turn, where no epoch is unbalanced so far.
abbrev pub turn : {A : Type 0} → EpochTold A → Judged → List (Progress Operation) → Turned A
turn tell judged runs = turn_at tell judged runs (next_epoch runs)
