-- What runs that can be certified have of an epoch can be judged, is of the epoch at its place, and stands in order.
use Rattle.std.proofs.Common.{◌≡◌, ℕ, suc, ◌+◌, ◌<◌, ◌^◌, List, [], ◌∷◌, length, slice_get, Some, refl, arith}
use Rattle.std.specs.List.{AllByRecursion}
use Rattle.std.proofs.lemmas.List.Elements.{All-from_recursion}
use Rattle.multiset_sum.specs.declared.part.Part.{Part}
use Rattle.record_text.specs.declared.operation.Operation.{Operation}
use Rattle.stamp_order.specs.Merged.{IsMerged}
use Rattle.stamp_order.specs.Operations.{moment_of}
use Rattle.stamp_order.proofs.InOrderLaws.{every-weaker}
use Rattle.verifier_run.specs.Progress.{Progress}
use Rattle.verifier_run.specs.Order.{clock_of, sealed_next}
use Rattle.bundle_report.specs.RunReport.{parts_at}
use Rattle.bundle_report.specs.Judged.{CanBeJudged, first_parts}
use Rattle.resumed_runs.specs.Base.{AllCanBeCertified}
use Rattle.resumed_runs.proofs.EachLemmas.{each-at}
use Rattle.resumed_runs.proofs.PartLemmas.{courses_in, IsFrom, parts-from, parts-distinct}

-- The parts at a place can be judged.
pub can-judge : (epoch index : ℕ) (runs : List (Progress Operation)) → AllCanBeCertified epoch 0 runs
    → CanBeJudged (length runs) (parts_at index (courses_in runs))
can-judge epoch index runs can =
    let parts = parts_at index (courses_in runs) in
    let all = parts-from epoch index 0 runs can in
    record {
      numbers = All-from_recursion (λ part. part.verifier < length runs) parts
          (every-weaker (IsFrom 0 (length runs)) (λ part. part.verifier < length runs) (λ part is. omega (arith, is.1)) parts all);
      once = parts-distinct epoch index 0 runs can;
      counts = All-from_recursion (λ part. (part.added.count < 2 ^ 25) × (part.evicted.count < 2 ^ 25)) parts
          (every-weaker (IsFrom 0 (length runs)) (λ part. (part.added.count < 2 ^ 25) × (part.evicted.count < 2 ^ 25)) (λ part is. (is.2, is.3)) parts all);
    }

-- Those of the first run are of one epoch after another.
pub can-epochs : (epoch index : ℕ) (runs : List (Progress Operation)) (part : Part) → AllCanBeCertified epoch 0 runs
    → slice_get (first_parts (courses_in runs)) index ≡ Some part → part.epoch ≡ epoch + index
can-epochs epoch index [] part can there = each-at epoch epoch index [] part refl there
can-epochs epoch index (run ∷ runs) part can there = each-at epoch (sealed_next (clock_of run.course)) index run.course.parts part can.0.each there

-- The operations of each run stand in the order of their moments.
pub can-in_order : (epoch number : ℕ) (runs : List (Progress Operation)) → AllCanBeCertified epoch number runs
    → AllByRecursion (λ run. IsMerged moment_of run.course.items) runs
can-in_order epoch number [] can = tt
can-in_order epoch number (run ∷ runs) can = (can.0.in_order, can-in_order epoch (suc number) runs can.1)
