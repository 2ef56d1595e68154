-- The operations that runs have up to an epoch stand in order each, and together they are those of all runs.
use Rattle.std.proofs.Common.{◌≡◌, ℕ, ◌+◌, nat_le, List, [], ◌∷◌, ◌++◌, map, refl, sym, ◌∙◌, ap, subst}
use Rattle.std.specs.List.{AllByRecursion, flat_map}
use Rattle.std.proofs.lemmas.List.Elements.{filter-append}
use Rattle.record_text.specs.declared.operation.Operation.{Operation}
use Rattle.stamp_order.specs.Merged.{comes_before, IsMerged, up_to}
use Rattle.stamp_order.specs.Operations.{moment_of}
use Rattle.stamp_order.specs.Lists.{all_of, AreMerged}
use Rattle.stamp_order.proofs.InOrderLaws.{IsInOrder-filter}
use Rattle.stamp_order.proofs.MomentLaws.{comes_before-order}
use Rattle.verifier_run.specs.Taken.{taken_by}
use Rattle.bundle_report.specs.declared.judged.Judged.{Judged}
use Rattle.bundle_report.specs.RunReport.{operations_among}
use Rattle.resumed_runs.proofs.JudgedLaws.{can-in_order}
use Rattle.certified_epochs.specs.declared.fed_run.FedRun.{FedRun}
use Rattle.certified_epochs.specs.Turn.{StandInOrder, CanCertify}

-- ---- of runs

of_runs : (runs : List FedRun) → AllByRecursion (λ run. IsMerged moment_of run.course.items) (map (λ fed. fed.run) runs) → StandInOrder runs
of_runs [] order = tt
of_runs (fed ∷ runs) order = (order.0, of_runs runs order.1)

-- Runs that can be certified have their operations in order.
pub fed-in_order : (so_far : Judged) (runs : List FedRun) → CanCertify so_far (map (λ fed. fed.run) runs) → StandInOrder runs
fed-in_order so_far runs can = of_runs runs (can-in_order (can.first + so_far.count) 0 (map (λ fed. fed.run) runs) can.each)

-- ---- up to an epoch

-- what each run has up to an epoch
abbrev pub fronts_by : ℕ → List FedRun → List (List Operation)
fronts_by epoch runs = map (λ fed. taken_by epoch fed.run.course) runs

in_order : (epoch : ℕ) (runs : List FedRun) → StandInOrder runs → AllByRecursion (IsMerged moment_of) (fronts_by epoch runs)
in_order epoch [] order = tt
in_order epoch (fed ∷ runs) order = (
  IsInOrder-filter (comes_before moment_of) (comes_before-order moment_of) (λ (op : Operation). nat_le op.stamp.epoch epoch) fed.run.course.items order.0,
  in_order epoch runs order.1,
)

-- The fronts stand in order.
pub fronts-in_order : (epoch : ℕ) (runs : List FedRun) (fronts : List (List Operation)) → fronts ≡ fronts_by epoch runs → StandInOrder runs → AreMerged fronts
fronts-in_order epoch runs fronts are order = subst AreMerged (sym are) (in_order epoch runs order)

joined : (epoch : ℕ) (runs : List FedRun)
    → flat_map (λ ops. ops) (fronts_by epoch runs) ≡ up_to moment_of epoch (operations_among (map (λ fed. fed.run.course) runs))
joined epoch [] = refl
joined epoch (fed ∷ runs) =
    ap (λ (more : List Operation). taken_by epoch fed.run.course ++ more) (joined epoch runs)
    ∙ sym (filter-append (λ (op : Operation). nat_le op.stamp.epoch epoch) fed.run.course.items (operations_among (map (λ (f : FedRun). f.run.course) runs)))

-- And they are all operations up to the epoch.
pub fronts-all : (epoch : ℕ) (runs : List FedRun) (fronts : List (List Operation)) → fronts ≡ fronts_by epoch runs
    → all_of fronts ≡ up_to moment_of epoch (operations_among (map (λ fed. fed.run.course) runs))
fronts-all epoch runs fronts are = ap all_of are ∙ joined epoch runs
