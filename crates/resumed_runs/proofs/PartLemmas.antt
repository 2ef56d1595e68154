-- The parts that runs have at one place: whose they are, that they are small, and that no two are of one verifier.
use Rattle.std.proofs.Common.{◌≡◌, ℕ, zero, suc, ◌+◌, ◌<◌, ◌≤◌, ◌^◌, ◌==◌, ◌&&◌, Bool, false, List, [], ◌∷◌, ◌++◌, length, map, slice_get, Option, Some, None, ap, arith}
use Rattle.std.specs.List.{AllByRecursion, IsDistinct}
use Rattle.std.specs.Option.{option_to_list}
use Rattle.std.proofs.lemmas.Bool.{ne_eqb}
use Rattle.multiset_sum.specs.declared.part.Part.{Part}
use Rattle.record_text.specs.declared.operation.Operation.{Operation}
use Rattle.epoch_gather.specs.Parts.{is_same_part}
use Rattle.stamp_order.proofs.InOrderLaws.{every-weaker, every-append}
use Rattle.verifier_run.specs.Course.{Course}
use Rattle.verifier_run.specs.Progress.{Progress}
use Rattle.bundle_report.specs.RunReport.{parts_at}
use Rattle.resumed_runs.specs.Base.{IsOwn, AllCanBeCertified}

-- the courses of runs
abbrev pub courses_in : List (Progress Operation) → List (Course Operation)
courses_in runs = map (λ run. run.course) runs

-- what holds of each holds of the one at a place
pub every-at : (P : Part → Type 0) (parts : List Part) (index : ℕ) → AllByRecursion P parts → AllByRecursion P (option_to_list (slice_get parts index))
every-at P [] zero all = tt
every-at P [] (suc index) all = tt
every-at P (part ∷ parts) zero all = (all.0, tt)
every-at P (part ∷ parts) (suc index) all = every-at P parts index all.1

-- a small part of one of so many verifiers, from this number on
abbrev pub IsFrom : ℕ → ℕ → Part → Type 0
IsFrom number count part = (number ≤ part.verifier) × (part.verifier < number + count) × (part.added.count < 2 ^ 25) × (part.evicted.count < 2 ^ 25)

own_from : (number count : ℕ) (part : Part) → IsOwn number part → IsFrom number (suc count) part
own_from number count part own = (omega (arith, own.verifier), omega (arith, own.verifier), own.added, own.evicted)

later_from : (number count : ℕ) (part : Part) → IsFrom (suc number) count part → IsFrom number (suc count) part
later_from number count part is = (omega (arith, is.0), omega (arith, is.1), is.2, is.3)

apart_places : (part other : Part) → part.verifier < other.verifier → is_same_part part other ≡ false
apart_places part other above = ap (λ (b : Bool). b && part.epoch == other.epoch) (ne_eqb _ _ (λ same. absurd (omega (arith, above, same))))

module _ (epoch index : ℕ) where
  -- The parts are of the runs' verifiers.
  pub parts-from : (number : ℕ) (runs : List (Progress Operation)) → AllCanBeCertified epoch number runs
      → AllByRecursion (IsFrom number (length runs)) (parts_at index (courses_in runs))
  parts-from number [] can = tt
  parts-from number (run ∷ runs) can =
      let own = option_to_list (slice_get run.course.parts index) in
      let others = parts_at index (courses_in runs) in
      every-append (IsFrom number (suc (length runs))) own others
      (every-weaker (IsOwn number) (IsFrom number (suc (length runs))) (own_from number (length runs)) own (every-at (IsOwn number) run.course.parts index can.0.own))
      (every-weaker (IsFrom (suc number) (length runs)) (IsFrom number (suc (length runs))) (later_from number (length runs)) others (parts-from (suc number) runs can.1))

  one_more : (number count : ℕ) (part : Part) (others : List Part) → part.verifier ≡ number → AllByRecursion (IsFrom (suc number) count) others
      → IsDistinct is_same_part others → IsDistinct is_same_part (part ∷ others)
  unfolding IsDistinct
  one_more number count part others own later distinct = (
    every-weaker (IsFrom (suc number) count) (λ other. is_same_part part other ≡ false)
        (λ other is. apart_places part other (omega (arith, own, is.0))) others later,
    distinct,
  )

  no_more : IsDistinct is_same_part []
  unfolding IsDistinct
  no_more = tt

  -- No two of them are of one verifier.
  pub parts-distinct : (number : ℕ) (runs : List (Progress Operation)) → AllCanBeCertified epoch number runs
      → IsDistinct is_same_part (parts_at index (courses_in runs))
  parts-distinct number [] can = no_more
  parts-distinct number (run ∷ runs) can =
      go (slice_get run.course.parts index) (every-at (IsOwn number) run.course.parts index can.0.own) (parts-distinct (suc number) runs can.1)
    where
      others : List Part
      others = parts_at index (courses_in runs)

      go : (found : Option Part) → AllByRecursion (IsOwn number) (option_to_list found) → IsDistinct is_same_part others
          → IsDistinct is_same_part (option_to_list found ++ others)
      go None own distinct = distinct
      go (Some part) own distinct = one_more number (length runs) part others own.0.verifier (parts-from (suc number) runs can.1) distinct
