-- Where the verdict on the next epoch is that it is balanced, each run has sealed it.
use Rattle.std.proofs.Common.{◌≡◌, ℕ, suc, ◌+◌, ◌<◌, ◌≤◌, ◌==◌, ◌&&◌, ◌||◌, Bool, true, false, List, [], ◌∷◌, ◌++◌, length, slice_get, Option, Some, None, MatchOption, refl, sym, ◌∙◌, ap, arith}
use Rattle.std.specs.List.{AllByRecursion}
use Rattle.std.specs.Option.{option_to_list}
use Rattle.std.proofs.lemmas.Bool.{true≢false}
use Rattle.std.proofs.lemmas.Bool.Decides.{nat_tests}
use Rattle.multiset_sum.specs.declared.part.Part.{Part}
use Rattle.record_text.specs.declared.operation.Operation.{Operation}
use Rattle.epoch_gather.specs.declared.outcome.Verdict.TheVariants.{Balanced}
use Rattle.epoch_gather.specs.Parts.{has_part, lowest_missing}
use Rattle.epoch_gather.specs.Verdict.{verdict_of}
use Rattle.epoch_gather.proofs.VerdictLaws.{lowest_missing-is, verdict_of-Balanced}
use Rattle.stamp_order.proofs.InOrderLaws.{every-weaker}
use Rattle.verifier_run.specs.Progress.{Progress}
use Rattle.verifier_run.specs.Order.{OneOfEach, clock_of, sealed_next}
use Rattle.bundle_report.specs.RunReport.{parts_at}
use Rattle.resumed_runs.specs.Base.{IsOwn, AllCanBeCertified}
use Rattle.resumed_runs.proofs.EachLemmas.{each-count}
use Rattle.resumed_runs.proofs.PartLemmas.{courses_in, every-at, IsFrom, parts-from}

-- a part of another verifier is not the one that is looked for
other_part : (epoch verifier : ℕ) (part : Part) → (part.verifier ≡ verifier → ⊥) → (part.epoch == epoch && part.verifier == verifier) ≡ false
other_part epoch verifier part apart = grind (arith, nat_tests, apart)

-- nor is any of the later verifiers'
none_later : (epoch verifier : ℕ) (parts : List Part) → AllByRecursion (λ part. verifier < part.verifier) parts → has_part parts epoch verifier ≡ false
none_later epoch verifier [] later = refl
none_later epoch verifier (part ∷ parts) later =
    ap (λ (b : Bool). b || has_part parts epoch verifier) (other_part epoch verifier part (λ same. absurd (omega (arith, later.0, same))))
    ∙ none_later epoch verifier parts later.1

module _ (epoch : ℕ) where
  -- the runs have handed in what is looked for, of verifiers from this number on
  abbrev AllThere : ℕ → List (Progress Operation) → Type 0
  AllThere number runs = (verifier : ℕ) → number ≤ verifier → verifier < number + length runs → has_part (parts_at 0 (courses_in runs)) epoch verifier ≡ true

  -- a run of which the part is there has sealed its epoch
  first_sealed : (number next : ℕ) (parts others : List Part) → OneOfEach epoch next parts → AllByRecursion (λ part. number < part.verifier) others
      → has_part (option_to_list (slice_get parts 0) ++ others) epoch number ≡ true → epoch < next
  first_sealed number next [] others each later there = absurd (true≢false (sym there ∙ none_later epoch number others later))
  first_sealed number next (part ∷ parts) others each later there = omega (arith, each-count epoch next (part ∷ parts) each)

  -- and those of the others are there without it
  others_there : (number : ℕ) (own : Option Part) (others : List Part) (verifier : ℕ) → AllByRecursion (IsOwn number) (option_to_list own) → suc number ≤ verifier
      → has_part (option_to_list own ++ others) epoch verifier ≡ true → has_part others epoch verifier ≡ true
  others_there number None others verifier own past there = there
  others_there number (Some part) others verifier own past there =
      sym (ap (λ (b : Bool). b || has_part others epoch verifier) (other_part epoch verifier part (λ same. absurd (omega (arith, past, same, own.0.verifier))))) ∙ there

  all_sealed : (number : ℕ) (runs : List (Progress Operation)) → AllCanBeCertified epoch number runs → AllThere number runs
      → AllByRecursion (λ run. epoch < sealed_next (clock_of run.course)) runs
  all_sealed number [] can there = tt
  all_sealed number (run ∷ runs) can there =
      let others = parts_at 0 (courses_in runs) in
      let own = slice_get run.course.parts 0 in (
        first_sealed number (sealed_next (clock_of run.course)) run.course.parts others can.0.each
            (every-weaker (IsFrom (suc number) (length runs)) (λ part. number < part.verifier) (λ part is. omega (arith, is.0)) others (parts-from epoch 0 (suc number) runs can.1))
            (there number (omega arith) (omega arith)),
        all_sealed (suc number) runs can.1 (λ verifier from below.
            others_there number own others verifier (every-at (IsOwn number) run.course.parts 0 can.0.own) from
            (there verifier (omega (arith, from)) (omega (arith, below)))),
      )

  -- So it is with a balanced epoch.
  pub balanced-sealed : (runs : List (Progress Operation)) → AllCanBeCertified epoch 0 runs
      → verdict_of (length runs) epoch (parts_at 0 (courses_in runs)) ≡ Balanced
      → AllByRecursion (λ run. epoch < sealed_next (clock_of run.course)) runs
  balanced-sealed runs can balanced =
      all_sealed 0 runs can (λ verifier from below. none (lowest_missing (length runs) epoch parts) (lowest_missing-is (length runs) epoch parts)
      ((verdict_of-Balanced (length runs) epoch parts).0 balanced).0 verifier (omega (arith, below)))
    where
      parts : List Part
      parts = parts_at 0 (courses_in runs)

      none : (missing : Option ℕ)
          → MatchOption missing ((verifier : ℕ) → verifier < length runs → has_part parts epoch verifier ≡ true)
          (λ v. (v < length runs) × (has_part parts epoch v ≡ false) × ((lower : ℕ) → lower < v → has_part parts epoch lower ≡ true))
          → missing ≡ None → (verifier : ℕ) → verifier < length runs → has_part parts epoch verifier ≡ true
      none None all is = all
      none (Some v) all is = absurd (cc)
