-- What a book settles of passes by which verifiers handed in what their runs have.
use Rattle.std.proofs.Common.{◌≡◌, ◌⊎◌, inl, inr, ⊎_elim, ℕ, zero, suc, ◌+◌, ◌<◌, false, List, [], ◌∷◌, ◌++◌, length, map, get_or, slice_get, Option, Some, None, All, refl, sym, ◌∙◌, ap, subst, arith}
use Rattle.std.specs.List.{cons_option}
use Rattle.std.specs.Option.{option_to_list}
use Rattle.std.proofs.lemmas.List.{length-map}
use Rattle.std.proofs.lemmas.List.Elements.{All-from_recursion, All-get_or}
use Rattle.std.proofs.lemmas.Option.{get_or_from_slice_get, slice_get_within, slice_get-get_or}
use Rattle.multiset_sum.specs.declared.part.Part.{Part}
use Rattle.epoch_gather.specs.declared.outcome.Verdict.{Verdict}
use Rattle.epoch_gather.specs.Verdict.{verdict_of}
use Rattle.epoch_book.specs.declared.book.EpochBook.{EpochBook}
use Rattle.epoch_book.specs.declared.pass.Pass.{Pass}
use Rattle.epoch_book.specs.Passes.{number_of, part_of, parts_of, verifiers_of, AreAllPassesOf}
use Rattle.bundle_report.specs.declared.judged.Judged.{Judged}
use Rattle.bundle_report.specs.RunReport.{parts_at}
use Rattle.certified_epochs.specs.declared.fed_run.FedRun.{FedRun}
use Rattle.certified_epochs.specs.Turn.{AreFed, courses_in, IsVerdictAt, CanCertify, AreVerdictsOn}
use Rattle.record_text.specs.declared.operation.Operation.{Operation}
use Rattle.verifier_run.specs.Progress.{Progress}
use Rattle.certified_epochs.proofs.CanCertifyLaws.{can_certify-epochs}
use Rattle.host_rounds.specs.Sealing.{HasHandedIn, IsNewPass}
use Rattle.host_rounds.proofs.HalvesLemmas.{first-of}
use Rattle.host_rounds.proofs.SealingLemmas.{one-of}

-- The passes of a new book have handed in nothing.
pub new-pass : (book : EpochBook) (passes : List Pass) (number : ℕ) (e : Pass) → AreAllPassesOf book passes → All (λ pass. part_of pass ≡ None) passes
    → number < length passes → IsNewPass book number (get_or passes number e)
new-pass book passes number e are empty within =
    let is = are.each number (get_or passes number e) (slice_get-get_or passes number e within) in
    record { of_book = is.1; number_is = is.0; empty = All-get_or (λ (pass : Pass). part_of pass ≡ None) passes number e within empty }

-- ---- what was handed in

cons_is : {X : Type 0} (first : Option X) (xs : List X) (p : Option X) → p ≡ first → cons_option p xs ≡ option_to_list first ++ xs
cons_is {X} None xs p is = ap (λ (o : Option X). cons_option o xs) is
cons_is {X} (Some x) xs p is = ap (λ (o : Option X). cons_option o xs) is

-- The parts that were handed in are those that the runs have of the epoch at the place.
parts_handed : (index : ℕ) (runs : List FedRun) (passes : List Pass) → length passes ≡ length runs
    → ((i : ℕ) (d : FedRun) (e : Pass) → i < length runs → part_of (get_or passes i e) ≡ slice_get (get_or runs i d).run.course.parts index)
    → parts_of passes ≡ parts_at index (courses_in (map (λ fed. fed.run) runs))
parts_handed index [] [] len each = refl
parts_handed index [] (pass ∷ passes) len each = absurd (omega (arith, len))
parts_handed index (run ∷ runs) [] len each = absurd (omega (arith, len))
parts_handed index (run ∷ runs) (pass ∷ passes) len each =
    ap (cons_option (part_of pass)) (parts_handed index runs passes (omega (arith, len)) (λ i d e within. each (suc i) d e (omega (arith, within))))
    ∙ cons_is (slice_get run.run.course.parts index) (parts_at index (courses_in (map (λ fed. fed.run) runs))) (part_of pass) (each 0 run pass (omega arith))

module _ (book : EpochBook) (index : ℕ) (runs : List FedRun) (passes : List Pass) (many : length passes ≡ length runs) (verifiers : verifiers_of book ≡ length runs)
    (each : (i : ℕ) (d : FedRun) (e : Pass) → i < length runs → HasHandedIn book index i (get_or runs i d) (get_or passes i e)) where
  -- All passes of the book have come together.
  pub all-passes : AreAllPassesOf book passes
  all-passes = record {
    count = many ∙ sym verifiers;
    each = λ verifier pass there.
        let within = slice_get_within passes verifier pass there in
        let here : verifier < length runs = omega (arith, within, many) in
        let d = first-of runs verifier here in
        let is = get_or_from_slice_get passes verifier pass pass there in
        let handed = subst (HasHandedIn book index verifier (get_or runs verifier d)) is (each verifier d pass here) in
        (handed.number_is, handed.of_book);
  }

  -- What the book says is the verdict on the epoch by what the runs have handed in.
  pub settled-verdict : (judged : Judged) (verdict : Verdict) → AreFed runs → (can : CanCertify judged (map (λ fed. fed.run) runs))
      → ((epoch : ℕ) → All (λ part. part.epoch ≡ epoch) (parts_of passes) → verdict ≡ verdict_of (verifiers_of book) epoch (parts_of passes))
      → IsVerdictAt (map (λ fed. fed.run) runs) index (can.first + judged.count + index) verdict
  settled-verdict judged verdict fed can says =
      let epoch = can.first + judged.count + index in
      let all_runs = map (λ (f : FedRun). f.run) runs in
      let parts_are = parts_handed index runs passes many (λ i d e within. (each i d e within).part (one-of (λ (f : FedRun). f.is_starved ≡ false) runs i d within fed)) in
      let epochs = can_certify-epochs judged all_runs can index in
      says epoch
      (subst (All (λ (part : Part). part.epoch ≡ epoch)) (sym parts_are) (All-from_recursion (λ (part : Part). part.epoch ≡ epoch) (parts_at index (courses_in all_runs)) epochs))
      ∙ ap (verdict_of (verifiers_of book) epoch) parts_are
      ∙ ap (λ (n : ℕ). verdict_of n epoch (parts_at index (courses_in all_runs))) (verifiers ∙ sym (length-map runs (λ (f : FedRun). f.run)))

-- ---- the verdicts of a round

-- the last of a list, or one before it
get-snoc : {X : Type 0} (xs : List X) (x y : X) (k : ℕ) → slice_get (xs ++ x ∷ []) k ≡ Some y → (slice_get xs k ≡ Some y) ⊎ ((k ≡ length xs) × (x ≡ y))
get-snoc [] x y zero at = inr (refl, cc)
get-snoc [] x y (suc k) at = absurd (cc)
get-snoc (z ∷ xs) x y zero at = inl at
get-snoc (z ∷ xs) x y (suc k) at = ⊎_elim inl (λ here. inr (ap suc here.0, here.1)) (get-snoc xs x y k at)

-- one more
pub one-more : (judged : Judged) (runs : List (Progress Operation)) (all verdicts : List Verdict) (verdict : Verdict) → AreVerdictsOn judged runs verdicts
    → all ≡ verdicts ++ verdict ∷ [] → ((can : CanCertify judged runs) → IsVerdictAt runs (length verdicts) (can.first + judged.count + length verdicts) verdict)
    → AreVerdictsOn judged runs all
one-more judged runs all verdicts verdict so_far is own = λ can index found there.
    at can index found (get-snoc verdicts verdict found index (ap (λ (vs : List Verdict). slice_get vs index) (sym is) ∙ there))
  where
    at : (can : CanCertify judged runs) (index : ℕ) (found : Verdict) → (slice_get verdicts index ≡ Some found) ⊎ ((index ≡ length verdicts) × (verdict ≡ found))
        → IsVerdictAt runs index (can.first + judged.count + index) found
    at can index found (inl there) = so_far can index found there
    at can index found (inr here) =
        subst (λ (n : ℕ). IsVerdictAt runs n (can.first + judged.count + n) found) (sym here.0)
        (subst (IsVerdictAt runs (length verdicts) (can.first + judged.count + length verdicts)) here.1 (own can))
