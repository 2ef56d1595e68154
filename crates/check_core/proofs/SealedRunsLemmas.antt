-- What holds of the runs that go on from a good seal, whoever wrote it.
use Rattle.std.proofs.Common.{◌≡◌, ℕ, suc, ◌+◌, ◌≤◌, List, [], ◌∷◌, length, map, None, refl, sym, subst, arith}
use Rattle.std.specs.List.{AllByRecursion}
use Rattle.lamport_clocks.specs.declared.header.Header.{Header}
use Rattle.record_text.specs.declared.operation.Operation.{Operation}
use Rattle.seals.specs.State.{KeptRun}
use Rattle.seals.specs.Run.{IsGoodRun}
use Rattle.seals.specs.Seal.{AreGoodRuns}
use Rattle.seals.specs.Meaning.{IsClock}
use Rattle.verifier_run.specs.Progress.{Progress, weight}
use Rattle.bundle_report.specs.declared.judged.Judged.{Judged}
use Rattle.resumed_runs.specs.Base.{AllCanBeCertified}
use Rattle.resumed_runs.specs.Kept.{runs_from_kept}
use Rattle.certified_epochs.specs.declared.fed_run.FedRun.{FedRun}
use Rattle.certified_epochs.specs.Turn.{CanCertify}
use Rattle.certified_epochs.proofs.RunsLaws.{all_runs}

kept_headers : (header : Header) (number : ℕ) (kept : List KeptRun) → AllByRecursion (λ run. run.course.machine.header ≡ header) (runs_from_kept header number kept)
kept_headers header number [] = tt
kept_headers header number (run ∷ kept) = (refl, kept_headers header (suc number) kept)

-- each accepted no more commands than bytes were taken
kept_weights : ((header : Header) (certified taken number : ℕ) (run : KeptRun) → IsGoodRun header certified taken number run → IsClock header certified taken run.at run.accepted)
    → (header : Header) (certified taken number : ℕ) (kept : List KeptRun) → AreGoodRuns header certified taken number kept
    → AllByRecursion (λ run. weight run ≤ taken) (runs_from_kept header number kept)
kept_weights clock header certified taken number [] good = tt
kept_weights clock header certified taken number (run ∷ kept) good =
    let at = clock header certified taken number run good.0 in
    (omega (arith, at.accepted_few), kept_weights clock header certified taken (suc number) kept good.1)

module _ (header : Header) (certified taken : ℕ) (kept : List KeptRun) (runs : List FedRun) (is : map (λ fed. fed.run) runs ≡ runs_from_kept header 0 kept) where
  pub sealed_headers : AllByRecursion (λ fed. fed.run.course.machine.header ≡ header) runs
  sealed_headers =
      all_runs (λ run. run.course.machine.header ≡ header) runs
      (subst (AllByRecursion (λ run. run.course.machine.header ≡ header)) (sym is) (kept_headers header 0 kept))

  pub sealed_weights : ((header : Header) (certified taken number : ℕ) (run : KeptRun) → IsGoodRun header certified taken number run → IsClock header certified taken run.at run.accepted)
      → AreGoodRuns header certified taken 0 kept → AllByRecursion (λ fed. weight fed.run ≤ taken) runs
  sealed_weights clock good =
      all_runs (λ run. weight run ≤ taken) runs
      (subst (AllByRecursion (λ run. weight run ≤ taken)) (sym is) (kept_weights clock header certified taken 0 kept good))

  -- they can be certified on
  pub sealed_certify : (so_far : Judged) → so_far ≡ record { count = certified; unbalanced = None }
      → AllCanBeCertified (header.first + certified) 0 (runs_from_kept header 0 kept) → CanCertify so_far (map (λ fed. fed.run) runs)
  sealed_certify so_far counted each =
      subst (λ (j : Judged). CanCertify j (map (λ fed. fed.run) runs)) (sym counted)
      (record { first = header.first; each = subst (AllCanBeCertified (header.first + certified) 0) (sym is) each })
