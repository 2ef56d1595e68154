-- The runs that go on from what was kept, one after another.
use Rattle.std.proofs.Common.{◌≡◌, ℕ, suc, ◌+◌, ◌<◌, List, [], ◌∷◌, ◌++◌, length, map, drop, get_or, refl, sym, ap, subst, ◌∙◌, append_assoc, arith}
use Rattle.std.proofs.lemmas.List.{map-append}
use Rattle.std.proofs.Math.Seq.{drop-cons}
use Rattle.lamport_clocks.specs.declared.header.Header.{Header}
use Rattle.record_text.specs.declared.operation.Operation.{Operation}
use Rattle.seals.specs.declared.state.RunState.{RunState}
use Rattle.seals.specs.Kept.{kept_in}
use Rattle.seals.specs.Run.{IsGoodRun}
use Rattle.seals.specs.Seal.{AreGoodRuns}
use Rattle.verifier_run.specs.Progress.{Progress}
use Rattle.verifier_run.specs.Sealed.{run_from}
use Rattle.resumed_runs.specs.Kept.{runs_from_kept}
use Rattle.certified_epochs.specs.declared.fed_run.FedRun.{FedRun}

-- what is left begins with the next
next_kept : (items : List RunState) (number : ℕ) (kept : RunState) → number < length items → kept ≡ get_or items number kept
    → drop number items ≡ kept ∷ drop (number + 1) items
next_kept items number kept more is =
    let next : suc number ≡ number + 1 = omega arith in
    drop-cons items number kept more ∙ ap (λ (one : RunState). one ∷ drop (suc number) items) (sym is) ∙ ap (λ (n : ℕ). kept ∷ drop n items) next

-- which is good, and so is what is left then
pub kept_good : (header : Header) (certified taken number : ℕ) (items : List RunState) (kept : RunState) → number < length items → kept ≡ get_or items number kept
    → AreGoodRuns header certified taken number (map kept_in (drop number items))
    → IsGoodRun header certified taken number (kept_in kept) × AreGoodRuns header certified taken (number + 1) (map kept_in (drop (number + 1) items))
kept_good header certified taken number items kept more is good =
    let next : suc number ≡ number + 1 = omega arith in
    let both = subst (λ (left : List RunState). AreGoodRuns header certified taken number (map kept_in left)) (next_kept items number kept more is) good in
    (both.0, subst (λ (n : ℕ). AreGoodRuns header certified taken n (map kept_in (drop (number + 1) items))) next both.1)

-- its run stands behind those so far
pub kept_run_more : (header : Header) (number : ℕ) (items : List RunState) (kept : RunState) (runs runs_now : List FedRun) (fed : FedRun)
    → number < length items → kept ≡ get_or items number kept → runs_now ≡ runs ++ fed ∷ [] → fed.run ≡ run_from number header (kept_in kept)
    → map (λ fed. fed.run) runs ++ runs_from_kept header number (map kept_in (drop number items)) ≡ runs_from_kept header 0 (map kept_in items)
    → map (λ fed. fed.run) runs_now ++ runs_from_kept header (number + 1) (map kept_in (drop (number + 1) items)) ≡ runs_from_kept header 0 (map kept_in items)
kept_run_more header number items kept runs runs_now fed more is pushed run so_far =
    let next : suc number ≡ number + 1 = omega arith in
    let run_of : FedRun → Progress Operation = λ fed. fed.run in
    let left = runs_from_kept header (number + 1) (map kept_in (drop (number + 1) items)) in
    ap (λ (rs : List FedRun). map run_of rs ++ left) pushed
    ∙ ap (λ (rs : List (Progress Operation)). rs ++ left) (map-append run_of runs (fed ∷ []))
    ∙ append_assoc (map run_of runs) (fed.run ∷ []) left
    ∙ ap (λ (r : Progress Operation). map run_of runs ++ r ∷ left) run
    ∙ ap (λ (n : ℕ). map run_of runs ++ run_from number header (kept_in kept) ∷ runs_from_kept header n (map kept_in (drop (number + 1) items))) (sym next)
    ∙ ap (λ (ks : List RunState). map run_of runs ++ runs_from_kept header number (map kept_in ks)) (sym (next_kept items number kept more is))
    ∙ so_far
