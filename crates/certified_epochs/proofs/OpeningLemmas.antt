-- The runs of verifiers before the first byte, one after another.
use Rattle.std.proofs.Common.{◌≡◌, ℕ, suc, ◌+◌, ◌-◌, ◌<◌, false, List, [], ◌∷◌, ◌++◌, map, subst, sym, ◌∙◌, ap, append_assoc, arith}
use Rattle.std.proofs.lemmas.List.{map-append}
use Rattle.lamport_clocks.specs.declared.header.Header.{Header}
use Rattle.record_text.specs.declared.operation.Operation.{Operation}
use Rattle.verifier_run.specs.Progress.{Progress, opening_progress}
use Rattle.bundle_report.specs.SoFar.{opening_runs}
use Rattle.certified_epochs.specs.declared.fed_run.FedRun.{FedRun}
use Rattle.certified_epochs.specs.Turn.{AreFed}

pub runs_one_more : (header : Header) (number all next : ℕ) (runs runs_more : List FedRun) (fed : FedRun) → number < all → next ≡ number + 1
    → runs_more ≡ runs ++ fed ∷ [] → fed.run ≡ opening_progress number header
    → map (λ fed. fed.run) runs ++ opening_runs header number (all - number) ≡ opening_runs header 0 all
    → map (λ fed. fed.run) runs_more ++ opening_runs header next (all - next) ≡ opening_runs header 0 all
runs_one_more header number all next runs runs_more fed within is more opening so_far =
    let own : next ≡ suc number = omega (arith, is) in
    let behind : all - number ≡ suc (all - next) = omega (arith, within, is) in
    let rest = opening_runs header next (all - next) in
    ap (λ (rs : List FedRun). map (λ fed. fed.run) rs ++ rest) more
    ∙ ap (λ (rs : List (Progress Operation)). rs ++ rest) (map-append (λ (f : FedRun). f.run) runs (fed ∷ []))
    ∙ append_assoc (map (λ fed. fed.run) runs) (fed.run ∷ []) rest
    ∙ ap (λ (run : Progress Operation). map (λ fed. fed.run) runs ++ run ∷ rest) opening
    ∙ ap (λ (n : ℕ). map (λ fed. fed.run) runs ++ opening_progress number header ∷ opening_runs header n (all - next)) own
    ∙ sym (ap (λ (n : ℕ). map (λ fed. fed.run) runs ++ opening_runs header number n) behind)
    ∙ so_far

fed_behind : (runs : List FedRun) (fed : FedRun) → AreFed runs → fed.is_starved ≡ false → AreFed (runs ++ fed ∷ [])
fed_behind [] fed are is = (is, tt)
fed_behind (run ∷ runs) fed are is = (are.0, fed_behind runs fed are.1 is)

pub fed_one_more : (runs runs_more : List FedRun) (fed : FedRun) → runs_more ≡ runs ++ fed ∷ [] → AreFed runs → fed.is_starved ≡ false → AreFed runs_more
fed_one_more runs runs_more fed more are is = subst AreFed (sym more) (fed_behind runs fed are is)
