-- Runs that took a round elsewhere.
use Rattle.std.proofs.Common.{◌≡◌, ℕ, suc, ◌+◌, ◌≤◌, List, [], ◌∷◌, length, refl, sym, ap, subst, arith}
use Rattle.std.specs.List.{AllByRecursion}
use Rattle.record_hash.specs.Functions.{DigestFunctions}
use Rattle.record_text.specs.declared.operation.Operation.{Operation}
use Rattle.merkle_records.specs.Scheme.{Scheme, scheme_of}
use Rattle.verifier_run.specs.Kept.{keeps_operations}
use Rattle.verifier_run.specs.Progress.{Progress, fed, weight}
use Rattle.certified_epochs.specs.declared.fed_run.FedRun.{FedRun}
use Rattle.host_rounds.specs.Feeding.{AllRead}

-- a piece weighs no more than its bytes
abbrev pub PiecesWeigh : Type 0
PiecesWeigh = (scheme : Scheme) (progress : Progress Operation) (piece : List ℕ) → weight (fed keeps_operations scheme progress piece) ≤ weight progress + length piece

-- runs that took logs weigh no more than is counted
pub takes-few : PiecesWeigh → (functions : DigestFunctions) (bytes all : ℕ) (round : List (List ℕ)) (olds news : List FedRun) → AllRead functions round olds news
    → AllByRecursion (λ fed. weight fed.run ≤ bytes) olds → AllByRecursion (λ log. bytes + length log ≤ all) round → AllByRecursion (λ fed. weight fed.run ≤ all) news
takes-few weigh functions bytes all [] [] [] takes few counted = tt
takes-few weigh functions bytes all [] [] (new ∷ news) takes few counted = absurd takes
takes-few weigh functions bytes all [] (old ∷ olds) news takes few counted = absurd takes
takes-few weigh functions bytes all (log ∷ round) [] news takes few counted = absurd takes
takes-few weigh functions bytes all (log ∷ round) (old ∷ olds) [] takes few counted = absurd takes
takes-few weigh functions bytes all (log ∷ round) (old ∷ olds) (new ∷ news) takes few counted = (
  subst (λ (run : Progress Operation). weight run ≤ all) (sym takes.0.taken)
      (let own = weigh (scheme_of functions old.run.course.machine.header) old.run log in omega (arith, own, few.0, counted.0)),
  takes-few weigh functions bytes all round olds news takes.1 few.1 counted.1,
)

-- as many logs as runs
pub round-length : (functions : DigestFunctions) (round : List (List ℕ)) (olds news : List FedRun) → AllRead functions round olds news → length round ≡ length olds
round-length functions [] [] [] takes = refl
round-length functions [] [] (new ∷ news) takes = absurd takes
round-length functions [] (old ∷ olds) news takes = absurd takes
round-length functions (log ∷ round) [] news takes = absurd takes
round-length functions (log ∷ round) (old ∷ olds) [] takes = absurd takes
round-length functions (log ∷ round) (old ∷ olds) (new ∷ news) takes = ap suc (round-length functions round olds news takes.1)
