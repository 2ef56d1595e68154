-- What a run makes of the log of a round.
use Rattle.std.specs.Prelude.{◌≡◌, ℕ, false, List, [], ◌∷◌}
use Rattle.record_hash.specs.Functions.{DigestFunctions}
use Rattle.merkle_records.specs.Scheme.{scheme_of}
use Rattle.verifier_run.specs.Kept.{keeps_operations}
use Rattle.verifier_run.specs.Progress.{fed}
use Rattle.certified_epochs.specs.declared.fed_run.FedRun.{FedRun}

-- memory was not wanting, and the run took these bytes
pub record Reads (functions : DigestFunctions) (bytes : List ℕ) (old new : FedRun) : Type 0 where
  pub is_fed : new.is_starved ≡ false
  pub taken : new.run ≡ fed keeps_operations (scheme_of functions old.run.course.machine.header) old.run bytes

-- each run took the bytes of its verifier
abbrev pub AllRead : DigestFunctions → List (List ℕ) → List FedRun → List FedRun → Type 0
AllRead functions [] [] [] = Unit {0}
AllRead functions (bytes ∷ round) (old ∷ olds) (new ∷ news) = Reads functions bytes old new × AllRead functions round olds news
AllRead functions [] [] (new ∷ news) = ⊥
AllRead functions [] (old ∷ olds) news = ⊥
AllRead functions (bytes ∷ round) [] news = ⊥
AllRead functions (bytes ∷ round) (old ∷ olds) [] = ⊥
