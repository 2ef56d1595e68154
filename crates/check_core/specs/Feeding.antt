-- What runs make of frames.
use Rattle.std.specs.Prelude.{◌≡◌, ℕ, suc, ◌+◌, ◌≤◌, false, List, [], ◌∷◌, ⊤}
use Rattle.record_hash.specs.Functions.{DigestFunctions}
use Rattle.merkle_records.specs.Scheme.{scheme_of}
use Rattle.bundle_frames.specs.Bundle.{Frame}
use Rattle.verifier_run.specs.Progress.{weight}
use Rattle.bundle_report.specs.SoFar.{having_read}
use Rattle.certified_epochs.specs.declared.fed_run.FedRun.{FedRun}
use Rattle.check_core.specs.Batch.{bytes_of}

-- Where memory was not wanting, the run of this verifier took the frames. Its header stays, and it has no more bytes than
-- these add.
pub record Reads (functions : DigestFunctions) (number : ℕ) (frames : List Frame) (old new : FedRun) : Type 0 where
  pub fed : new.is_starved ≡ false → old.is_starved ≡ false
  pub taken : new.is_starved ≡ false → new.run ≡ having_read (scheme_of functions old.run.course.machine.header) number old.run frames
  pub header : new.run.course.machine.header ≡ old.run.course.machine.header
  pub weight : weight new.run ≤ weight old.run + bytes_of frames

-- each run took the frames of its verifier, the first of which has this number
abbrev pub AllRead : DigestFunctions → ℕ → List Frame → List FedRun → List FedRun → Type 0
AllRead functions number frames [] [] = ⊤
AllRead functions number frames [] (new ∷ news) = ⊥
AllRead functions number frames (old ∷ olds) [] = ⊥
AllRead functions number frames (old ∷ olds) (new ∷ news) = Reads functions number frames old new × AllRead functions (suc number) frames olds news
