-- What the parts of an epoch say of it (Blum et al. 1994: what was added is what was evicted).
use Rattle.std.specs.Prelude.{ℕ, ◌==◌, ◌&&◌, Bool, List, Option, Some, None, if◌then◌else◌}
use Rattle.std.specs.Str.{bytes_eq}
use Rattle.multiset_sum.specs.declared.part.Part.{Part}
use Rattle.multiset_sum.specs.Tally.{Tally}
use Rattle.epoch_gather.specs.declared.outcome.Verdict.{Verdict}
use Rattle.epoch_gather.specs.declared.outcome.Verdict.TheVariants.{Balanced, Unbalanced, Missing}
use Rattle.epoch_gather.specs.Parts.{of_epoch, lowest_missing, total}

-- two sums are equal, in each lane and in the count
abbrev pub same_tally : Tally → Tally → Bool
same_tally a b = bytes_eq a.lanes b.lanes && a.count == b.count

-- the verdict, by the lowest verifier that is missing and the two sums
abbrev pub verdict_by : Option ℕ → Tally → Tally → Verdict
verdict_by (Some verifier) added evicted = Missing verifier
verdict_by None added evicted = if same_tally added evicted then Balanced else Unbalanced added evicted

-- the verdict on an epoch of so many verifiers: who is missing, or else whether the joined sums of its parts are equal
abbrev pub verdict_of : ℕ → ℕ → List Part → Verdict
verdict_of verifiers epoch parts =
    verdict_by (lowest_missing verifiers epoch parts) (total (λ part. part.added) (of_epoch epoch parts)) (total (λ part. part.evicted) (of_epoch epoch parts))
