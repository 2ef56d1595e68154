-- The parts of an epoch: which verifiers have handed one in, and what they come to together.
use Rattle.std.specs.Prelude.{ℕ, ◌==◌, ◌&&◌, Bool, not, List, Option, filter, find, fold}
use Rattle.std.specs.List.{list_any, range_with_len}
use Rattle.multiset_sum.specs.declared.part.Part.{Part}
use Rattle.multiset_sum.specs.Tally.{Tally}
use Rattle.multiset_sum.specs.Sum.{zero_sum, joined}

-- both are of one verifier and one epoch
abbrev pub is_same_part : Part → Part → Bool
is_same_part part other = part.verifier == other.verifier && part.epoch == other.epoch

-- the parts of an epoch
abbrev pub of_epoch : ℕ → List Part → List Part
of_epoch epoch parts = filter (λ part. part.epoch == epoch) parts

-- whether the part of a verifier and epoch is there
abbrev pub has_part : List Part → ℕ → ℕ → Bool
has_part parts epoch verifier = list_any (λ part. part.epoch == epoch && part.verifier == verifier) parts

-- the lowest of so many verifiers whose part of the epoch isn't there, if there is one
abbrev pub lowest_missing : ℕ → ℕ → List Part → Option ℕ
lowest_missing verifiers epoch parts = find (λ verifier. not (has_part parts epoch verifier)) (range_with_len 0 verifiers)

-- one sum of each part, joined over all parts
abbrev pub total : (Part → Tally) → List Part → Tally
total side parts = fold (λ sum part. joined sum (side part)) zero_sum parts
