-- Parts of rising verifiers are distinct.
use Rattle.std.proofs.Common.{◌≡◌, suc, ◌<◌, ◌==◌, ◌&&◌, false, ne_eqb, List, [], ◌∷◌, ◌++◌, All, ap, arith}
use Rattle.std.specs.List.{AllByRecursion, IsDistinct}
use Rattle.multiset_sum.specs.declared.part.Part.{Part}
use Rattle.epoch_gather.specs.Parts.{is_same_part}

pub none_distinct : IsDistinct is_same_part []
unfolding IsDistinct
none_distinct = tt

apart : (part other : Part) → part.verifier < other.verifier → is_same_part part other ≡ false
apart part other below = ap (λ b. b && part.epoch == other.epoch) (ne_eqb part.verifier other.verifier (λ same. omega arith))

apart_push : (part : Part) (parts : List Part) (last : Part) → AllByRecursion (λ other. is_same_part part other ≡ false) parts → is_same_part part last ≡ false → AllByRecursion (λ other. is_same_part part other ≡ false) (parts ++ last ∷ [])
apart_push part [] last all own = (own, tt)
apart_push part (other ∷ parts) last all own = (all.0, apart_push part parts last all.1 own)

-- one more, of a verifier above all others
pub distinct_push : (parts : List Part) (last : Part) → All (λ part. part.verifier < last.verifier) parts → IsDistinct is_same_part parts → IsDistinct is_same_part (parts ++ last ∷ [])
unfolding IsDistinct
distinct_push [] last below once = (tt, tt)
distinct_push (part ∷ parts) last below once =
    (apart_push part parts last once.0 (apart part last (below 0 part (omega arith))), distinct_push parts last (λ k d within. below (suc k) d (omega arith)) once.1)
