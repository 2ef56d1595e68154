-- A multiset hash that adds the keyed hashes of the elements, without a modulus (Clarke et al. 2003).
use Rattle.std.specs.Prelude.{ℕ, ◌+◌, ◌-◌, ◌*◌, ◌^◌, nat_lt, nat_le, Bool, ◌&&◌, List, [], ◌∷◌, length, slice_index, sum_by}
use Rattle.std.specs.List.{list_all}
use Rattle.multiset_sum.specs.Tally.{Tally}

-- one number for each of the eight lanes
abbrev pub eight : (ℕ → ℕ) → List ℕ
eight at = at 0 ∷ at 1 ∷ at 2 ∷ at 3 ∷ at 4 ∷ at 5 ∷ at 6 ∷ at 7 ∷ []

-- no elements
abbrev pub zero_sum : Tally
zero_sum = record { lanes = eight (λ _. 0); count = 0 }

-- these sums of the lanes, of so many elements
abbrev pub sum_with : List ℕ → ℕ → Tally
sum_with lanes count = record { lanes = lanes; count = count }

-- so many elements may have these sums: there are fewer than 2^31, and no sum is more than so many numbers of 32 bits can give
abbrev pub is_tally : List ℕ → ℕ → Bool
is_tally lanes count = nat_lt count (2 ^ 31) && list_all (λ lane. nat_le lane (count * (2 ^ 32 - 1))) lanes

-- one element more, whose hash has these lanes
abbrev pub with_lanes : Tally → List ℕ → Tally
with_lanes s lanes = record { lanes = eight (λ lane. slice_index s.lanes lane + slice_index lanes lane); count = s.count + 1 }

-- the elements of both
abbrev pub joined : Tally → Tally → Tally
joined s t = record { lanes = eight (λ lane. slice_index s.lanes lane + slice_index t.lanes lane); count = s.count + t.count }

-- the sum of a list of elements, each as the lanes of its hash: of each lane the exact sum over the list, and the list's length
abbrev pub sum_of : List (List ℕ) → Tally
sum_of elements = record { lanes = eight (λ lane. sum_by (λ hash. slice_index hash lane) elements); count = length elements }
