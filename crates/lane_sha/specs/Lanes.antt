-- Eight lists side by side: each word is a vector, with one lane for each list.
use Rattle.std.specs.Prelude.{ℕ, List, [], ◌∷◌, slice_index, slice_index_or}

-- how many there are side by side
abbrev pub lane_count : ℕ
lane_count = 8

-- lane j of vector k
abbrev pub lane_at : List (List ℕ) → ℕ → ℕ → ℕ
lane_at x k j = slice_index (slice_index_or x k []) j

-- the eight words in lane j, as of a hash value
abbrev pub lane : ℕ → List (List ℕ) → List ℕ
lane j x =
    lane_at x 0 j ∷ lane_at x 1 j ∷ lane_at x 2 j ∷ lane_at x 3 j
    ∷ lane_at x 4 j ∷ lane_at x 5 j ∷ lane_at x 6 j ∷ lane_at x 7 j ∷ []

-- block j
abbrev pub block : ℕ → List (List ℕ) → List ℕ
block j blocks = slice_index_or blocks j []
