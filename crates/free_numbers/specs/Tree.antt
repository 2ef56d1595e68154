-- How a tree of least numbers lies in a list: its root at 1, the children of node i at 2i and 2i + 1, and the leaf of each
-- number behind all inner nodes.
use Rattle.std.specs.Prelude.{◌≡◌, ◌⊎◌, ℕ, suc, ◌+◌, ◌*◌, ◌<◌, ◌≤◌, ◌==◌, min, Bool, List, [], ◌∷◌, length, slice_index}

-- an inner node has the lesser of what its children have
abbrev pub IsLesser : List ℕ → ℕ → Type 0
IsLesser least i = slice_index least i ≡ min (slice_index least (2 * i)) (slice_index least (2 * i + 1))

-- what a leaf may have: its number where that is free, and the bound where it is taken
abbrev pub IsLeaf : ℕ → ℕ → ℕ → Type 0
IsLeaf bound number value = (value ≡ number) ⊎ (value ≡ bound)

-- the list has such a tree of the numbers below a bound
pub record IsTree (bound : ℕ) (least : List ℕ) : Type 0 where
  pub len : length least ≡ 2 * bound
  pub inner : (i : ℕ) → 1 ≤ i → i < bound → IsLesser least i
  pub leaf : (number : ℕ) → number < bound → IsLeaf bound number (slice_index least (bound + number))

-- which numbers are free, from one on, by their leaves
abbrev pub free_from : ℕ → List ℕ → List Bool
free_from number [] = []
free_from number (leaf ∷ leaves) = (leaf == number) ∷ free_from (suc number) leaves
