-- The words of a block, sixteen at a time, beside those of other blocks.
use Rattle.std.specs.Prelude.{◌≡◌, ℕ, ◌+◌, ◌*◌, ◌<◌, List, slice_index}
use Rattle.sha2.specs.Sha256.{schedule}
use Rattle.lane_sha.specs.Lanes.{lane_at}

-- lane j of the sixteen vectors w has the words 16 * turn, …, 16 * turn + 15 of block b (FIPS 180-4, 6.2.2, step 1)
abbrev pub HasWords : ℕ → List (List ℕ) → List ℕ → ℕ → Type 0
HasWords j w b turn = (i : ℕ) → i < 16 → lane_at w i j ≡ slice_index (schedule b 48) (16 * turn + i)
