-- What the answers of every `Digests` look like.
use Rattle.std.specs.Prelude.{◌≡◌, ℕ, ◌<◌, ◌^◌, List, length, slice_index}

-- 32 bytes, as a digest and a tag have
pub record IsDigest (cells : List ℕ) : Type 0 where
  pub size : length cells ≡ 32
  pub bytes : (i : ℕ) → slice_index cells i < 256

-- eight words of 32 bits, as the lanes of an element are
pub record AreLanes (cells : List ℕ) : Type 0 where
  pub size : length cells ≡ 8
  pub words : (i : ℕ) → slice_index cells i < 2 ^ 32
