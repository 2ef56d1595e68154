-- Eight texts side by side, and what each message begins with.
use Rattle.std.specs.Prelude.{◌≡◌, ℕ, ◌<◌, ◌/◌, ◌%◌, ◌^◌, List, [], length, slice_index_or}
use Rattle.std.specs.Borrow.{Bor}
use Rattle.sha2.specs.Sha256.{hash_after, initial_hash_256}
use Rattle.lane_sha.specs.Lanes.{lane_count}
use Rattle.lane_sha.specs.Padding.{block_count}
use Rattle.lane_sha.specs.declared.start.Start.{Start}

-- what stands past the last text
abbrev pub no_text : Bor (List ℕ)
no_text = record { ref_ptr = (0, 0); now = [] }

-- text j
abbrev pub text : ℕ → List (Bor (List ℕ)) → List ℕ
text j texts = (slice_index_or texts j no_text).now

-- the texts with their padding have one number of blocks
abbrev pub HaveOneCount : List (Bor (List ℕ)) → Type 0
HaveOneCount texts = (j : ℕ) → j < lane_count → block_count (text j texts) ≡ block_count (text 0 texts)

-- the start stands behind these bytes, which are whole blocks: it has their hash value (FIPS 180-4, 6.2.2)
pub record StandsBehind (start : Start) (front : List ℕ) : Type 0 where
  pub whole : length front % 64 ≡ 0
  pub taken : start.taken ≡ length front % 2 ^ 64
  pub hash : start.hash ≡ hash_after initial_hash_256 front (length front / 64)
