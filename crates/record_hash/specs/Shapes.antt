-- Why the answers of both implementations have their shape: what proves the laws of `Digests`.
use Rattle.std.specs.Prelude.{ℕ, zero, suc, ◌+◌, ◌*◌, ◌<◌, ◌≤◌, ◌^◌, List, [], ◌∷◌, ◌++◌, slice_index, replicate, refl}
use Rattle.std.specs.Int.{byte_at, bytes_high_first}
use Rattle.std.specs.List.{AllByRecursion}
use Rattle.std.proofs.Common.{add-le-add, le_of_suc-le-suc, lit<, lt_of_le_of_lt, mod-lt, mul-le-mul_right}
use Rattle.sha2.specs.Sha256.{digest_bytes, sha256}
use Rattle.sha2.proofs.Facts256.{length-sha256}
use Rattle.record_hash.specs.Digests.{IsDigest, AreLanes}
use Rattle.record_hash.specs.ShaDigests.{words_of, word_at}
use Rattle.record_hash.specs.ToyDigests.{toy_sum, toy_digest, toy_lanes}

-- each number of the list is below the limit, and so is the 0 that stands past its end
abbrev EachBelow : ℕ → List ℕ → Type 0
EachBelow limit xs = (i : ℕ) → slice_index xs i < limit

-- what holds of each number of the list holds at each place
EachBelow-from_all : (limit : ℕ) (xs : List ℕ) → 0 < limit → AllByRecursion (λ x. x < limit) xs → EachBelow limit xs
EachBelow-from_all limit [] positive all i = positive
EachBelow-from_all limit (x ∷ xs) positive all zero = all.0
EachBelow-from_all limit (x ∷ xs) positive all (suc i) = EachBelow-from_all limit xs positive all.1 i

-- two lists, one behind the other
EachBelow-append : (limit : ℕ) (xs ys : List ℕ) → EachBelow limit xs → EachBelow limit ys → EachBelow limit (xs ++ ys)
EachBelow-append limit [] ys front back i = back i
EachBelow-append limit (x ∷ xs) ys front back zero = front 0
EachBelow-append limit (x ∷ xs) ys front back (suc i) = EachBelow-append limit xs ys (λ k. front (suc k)) back i

-- byte k of a number is a byte
byte_at-lt : (k n : ℕ) → byte_at k n < 256
byte_at-lt zero n = mod-lt n (lit< tt)
byte_at-lt (suc k) n = mod-lt _ (lit< tt)

-- the bytes of a number are bytes
EachBelow-bytes_high_first : (k n : ℕ) → EachBelow 256 (bytes_high_first k n)
EachBelow-bytes_high_first zero n i = lit< tt
EachBelow-bytes_high_first (suc k) n zero = byte_at-lt k n
EachBelow-bytes_high_first (suc k) n (suc i) = EachBelow-bytes_high_first k n i

-- the bytes of a hash value are bytes
EachBelow-digest_bytes : (h : List ℕ) (n : ℕ) → EachBelow 256 (digest_bytes h n)
unfolding digest_bytes
EachBelow-digest_bytes h zero i = lit< tt
EachBelow-digest_bytes h (suc n) i =
    EachBelow-append 256 (digest_bytes h n) (bytes_high_first 4 (slice_index h n))
    (EachBelow-digest_bytes h n) (EachBelow-bytes_high_first 4 (slice_index h n)) i

-- a digest of SHA-256 is 32 bytes
pub IsDigest-sha256 : (bytes : List ℕ) → IsDigest (sha256 bytes)
unfolding sha256
IsDigest-sha256 bytes = record { size = length-sha256 bytes; bytes = EachBelow-digest_bytes _ 8 }

-- what four bytes are worth is below 2 ^ 32
four_bytes-lt : (a b c d : ℕ) → a < 256 → b < 256 → c < 256 → d < 256
    → a * 256 ^ 3 + b * 256 ^ 2 + c * 256 ^ 1 + d < 2 ^ 32
four_bytes-lt a b c d a_fits b_fits c_fits d_fits =
    let first : a * 256 ^ 3 ≤ 255 * 256 ^ 3 = mul-le-mul_right (256 ^ 3) (le_of_suc-le-suc a_fits) in
    let second : b * 256 ^ 2 ≤ 255 * 256 ^ 2 = mul-le-mul_right (256 ^ 2) (le_of_suc-le-suc b_fits) in
    let third : c * 256 ^ 1 ≤ 255 * 256 ^ 1 = mul-le-mul_right (256 ^ 1) (le_of_suc-le-suc c_fits) in
    let fourth : d ≤ 255 = le_of_suc-le-suc d_fits in
    lt_of_le_of_lt (add-le-add (add-le-add (add-le-add first second) third) fourth) (lit< tt)

-- a word of four bytes is below 2 ^ 32
word_at-lt : (bytes : List ℕ) (i : ℕ) → EachBelow 256 bytes → word_at bytes i < 2 ^ 32
word_at-lt bytes i below = four_bytes-lt _ _ _ _ (below i) (below (i + 1)) (below (i + 2)) (below (i + 3))

-- the words of a digest are eight lanes
pub AreLanes-words_of : (cells : List ℕ) → IsDigest cells → AreLanes (words_of cells)
AreLanes-words_of cells digest =
    let word : (i : ℕ) → word_at cells i < 2 ^ 32 = λ i. word_at-lt cells i digest.bytes in
    record {
      size = refl;
      words = EachBelow-from_all (2 ^ 32) (words_of cells) (lit< tt)
          (word 0, (word 4, (word 8, (word 12, (word 16, (word 20, (word 24, (word 28, tt))))))));
    }

-- a list of zeros
EachBelow-zeros : (limit n : ℕ) → 0 < limit → EachBelow limit (replicate n 0)
EachBelow-zeros limit zero positive i = positive
EachBelow-zeros limit (suc n) positive zero = positive
EachBelow-zeros limit (suc n) positive (suc i) = EachBelow-zeros limit n positive i

-- the toy's digest is 32 bytes
pub IsDigest-toy_digest : (bytes : List ℕ) → IsDigest (toy_digest bytes)
IsDigest-toy_digest bytes = record {
  size = refl;
  bytes = EachBelow-append 256 (replicate 28 0) (bytes_high_first 4 (toy_sum bytes))
      (EachBelow-zeros 256 28 (lit< tt)) (EachBelow-bytes_high_first 4 (toy_sum bytes));
}

-- the toy's lanes are eight lanes
pub AreLanes-toy_lanes : (bytes : List ℕ) → AreLanes (toy_lanes bytes)
AreLanes-toy_lanes bytes = record {
  size = refl;
  words = EachBelow-from_all (2 ^ 32) (toy_lanes bytes) (lit< tt)
      (mod-lt _ (lit< tt), (lit< tt, (lit< tt, (lit< tt, (lit< tt, (lit< tt, (lit< tt, (lit< tt, tt))))))));
}
