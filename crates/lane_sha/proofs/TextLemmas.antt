-- Why the blocks behind a start make the digest of the whole message.
use Rattle.std.proofs.Common.{◌≡◌, ℕ, zero, suc, ◌<◌, ◌+◌, ◌-◌, ◌*◌, ◌/◌, ◌%◌, ◌^◌, List, [], ◌∷◌, ◌++◌, length, take, drop, replicate, arith, refl, ap, ap₂, sym, ◌∙◌, length-append, add-zero}
use Rattle.std.proofs.lemmas.List.{append_assoc, length-replicate, take_all}
use Rattle.std.specs.Int.{w64, to_be_bytes}
use Rattle.sha2.specs.Sha256.{compress, digest_bytes, hash_after, initial_hash_256, padded_message, padding, sha256}
use Rattle.sha2.proofs.Absorbing256.{hash_after-append, hash_after_next}
use Rattle.lane_sha.specs.Lanes.{block}
use Rattle.lane_sha.specs.Padding.{block_count, padded_behind}
use Rattle.lane_sha.specs.Texts.{StandsBehind}
use Rattle.lane_sha.specs.declared.start.Start.{Start}
use Rattle.lane_sha.proofs.WordLemmas.{below_eight}
use Rattle.lane_sha.proofs.PaddingLemmas.{drop-past}

-- eight lists, of which each is known
pub each_block : (f : ℕ → List ℕ) (b0 b1 b2 b3 b4 b5 b6 b7 : List ℕ) → b0 ≡ f 0 → b1 ≡ f 1 → b2 ≡ f 2 → b3 ≡ f 3
    → b4 ≡ f 4 → b5 ≡ f 5 → b6 ≡ f 6 → b7 ≡ f 7 → (j : ℕ) → j < 8
    → block j (b0 ∷ b1 ∷ b2 ∷ b3 ∷ b4 ∷ b5 ∷ b6 ∷ b7 ∷ []) ≡ f j
each_block f b0 b1 b2 b3 b4 b5 b6 b7 e0 e1 e2 e3 e4 e5 e6 e7 =
    below_eight (λ j. block j (b0 ∷ b1 ∷ b2 ∷ b3 ∷ b4 ∷ b5 ∷ b6 ∷ b7 ∷ []) ≡ f j) e0 e1 e2 e3 e4 e5 e6 e7

-- n blocks behind whole blocks
blocks_behind : (ini front x : List ℕ) (n : ℕ) → length front % 64 ≡ 0
    → hash_after ini (front ++ x) (length front / 64 + n) ≡ hash_after (hash_after ini front (length front / 64)) x n
unfolding hash_after
blocks_behind ini front x zero whole =
    rw add-zero (hash_after-append ini front x (length front / 64) (omega arith))
blocks_behind ini front x (suc n) whole =
    let q : ℕ = length front / 64 in
    let count : q + suc n ≡ q + n + 1 = omega arith in
    let from : drop ((q + n) * 64) (front ++ x) ≡ drop (n * 64) x = drop-past ((q + n) * 64) (n * 64) front x (omega arith) in
    rw count (hash_after_next ini (front ++ x) (q + n)
    ∙ ap₂ compress (blocks_behind ini front x n whole) (ap (take 64) from))

-- a start with one block more behind it
pub one_more : (start next : Start) (front block : List ℕ) → StandsBehind start front → length block ≡ 64
    → next.hash ≡ compress start.hash block → next.taken ≡ (start.taken + 64) % 2 ^ 64 → StandsBehind next (front ++ block)
one_more start next front block behind long hash taken =
    let q : ℕ = length front / 64 in
    let whole = behind.whole in
    let before = behind.taken in
    let len : length (front ++ block) ≡ length front + length block = length-append front block in
    let count : length (front ++ block) / 64 ≡ q + 1 = omega arith in
    let from : drop (q * 64) (front ++ block) ≡ block = drop-past (q * 64) 0 front block (omega arith) in
    let block_is : take 64 (drop (q * 64) (front ++ block)) ≡ block = ap (take 64) from ∙ take_all 64 block (omega arith) in
    let front_is : hash_after initial_hash_256 (front ++ block) q ≡ start.hash =
    hash_after-append initial_hash_256 front block q (omega arith) ∙ sym behind.hash in
    record {
      whole = omega arith;
      taken = omega arith;
      hash = hash ∙ sym (rw count (hash_after_next initial_hash_256 (front ++ block) q ∙ ap₂ compress front_is block_is));
    }

-- the padding depends on the number of bytes modulo 2 ^ 64 alone
padding_same : (n m : ℕ) → n % 2 ^ 64 ≡ m % 2 ^ 64 → padding n ≡ padding m
padding_same n m same =
    let place : n % 64 ≡ m % 64 = omega arith in
    let bits : n * 8 % 2 ^ 64 ≡ m * 8 % 2 ^ 64 = omega arith in
    rw (place, bits) refl

-- how long the padding is
length-padding : (n : ℕ) → length (padding n) ≡ 9 + (119 - n % 64) % 64
length-padding n =
    let z : ℕ = (119 - n % 64) % 64 in
    omega (arith, length-append (replicate z 0) (to_be_bytes w64 (n * 8 % 2 ^ 64)), length-replicate {A = ℕ} z 0)

-- the digest of what the start stands behind and of the text
pub digest_behind : (start : Start) (front text h : List ℕ) → StandsBehind start front
    → h ≡ hash_after start.hash (padded_behind start.taken text) (block_count text)
    → digest_bytes h 8 ≡ sha256 (front ++ text)
unfolding sha256
digest_behind start front text h behind is =
    let q : ℕ = length front / 64 in
    let whole = behind.whole in
    let before = behind.taken in
    let len : length (front ++ text) ≡ length front + length text = length-append front text in
    let same : padding (length (front ++ text)) ≡ padding (start.taken + length text) =
    padding_same (length (front ++ text)) (start.taken + length text) (omega arith) in
    let all : List ℕ = padded_behind start.taken text in
    let message : padded_message (front ++ text) ≡ front ++ all =
    rw same (append_assoc front text (padding (start.taken + length text))) in
    let all_long : length all ≡ length text + length (padding (start.taken + length text)) =
    length-append text (padding (start.taken + length text)) in
    let padding_long = length-padding (start.taken + length text) in
    let long : length (front ++ all) ≡ length front + length all = length-append front all in
    let count : length (front ++ all) / 64 ≡ q + block_count text = omega arith in
    let hash : hash_after initial_hash_256 (front ++ all) (q + block_count text) ≡ h =
    blocks_behind initial_hash_256 front all (block_count text) whole
    ∙ ap (λ start. hash_after start all (block_count text)) (sym behind.hash) ∙ sym is in
    sym (rw (message, count, hash) refl)
