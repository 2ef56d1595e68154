-- The blocks of a padded text, one kind after the other.
use Rattle.std.proofs.Common.{◌≡◌, ℕ, zero, suc, ◌<◌, ◌≤◌, ◌+◌, ◌-◌, ◌*◌, ◌%◌, ◌^◌, List, [], ◌∷◌, ◌++◌, length, take, drop, replicate, slice_set, arith, refl, ap, sym, ◌∙◌, length-append, length-drop}
use Rattle.std.proofs.lemmas.List.{append_assoc, drop-append-le, take-append-le, take-replicate, drop-replicate, length-replicate, take_all, drop_all, append-nil, set_at}
use borrow.Rule.Slice.PartMut.{put_mid, post_of}
use Rattle.std.specs.Int.{w64, to_be_bytes}
use Rattle.sha2.specs.Sha256.{padding}
use Rattle.lane_sha.specs.Padding.{block_count, padded_block}

-- of two lists, one behind the other, what is taken or dropped past the first
take-past : (n k : ℕ) (xs ys : List ℕ) → n ≡ length xs + k → take n (xs ++ ys) ≡ xs ++ take k ys
take-past n k [] ys is =
    let same : n ≡ k = omega arith in
    ap (λ i. take i ys) same
take-past zero k (x ∷ xs) ys is = absurd (omega arith)
take-past (suc n) k (x ∷ xs) ys is = ap (λ zs. x ∷ zs) (take-past n k xs ys (omega arith))

pub drop-past : (n k : ℕ) (xs ys : List ℕ) → n ≡ length xs + k → drop n (xs ++ ys) ≡ drop k ys
drop-past n k [] ys is =
    let same : n ≡ k = omega arith in
    ap (λ i. drop i ys) same
drop-past zero k (x ∷ xs) ys is = absurd (omega arith)
drop-past (suc n) k (x ∷ xs) ys is = drop-past n k xs ys (omega arith)

-- the byte that ends a text, put over the zeros behind it
pub end_put : (rest : List ℕ) → length rest < 64
    → slice_set (rest ++ drop (length rest) (replicate 64 0)) (length rest) 0x80 ≡ rest ++ 0x80 ∷ replicate (63 - length rest) 0
end_put rest short =
    let more : 64 - length rest ≡ suc (63 - length rest) = omega arith in
    rw (drop-replicate {X = ℕ} (length rest) 64 0, more) (set_at rest 0 (replicate (63 - length rest) 0) 0x80 (length rest) refl)

-- the count, put over the last bytes of a block
pub count_put : (block count bytes : List ℕ) → length block ≡ 64 → count ≡ bytes → put_mid 56 8 block count ≡ take 56 block ++ bytes
count_put block count bytes long is =
    let rest : post_of 56 8 block ≡ [] = drop_all 8 (drop 56 block) (omega (arith, length-drop 56 block)) in
    rw (rest, append-nil, is) refl

-- a block that is all text
pub whole_block : (taken : ℕ) (text : List ℕ) (number : ℕ) → number * 64 + 64 ≤ length text
    → take 64 (drop (number * 64) text) ≡ padded_block taken text number
whole_block taken text number inside =
    let from : ℕ = number * 64 in
    let padding_of : List ℕ = padding (taken + length text) in
    sym (ap (take 64) (drop-append-le from text padding_of (omega arith))
    ∙ take-append-le 64 (drop from text) padding_of (omega (arith, length-drop from text)))

-- a block in which the text ends, with no room for the count
pub open_block : (taken : ℕ) (text rest : List ℕ) (number : ℕ) → taken % 64 ≡ 0 → rest ≡ drop (number * 64) text
    → number * 64 ≤ length text → 56 ≤ length rest → length rest < 64
    → rest ++ 0x80 ∷ replicate (63 - length rest) 0 ≡ padded_block taken text number
open_block taken text rest number whole is inside long short =
    let k : ℕ = length rest in
    let n : ℕ = taken + length text in
    let counted : k ≡ length text - number * 64 = ap length is ∙ length-drop (number * 64) text in
    let at : n % 64 ≡ k = omega arith in
    let zeros : (119 - k) % 64 ≡ 119 - k = omega arith in
    let bits : List ℕ = to_be_bytes w64 (n * 8 % 2 ^ 64) in
    let left : 64 - k ≡ suc (63 - k) = omega arith in
    let tail : take (64 - k) (padding n) ≡ 0x80 ∷ replicate (63 - k) 0 =
    rw (left, at, zeros) (ap (λ zs. 0x80 ∷ zs)
    (take-append-le (63 - k) (replicate (119 - k) 0) bits (omega (arith, length-replicate {A = ℕ} (119 - k) 0))
    ∙ take-replicate {X = ℕ} (63 - k) (119 - k) 0 (omega arith))) in
    sym (ap (take 64) (drop-append-le (number * 64) text (padding n) inside ∙ ap (λ xs. xs ++ padding n) (sym is))
    ∙ take-past 64 (64 - k) rest (padding n) (omega arith) ∙ ap (λ xs. rest ++ xs) tail)

-- a block in which the text ends, with the count
pub last_block : (taken count : ℕ) (text rest : List ℕ) (number : ℕ) → taken % 64 ≡ 0 → count ≡ (taken + length text) * 8 % 2 ^ 64
    → rest ≡ drop (number * 64) text → number * 64 ≤ length text → length rest < 56
    → take 56 (rest ++ 0x80 ∷ replicate (63 - length rest) 0) ++ to_be_bytes w64 count ≡ padded_block taken text number
last_block taken count text rest number whole count_is is inside short =
    let k : ℕ = length rest in
    let n : ℕ = taken + length text in
    let counted : k ≡ length text - number * 64 = ap length is ∙ length-drop (number * 64) text in
    let at : n % 64 ≡ k = omega arith in
    let zeros : (119 - k) % 64 ≡ 55 - k = omega arith in
    let bits : List ℕ = to_be_bytes w64 (n * 8 % 2 ^ 64) in
    let left : 56 - k ≡ suc (55 - k) = omega arith in
    let front : take 56 (rest ++ 0x80 ∷ replicate (63 - k) 0) ≡ rest ++ 0x80 ∷ replicate (55 - k) 0 =
    take-past 56 (56 - k) rest (0x80 ∷ replicate (63 - k) 0) (omega arith)
    ∙ ap (λ xs. rest ++ xs) (rw left (ap (λ zs. 0x80 ∷ zs) (take-replicate {X = ℕ} (55 - k) (63 - k) 0 (omega arith)))) in
    let all : take (64 - k) (padding n) ≡ padding n =
    take_all (64 - k) (padding n) (rw (at, zeros) (omega (arith, length-append (replicate (55 - k) 0) bits, length-replicate {A = ℕ} (55 - k) 0))) in
    let block : padded_block taken text number ≡ rest ++ padding n =
    ap (take 64) (drop-append-le (number * 64) text (padding n) inside ∙ ap (λ xs. xs ++ padding n) (sym is))
    ∙ take-past 64 (64 - k) rest (padding n) (omega arith) ∙ ap (λ xs. rest ++ xs) all in
    rw count_is (ap (λ xs. xs ++ bits) front) ∙ append_assoc rest (0x80 ∷ replicate (55 - k) 0) bits
    ∙ sym (block ∙ ap (λ xs. rest ++ xs) (rw (at, zeros) refl))

-- what is left of zeros and of what stands behind them
drop-zeros : (m z left : ℕ) (bits : List ℕ) → z ≡ m + left → drop m (replicate z 0 ++ bits) ≡ replicate left 0 ++ bits
drop-zeros m z left bits is =
    let inside : m ≤ length (replicate {A = ℕ} z 0) = omega (arith, length-replicate {A = ℕ} z 0) in
    let same : z - m ≡ left = omega arith in
    let rest : drop m (replicate z 0) ≡ replicate left 0 = rw same at (drop-replicate {X = ℕ} m z 0) in
    drop-append-le m (replicate z 0) bits inside ∙ ap (λ xs. xs ++ bits) rest

-- the block behind one in which the text ended with no room for the count
pub count_block : (taken count : ℕ) (text : List ℕ) (number : ℕ) → taken % 64 ≡ 0 → count ≡ (taken + length text) * 8 % 2 ^ 64
    → length text < number * 64 → number < block_count text
    → take 56 (replicate 64 0) ++ to_be_bytes w64 count ≡ padded_block taken text number
count_block taken count text number whole count_is past inside =
    let k : ℕ = length text % 64 in
    let n : ℕ = taken + length text in
    let at : n % 64 ≡ k = omega arith in
    let zeros : (119 - k) % 64 ≡ 119 - k = omega arith in
    let bits : List ℕ = to_be_bytes w64 (n * 8 % 2 ^ 64) in
    let gone : number * 64 ≡ length text + suc (63 - k) = omega arith in
    let tail : drop (suc (63 - k)) (padding n) ≡ replicate 56 0 ++ bits =
    rw (at, zeros) (drop-zeros (63 - k) (119 - k) 56 bits (omega arith)) in
    rw count_is (sym (ap (take 64) (drop-past (number * 64) (suc (63 - k)) text (padding n) gone ∙ tail)))
