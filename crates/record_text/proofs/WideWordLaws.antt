-- Words of 16 bytes, as two halves of 8, and the word that holds a path of each tree.
use Rattle.std.proofs.Common.{◌≡◌, ℕ, ◌+◌, ◌*◌, ◌/◌, ◌%◌, ◌^◌, ◌<◌, Bool, true, false, List, [], ◌∷◌, ◌++◌, take, drop, refl, sym, ap, ◌∙◌, arith}
use Rattle.std.specs.Int.{w64, w128, from_be_bytes, to_be_bytes}
use Rattle.std.proofs.lemmas.List.{take-append-drop, length-take-le, length-drop, get_or-drop, get_or-take}
use Rattle.std.proofs.lemmas.Nat.{div-add-mod', div-mul-add, mod-mul-add}
use native.Mathlib.Nat as nat
use Rattle.tree_keys.specs.Path.{key_bits}
use Rattle.record_text.specs.Tree.{word_width}
use Rattle.record_text.proofs.FieldLaws.{AreBytes-take, AreBytes-drop, IsWide, wide64}

-- ---- numbers in halves

-- the bytes of a number are those of its high half and then those of its low half
halves-to : (n : ℕ) → to_be_bytes w128 n ≡ to_be_bytes w64 (n / 2 ^ 64) ++ to_be_bytes w64 (n % 2 ^ 64)
halves-to n =
    let high : (p : ℕ) → n / (2 ^ 64 * p) % 256 ≡ n / 2 ^ 64 / p % 256 = λ p. ap (λ (m : ℕ). m % 256) (sym (nat.div-div-eq-div-mul n (2 ^ 64) p)) in
    λ i. high (256 ^ 7) i ∷ high (256 ^ 6) i ∷ high (256 ^ 5) i ∷ high (256 ^ 4) i ∷ high (256 ^ 3) i ∷ high (256 ^ 2) i ∷ high 256 i ∷ (n / 2 ^ 64 % 256)
    ∷ low_7 i ∷ low_6 i ∷ low_5 i ∷ low_4 i ∷ low_3 i ∷ low_2 i ∷ low_1 i ∷ low_0 i ∷ []
  where
    low_7 : n / 256 ^ 7 % 256 ≡ n % 2 ^ 64 / 256 ^ 7 % 256
    low_7 = omega arith

    low_6 : n / 256 ^ 6 % 256 ≡ n % 2 ^ 64 / 256 ^ 6 % 256
    low_6 = omega arith

    low_5 : n / 256 ^ 5 % 256 ≡ n % 2 ^ 64 / 256 ^ 5 % 256
    low_5 = omega arith

    low_4 : n / 256 ^ 4 % 256 ≡ n % 2 ^ 64 / 256 ^ 4 % 256
    low_4 = omega arith

    low_3 : n / 256 ^ 3 % 256 ≡ n % 2 ^ 64 / 256 ^ 3 % 256
    low_3 = omega arith

    low_2 : n / 256 ^ 2 % 256 ≡ n % 2 ^ 64 / 256 ^ 2 % 256
    low_2 = omega arith

    low_1 : n / 256 ^ 1 % 256 ≡ n % 2 ^ 64 / 256 ^ 1 % 256
    low_1 = omega arith

    low_0 : n % 256 ≡ n % 2 ^ 64 % 256
    low_0 = omega arith

-- and the number of bytes is that of the first half, above that of the other
halves-from : (bytes : List ℕ) → from_be_bytes w128 bytes ≡ from_be_bytes w64 (take 8 bytes) * 2 ^ 64 + from_be_bytes w64 (drop 8 bytes)
halves-from bytes =
    omega (
      arith,
      get_or-take 8 bytes 0 0 (omega arith),
      get_or-take 8 bytes 1 0 (omega arith),
      get_or-take 8 bytes 2 0 (omega arith),
      get_or-take 8 bytes 3 0 (omega arith),
      get_or-take 8 bytes 4 0 (omega arith),
      get_or-take 8 bytes 5 0 (omega arith),
      get_or-take 8 bytes 6 0 (omega arith),
      get_or-take 8 bytes 7 0 (omega arith),
      get_or-drop 8 bytes 0 0,
      get_or-drop 8 bytes 1 0,
      get_or-drop 8 bytes 2 0,
      get_or-drop 8 bytes 3 0,
      get_or-drop 8 bytes 4 0,
      get_or-drop 8 bytes 5 0,
      get_or-drop 8 bytes 6 0,
      get_or-drop 8 bytes 7 0,
    )

-- ---- the words of both trees

pub wide128 : IsWide w128 (2 ^ 128)
wide128 = record {
  len = λ n. refl;
  back = λ bytes len fits.
      let front : ℕ = from_be_bytes w64 (take 8 bytes) in
      let rear : ℕ = from_be_bytes w64 (drop 8 bytes) in
      let small : from_be_bytes w64 (drop 8 bytes) < 2 ^ 64 = wide64.below (drop 8 bytes) (AreBytes-drop 8 bytes fits) in
      let high : from_be_bytes w128 bytes / 2 ^ 64 ≡ from_be_bytes w64 (take 8 bytes) = ap (λ (m : ℕ). m / 2 ^ 64) (halves-from bytes) ∙ div-mul-add front (2 ^ 64) rear small in
      let low : from_be_bytes w128 bytes % 2 ^ 64 ≡ from_be_bytes w64 (drop 8 bytes) = ap (λ (m : ℕ). m % 2 ^ 64) (halves-from bytes) ∙ mod-mul-add front (2 ^ 64) rear small in
      halves-to (from_be_bytes w128 bytes)
      ∙ (ap (λ (m : ℕ). to_be_bytes w64 m ++ to_be_bytes w64 (from_be_bytes w128 bytes % 2 ^ 64)) high
      ∙ (ap (λ (m : ℕ). to_be_bytes w64 (from_be_bytes w64 (take 8 bytes)) ++ to_be_bytes w64 m) low
      ∙ (ap (λ (b : List ℕ). b ++ to_be_bytes w64 (from_be_bytes w64 (drop 8 bytes))) (wide64.back (take 8 bytes) (length-take-le 8 bytes (omega arith)) (AreBytes-take 8 bytes fits))
      ∙ (ap (λ (b : List ℕ). take 8 bytes ++ b) (wide64.back (drop 8 bytes) (omega (arith, length-drop 8 bytes)) (AreBytes-drop 8 bytes fits))
      ∙ take-append-drop 8 bytes))));
  again = λ n lt.
      ap (from_be_bytes w128) (halves-to n)
      ∙ (halves-from (to_be_bytes w64 (n / 2 ^ 64) ++ to_be_bytes w64 (n % 2 ^ 64))
      ∙ (ap (λ (m : ℕ). m * 2 ^ 64 + from_be_bytes w64 (to_be_bytes w64 (n % 2 ^ 64))) (wide64.again (n / 2 ^ 64) (omega arith))
      ∙ (ap (λ (m : ℕ). n / 2 ^ 64 * 2 ^ 64 + m) (wide64.again (n % 2 ^ 64) (omega arith))
      ∙ div-add-mod' n (2 ^ 64))));
  below = λ bytes fits.
      let front = wide64.below (take 8 bytes) (AreBytes-take 8 bytes fits) in
      let rear = wide64.below (drop 8 bytes) (AreBytes-drop 8 bytes fits) in
      omega (arith, halves-from bytes, front, rear);
}

-- the word that holds a path of a tree has as many bits as its keys
pub wide_word : (wide : Bool) → IsWide (word_width wide) (2 ^ key_bits wide)
wide_word false = wide64
wide_word true = wide128
