-- How many bytes a header has, and what one that is read says of its bytes.
use Rattle.std.proofs.Common.{◌≡◌, ℕ, ◌≤◌, cond, leb, ◌&&◌, Bool, true, false, List, [], ◌++◌, length, take, Some, None, sym, ap, ◌∙◌, refl, arith, append-nil, length-append}
use Rattle.std.proofs.Math.Seq.{take-append_seam}
use Rattle.std.proofs.lemmas.List.{take_all}
use Rattle.std.proofs.lemmas.Bool.{and_parts, cond_both, leb-true}
use Rattle.std.specs.Int.{w8, to_be_bytes}
use Rattle.lamport_clocks.specs.declared.header.Header.{Header}
use Rattle.lamport_clocks.specs.Header.{is_in_range}
use Rattle.bundle_frames.specs.Bundle.{says_bits, fields_text, header_bytes, header_bytes_in, header_text, header_numbers, header_in}

-- a header has 18 bytes, or 19
pub header_bytes-bounds : (version : ℕ) → (18 ≤ header_bytes version) × (header_bytes version ≤ 19)
header_bytes-bounds version =
    cond_both (says_bits version) 19 18 (λ n. (18 ≤ n) × (n ≤ 19)) (λ is. (omega arith, omega arith)) (λ is. (omega arith, omega arith))

length-with_bits : (b : Bool) (front : List ℕ) (bits : ℕ) → length front ≡ 18 → length (front ++ cond b (to_be_bytes w8 bits) []) ≡ cond b 19 18
length-with_bits true front bits size = omega (arith, length-append front (to_be_bytes w8 bits))
length-with_bits false front bits size = omega (arith, length-append front [])

-- its text has as many
pub length-header_text : (header : Header) → length (header_text header) ≡ header_bytes header.version
length-header_text header = length-with_bits (says_bits header.version) (fields_text header) header.bits refl

front_with_bits : (b : Bool) (front last : List ℕ) → length front ≡ 18 → length last ≡ 1 → take (cond b 19 18) (front ++ last) ≡ front ++ cond b last []
front_with_bits true front last size one = take_all 19 (front ++ last) (omega (arith, length-append front last))
front_with_bits false front last size one =
    ap (λ (n : ℕ). take n (front ++ last)) (sym size) ∙ take-append_seam front last ∙ sym (append-nil front)

-- and it is the front of one with the bits of a key
pub header_text-front : (header : Header) (n : ℕ) (bytes : List ℕ) → n ≡ header_bytes header.version → bytes ≡ fields_text header ++ to_be_bytes w8 header.bits
    → take n bytes ≡ header_text header
header_text-front header n bytes size is =
    ap (λ (k : ℕ). take k bytes) size ∙ ap (take (header_bytes header.version)) is
    ∙ front_with_bits (says_bits header.version) (fields_text header) (to_be_bytes w8 header.bits) refl refl

-- where a test gives a value, it passed
pub some_if : {A : Type 0} (b : Bool) (x y : A) → cond b (Some x) None ≡ Some y → (b ≡ true) × (x ≡ y)
some_if true x y is = (refl, cc)
some_if false x y is = absurd (cc)

-- what a header at the front of bytes says of them
pub record IsHeaderOf (bytes : List ℕ) (header : Header) : Type 0 where
  pub there : header_bytes_in bytes ≤ length bytes
  pub numbers : header_numbers bytes ≡ header
  pub size : header_bytes_in bytes ≡ header_bytes header.version
  pub good : is_in_range header ≡ true

pub IsHeaderOf-from_header_in : (bytes : List ℕ) (header : Header) → header_in bytes ≡ Some header → IsHeaderOf bytes header
IsHeaderOf-from_header_in bytes header is =
    let found = some_if (leb (header_bytes_in bytes) (length bytes) && is_in_range (header_numbers bytes)) _ _ is in
    let tests = and_parts _ _ found.0 in
    record {
      there = leb-true _ _ tests.0;
      numbers = found.1;
      size = ap (λ (h : Header). header_bytes h.version) found.1;
      good = ap is_in_range (sym found.1) ∙ tests.1;
    }
