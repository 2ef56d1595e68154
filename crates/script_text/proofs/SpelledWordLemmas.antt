-- A word that is read is spelled in its one way.
use Rattle.std.proofs.Common.{◌≡◌, ℕ, zero, suc, ◌+◌, ◌*◌, ◌/◌, ◌%◌, ◌<◌, ◌≤◌, ◌^◌, ◌==◌, ◌&&◌, ◌||◌, not, nat_le, nat_lt, Bool, true, false, List, [], ◌∷◌, length, get_or, slice_index, Option, Some, None, Result, Ok, Err, codes, if◌then◌else◌, inl, inr, lit<, refl, ap, sym, ◌∙◌, arith}
use Rattle.std.specs.Prelude.{decimal}
use Rattle.std.specs.List.{list_all}
use Rattle.std.specs.Result.{result_ok}
use Rattle.std.specs.Str.{all_ascii_digits, bytes_eq}
use Rattle.std.specs.Str.Parse.{digits_value}
use Rattle.std.proofs.lemmas.Bool.{and_parts, cases_lt, eqb-true, or_cases}
use Rattle.std.proofs.lemmas.Bool.Decides.{nat_tests}
use Rattle.std.proofs.lemmas.Slice.Eq.{bytes_eq-Decides}
use Rattle.hex.specs.Hex.{IsBytes, decode_of, decode_pairs, encode_lower, encode_with, hex_digit_value, lower_digits, pair_value}
use Rattle.hex.specs.declared.error.FromHexError.{FromHexError}
use Rattle.hex.proofs.HexLemmas.{decode_of-even, decode_of-ok}
use Rattle.hex.proofs.Pairs.{cons_byte, decode_pairs-ok_pair}
use Rattle.script_text.specs.Words.{begins_well, number_in, below, is_lower_digit, is_value, value_in}
use Rattle.script_text.specs.Text.{value_word}
use Rattle.script_text.proofs.DecimalLemmas.{decimal-digits_value_wide}
use Rattle.script_text.proofs.WrittenWordLemmas.{own}

-- ---- numbers

-- a number below a limit is the number
pub below-spelled : (limit number : ℕ) (found : Option ℕ) → below limit found ≡ Some number → (found ≡ Some number) × (number < limit)
below-spelled limit number None is = cc
below-spelled limit number (Some n) is = go (nat_lt n limit) refl is where
  go : (test : Bool) → nat_lt n limit ≡ test → (if test then Some n else None) ≡ Some number → (Some n ≡ Some number) × (number < limit)
  go true small same =
      let e : n ≡ number = cc in
      (same, grind (arith, nat_tests))
  go false small same = cc

-- what begins well has a digit, and a zero in front of no other
well-some : (digits : List ℕ) → begins_well digits ≡ true → 0 < length digits
well-some [] well = cc
well-some (digit ∷ digits) well = omega arith

well-alone : (digits : List ℕ) → begins_well digits ≡ true → get_or digits 0 0 ≡ 48 → length digits ≡ 1
well-alone [] well zero_first = cc
well-alone (digit ∷ []) well zero_first = refl
well-alone (digit ∷ next ∷ digits) well zero_first = grind (arith, nat_tests)

-- a number is spelled in decimal
pub number_in-spelled : (number : ℕ) (word : List ℕ) → number_in word ≡ Some number → number < 10 ^ 64 → word ≡ decimal number
unfolding number_in
number_in-spelled number word is small = go (begins_well word && all_ascii_digits word) refl is where
  go : (test : Bool) → (begins_well word && all_ascii_digits word) ≡ test → (if test then Some (digits_value 10 word) else None) ≡ Some number → word ≡ decimal number
  go true tested same =
      let parts = and_parts (begins_well word) (all_ascii_digits word) tested in
      let value : digits_value 10 word ≡ number = cc in
      sym (decimal-digits_value_wide own word parts.1 (well-some word parts.0) (well-alone word parts.0) (omega arith)) ∙ ap decimal value
  go false tested same = cc

-- ---- data values

-- what the value of a digit says of it: it is below 16, and the digit stands there in the table
stands_at : Option ℕ → ℕ → Bool
stands_at None digit = false
stands_at (Some value) digit = nat_lt value 16 && (slice_index lower_digits value == digit)

-- the test of the first characters, which computes
all_stand : ℕ → Bool
all_stand zero = true
all_stand (suc count) = (not (is_lower_digit count) || stands_at (hex_digit_value count) count) && all_stand count

all_stand-at : (count digit : ℕ) → all_stand count ≡ true → digit < count → (not (is_lower_digit digit) || stands_at (hex_digit_value digit) digit) ≡ true
unfolding all_stand
all_stand-at zero digit all there = absurd (omega arith)
all_stand-at (suc count) digit all there =
    let parts = and_parts (not (is_lower_digit count) || stands_at (hex_digit_value count) count) (all_stand count) all in
    elim (cases_lt digit count) [
      | inl before ↦ all_stand-at count digit parts.1 before
      | inr last ↦
          let same : digit ≡ count = omega arith in
          rw same parts.0
    ]

all_stand-103 : all_stand 103 ≡ true
unfolding all_stand stands_at
all_stand-103 = refl

lower-small : (digit : ℕ) → is_lower_digit digit ≡ true → digit < 103
lower-small digit lower = grind (arith, nat_tests)

-- a digit in lower case stands in the table where its value says
lower-stands : (digit : ℕ) → is_lower_digit digit ≡ true → (value : ℕ) × (hex_digit_value digit ≡ Some value) × (value < 16) × (slice_index lower_digits value ≡ digit)
unfolding stands_at
lower-stands digit lower =
    elim (or_cases (not (is_lower_digit digit)) (stands_at (hex_digit_value digit) digit) (all_stand-at 103 digit all_stand-103 (lower-small digit lower))) [
      | inl other ↦ absurd (no_test (is_lower_digit digit) lower other)
      | inr stands ↦ go (hex_digit_value digit) refl stands
    ]
  where
    no_test : (test : Bool) → test ≡ true → not test ≡ true → ⊥
    no_test true holds other = cc
    no_test false holds other = cc

    go : (found : Option ℕ) → hex_digit_value digit ≡ found → stands_at found digit ≡ true
        → (value : ℕ) × (hex_digit_value digit ≡ Some value) × (value < 16) × (slice_index lower_digits value ≡ digit)
    go None is stands = cc
    go (Some value) is stands =
        let parts = and_parts (nat_lt value 16) (slice_index lower_digits value == digit) stands in
        (value, is, grind (arith, nat_tests), eqb-true (slice_index lower_digits value) digit parts.1)

-- digits in lower case are those of the bytes that they spell
lower-encoded : (i : ℕ) (word bytes : List ℕ) → list_all is_lower_digit word ≡ true → decode_pairs i word ≡ Ok bytes → encode_lower bytes ≡ word
unfolding decode_pairs encode_with
lower-encoded i [] bytes lower is =
    let none : bytes ≡ [] = cc in
    ap encode_lower none
lower-encoded i (a ∷ []) bytes lower is = cc
lower-encoded i (a ∷ b ∷ rest) bytes lower is =
    let first = and_parts (is_lower_digit a) (list_all is_lower_digit (b ∷ rest)) lower in
    let second = and_parts (is_lower_digit b) (list_all is_lower_digit rest) first.1 in
    let high = lower-stands a first.0 in
    let low = lower-stands b second.0 in
    let pair : pair_value a b i ≡ Ok (high.0 * 16 + low.0) = rw (high.1, low.1) refl in
    go high.0 low.0 high.2 low.2 high.3 low.3 (λ more found. lower-encoded (i + 2) rest more second.1 found) (decode_pairs (i + 2) rest) refl (sym (decode_pairs-ok_pair i a b (high.0 * 16 + low.0) rest pair) ∙ is)
  where
    go : (high low : ℕ) → high < 16 → low < 16 → slice_index lower_digits high ≡ a → slice_index lower_digits low ≡ b
        → ((more : List ℕ) → decode_pairs (i + 2) rest ≡ Ok more → encode_lower more ≡ rest)
        → (found : Result (List ℕ) FromHexError) → decode_pairs (i + 2) rest ≡ found → cons_byte (high * 16 + low) found ≡ Ok bytes → encode_lower bytes ≡ a ∷ b ∷ rest
    go high low high_fits low_fits is_a is_b others (Ok more) found same =
        let all : bytes ≡ (high * 16 + low) ∷ more = cc in
        let front : (high * 16 + low) / 16 ≡ high = omega arith in
        let back : (high * 16 + low) % 16 ≡ low = omega arith in
        rw (all, front, back, is_a, is_b) (ap (λ digits. a ∷ b ∷ digits) (others more found))
    go high low high_fits low_fits is_a is_b others (Err fault) found same = cc

-- a data value is spelled by its word
pub value_in-spelled : (longest : ℕ) (word bytes : List ℕ) → value_in longest word ≡ Some bytes → (word ≡ value_word bytes) × (length bytes ≤ longest) × IsBytes bytes
unfolding value_in
value_in-spelled longest word bytes is = point (bytes_eq word (codes ".")) refl is where
  digits : (bytes : List ℕ) → is_value longest word ≡ true → decode_of word ≡ Ok bytes → (word ≡ value_word bytes) × (length bytes ≤ longest) × IsBytes bytes
  digits bytes value decoded =
      let parts = and_parts (nat_le 2 (length word) && nat_le (length word) (2 * longest)) (list_all is_lower_digit word) value in
      let range = and_parts (nat_le 2 (length word)) (nat_le (length word) (2 * longest)) parts.0 in
      let facts = decode_of-ok word bytes decoded in
      let some : 2 ≤ length word = grind (arith, nat_tests) in
      let few : length word ≤ 2 * longest = grind (arith, nat_tests) in
      let spelled = lower-encoded 0 word bytes parts.1 (sym (decode_of-even word facts.0) ∙ decoded) in
      (sym (with_digits bytes (omega (arith, facts.2)) ∙ spelled), omega (arith, facts.2), facts.3)
    where
      with_digits : (bytes : List ℕ) → 1 ≤ length bytes → value_word bytes ≡ encode_lower bytes
      with_digits [] some = absurd (omega arith)
      with_digits (byte ∷ bytes) some = refl

  decoded_of : (found : Result (List ℕ) FromHexError) → decode_of word ≡ found → is_value longest word ≡ true → result_ok found ≡ Some bytes → (word ≡ value_word bytes) × (length bytes ≤ longest) × IsBytes bytes
  decoded_of (Ok found) decoded value same =
      let all : found ≡ bytes = cc in
      digits bytes value (decoded ∙ ap Ok all)
  decoded_of (Err fault) decoded value same = cc

  other : (test : Bool) → is_value longest word ≡ test → (if test then result_ok (decode_of word) else None) ≡ Some bytes → (word ≡ value_word bytes) × (length bytes ≤ longest) × IsBytes bytes
  other true value same = decoded_of (decode_of word) refl value same
  other false value same = cc

  point : (test : Bool) → bytes_eq word (codes ".") ≡ test
      → (if test then Some [] else (if is_value longest word then result_ok (decode_of word) else None)) ≡ Some bytes → (word ≡ value_word bytes) × (length bytes ≤ longest) × IsBytes bytes
  point true is_point same =
      let none : bytes ≡ [] = cc in
      rw none ((bytes_eq-Decides word (codes ".")).0 is_point, omega arith, λ place. lit< tt)
  point false is_point same = other (is_value longest word) refl same
