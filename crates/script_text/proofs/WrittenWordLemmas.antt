-- What is written as a word is read of it, and has no blank and no line feed in it.
use Rattle.std.proofs.Common.{◌≡◌, ℕ, zero, suc, ◌*◌, ◌/◌, ◌%◌, ◌<◌, ◌≤◌, ◌^◌, ◌==◌, ◌&&◌, Bool, true, false, List, [], ◌∷◌, length, get_or, slice_index, Some, Ok, codes, inl, inr, lit<, refl, ap, arith}
use Rattle.std.specs.Prelude.{decimal}
use Rattle.std.specs.Char.{is_ascii_digit}
use Rattle.std.specs.List.{list_all}
use Rattle.std.specs.Str.{all_ascii_digits, bytes_eq}
use Rattle.std.specs.Str.Parse.{digits_value}
use Rattle.std.proofs.lemmas.Bool.{and_parts, cases_lt}
use Rattle.std.proofs.lemmas.Bool.Decides.{nat_tests}
use Rattle.std.proofs.lemmas.Fmt.{decimal_digit}
use Rattle.std.proofs.lemmas.List.Elements.{All-nil, All-cons}
use Rattle.std.proofs.lemmas.Str.Parse.{IsNumeralModel, numerals_by_value, tells_all_ascii_digits}
use Rattle.hex.specs.Hex.{IsBytes, decode_of, encode_lower, encode_with, lower_digits}
use Rattle.hex.proofs.HexLemmas.{decode_of-encode_lower, length-encode_with}
use Rattle.script_text.specs.Words.{begins_well, number_in, below, is_lower_digit, is_value, value_in}
use Rattle.script_text.specs.Text.{value_word}
use Rattle.script_text.proofs.DecimalLemmas.{decimal_nonempty_wide, digits_decimal_wide, digits_value-decimal_wide, first_decimal_wide}
use Rattle.script_text.proofs.SplittingLaws.{IsOther, IsWithout}

-- std's words for the digits of a number, and for its value
pub own : IsNumeralModel (λ digits. all_ascii_digits digits ≡ true) (digits_value 10)
own = numerals_by_value _ tells_all_ascii_digits

-- ---- numbers

-- a byte below the digits stands in no number
digits-without : (byte : ℕ) (digits : List ℕ) → byte < 48 → all_ascii_digits digits ≡ true → IsWithout byte digits
digits-without byte [] low all = All-nil (IsOther byte)
digits-without byte (digit ∷ digits) low all =
    let parts = and_parts (is_ascii_digit digit) (all_ascii_digits digits) all in
    All-cons (IsOther byte) digit digits (other digit parts.0) (digits-without byte digits low parts.1)
  where
    other : (digit : ℕ) → is_ascii_digit digit ≡ true → (digit == byte) ≡ false
    other digit h = grind (arith, nat_tests)

pub decimal-without : (byte number : ℕ) → byte < 48 → number < 10 ^ 64 → IsWithout byte (decimal number)
decimal-without byte number low small = digits-without byte (decimal number) low (digits_decimal_wide own number small)

-- a number begins well
begins-nonzero : (digits : List ℕ) → 0 < length digits → 48 < get_or digits 0 0 → begins_well digits ≡ true
begins-nonzero [] some above = absurd (omega arith)
begins-nonzero (digit ∷ []) some above = refl
begins-nonzero (digit ∷ next ∷ digits) some above = grind (arith, nat_tests)

begins-decimal : (number : ℕ) → number < 10 ^ 64 → begins_well (decimal number) ≡ true
begins-decimal zero small = ap begins_well (decimal_digit 0 (lit< tt))
begins-decimal (suc number) small =
    begins-nonzero (decimal (suc number)) (decimal_nonempty_wide (suc number) small) (first_decimal_wide (suc number) (omega arith) small)

-- a number is read of its digits
pub number_in-decimal : (number : ℕ) → number < 10 ^ 64 → number_in (decimal number) ≡ Some number
unfolding number_in
number_in-decimal number small = rw (begins-decimal number small, digits_decimal_wide own number small, digits_value-decimal_wide own number small) refl

pub below-decimal : (limit number : ℕ) → number < limit → number < 10 ^ 64 → below limit (number_in (decimal number)) ≡ Some number
below-decimal limit number small fits = rw (number_in-decimal number fits) (grind (arith, nat_tests))

-- ---- data values

-- the test of the first places of the table of digits, which computes
abbrev all_lower : ℕ → Bool
all_lower zero = true
all_lower (suc count) = is_lower_digit (slice_index lower_digits count) && all_lower count

all_lower-at : (count place : ℕ) → all_lower count ≡ true → place < count → is_lower_digit (slice_index lower_digits place) ≡ true
all_lower-at zero place all there = absurd (omega arith)
all_lower-at (suc count) place all there =
    let parts = and_parts (is_lower_digit (slice_index lower_digits count)) (all_lower count) all in
    elim (cases_lt place count) [
      | inl before ↦ all_lower-at count place parts.1 before
      | inr last ↦
          let same : place ≡ count = omega arith in
          rw same parts.0
    ]

-- a digit of the table is one in lower case
table-lower : (place : ℕ) → place < 16 → is_lower_digit (slice_index lower_digits place) ≡ true
table-lower place there = all_lower-at 16 place refl there

-- the digits of bytes are in lower case
pub encoded-lower : (bytes : List ℕ) → IsBytes bytes → list_all is_lower_digit (encode_lower bytes) ≡ true
unfolding encode_with
encoded-lower [] small = refl
encoded-lower (byte ∷ bytes) small =
    let fits : byte < 256 = small 0 in
    let high = table-lower (byte / 16) (omega arith) in
    let low = table-lower (byte % 16) (omega arith) in
    rw (high, low) (encoded-lower bytes (λ place. small (suc place)))

-- a byte below the digits is not among them
lower-without : (byte : ℕ) (digits : List ℕ) → byte < 48 → list_all is_lower_digit digits ≡ true → IsWithout byte digits
lower-without byte [] low all = All-nil (IsOther byte)
lower-without byte (digit ∷ digits) low all =
    let parts = and_parts (is_lower_digit digit) (list_all is_lower_digit digits) all in
    All-cons (IsOther byte) digit digits (other digit parts.0) (lower-without byte digits low parts.1)
  where
    other : (digit : ℕ) → is_lower_digit digit ≡ true → (digit == byte) ≡ false
    other digit h = grind (arith, nat_tests)

-- a data value's word has no byte below the point
pub value-without : (byte : ℕ) (bytes : List ℕ) → byte < 46 → IsBytes bytes → IsWithout byte (value_word bytes)
value-without byte [] low small = All-cons (IsOther byte) 46 [] (grind (arith, nat_tests)) (All-nil (IsOther byte))
value-without byte (first ∷ bytes) low small = lower-without byte (encode_lower (first ∷ bytes)) (omega arith) (encoded-lower (first ∷ bytes) small)

-- digits are no point
lower-no_point : (digit : ℕ) (digits : List ℕ) → is_lower_digit digit ≡ true → bytes_eq (digit ∷ digits) (codes ".") ≡ false
lower-no_point digit digits lower = rw (other digit lower) refl
  where
    other : (digit : ℕ) → is_lower_digit digit ≡ true → (digit == 46) ≡ false
    other digit h = grind (arith, nat_tests)

-- bytes are read of their digits
value_in-digits : (longest : ℕ) (word bytes : List ℕ) → bytes_eq word (codes ".") ≡ false → is_value longest word ≡ true → decode_of word ≡ Ok bytes → value_in longest word ≡ Some bytes
unfolding value_in
value_in-digits longest word bytes no_point value decoded = rw (no_point, value, decoded) refl

is_value-digits : (longest : ℕ) (word : List ℕ) → 2 ≤ length word → length word ≤ 2 * longest → list_all is_lower_digit word ≡ true → is_value longest word ≡ true
is_value-digits longest word some few lower = rw lower (grind (arith, nat_tests))

encoded-no_point : (byte : ℕ) (bytes : List ℕ) → byte < 256 → bytes_eq (encode_lower (byte ∷ bytes)) (codes ".") ≡ false
unfolding encode_with
encoded-no_point byte bytes small = lower-no_point (slice_index lower_digits (byte / 16)) (slice_index lower_digits (byte % 16) ∷ encode_with lower_digits bytes) (table-lower (byte / 16) (omega arith))

-- a data value is read of its word
pub value_in-word : (longest : ℕ) (bytes : List ℕ) → length bytes ≤ longest → IsBytes bytes → value_in longest (value_word bytes) ≡ Some bytes
unfolding value_in
value_in-word longest [] few small = refl
value_in-word longest (byte ∷ bytes) few small =
    let word = encode_lower (byte ∷ bytes) in
    let size : length word ≡ 2 * length (byte ∷ bytes) = length-encode_with lower_digits (byte ∷ bytes) in
    let lower : list_all is_lower_digit word ≡ true = encoded-lower (byte ∷ bytes) small in
    let value : is_value longest word ≡ true = is_value-digits longest word (omega arith) (omega arith) lower in
    value_in-digits longest word (byte ∷ bytes) (encoded-no_point byte bytes (small 0)) value (decode_of-encode_lower (byte ∷ bytes) small)

-- how long a word is
pub length-value_word-le : (longest : ℕ) (bytes : List ℕ) → 1 ≤ longest → length bytes ≤ longest → length (value_word bytes) ≤ 2 * longest
length-value_word-le longest [] some few = omega arith
length-value_word-le longest (byte ∷ bytes) some few = omega (arith, length-encode_with lower_digits (byte ∷ bytes))
