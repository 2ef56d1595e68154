-- Which number a word spells, as far as its digits were read.
use Rattle.std.proofs.Common.{◌≡◌, ℕ, ◌+◌, ◌*◌, ◌<◌, ◌≤◌, ◌&&◌, Bool, true, false, List, [], ◌∷◌, length, drop, get_or, ◌-◌, Some, None, if◌then◌else◌, refl, ap, sym, ◌∙◌, arith}
use Rattle.std.specs.Char.{digit_value}
use Rattle.std.specs.Str.{all_ascii_digits}
use Rattle.std.specs.Str.Parse.{digits_value, digits_value_after}
use Rattle.std.proofs.lemmas.Bool.Decides.{nat_tests}
use Rattle.std.proofs.lemmas.List.{drop_more}
use Rattle.std.specs.Char.{is_ascii_digit}
use Rattle.script_text.specs.Words.{begins_well, number_in, below}

-- digits behind a number make it no smaller
pub digits_value_after-le : (number : ℕ) (digits : List ℕ) → number ≤ digits_value_after 10 number digits
digits_value_after-le number [] = omega arith
digits_value_after-le number (digit ∷ digits) =
    let more = digits_value_after-le (number * 10 + digit_value digit) digits in
    omega arith

-- what is below a limit, where a test was passed
tested-large : (test : Bool) (limit number : ℕ) → limit ≤ number → below limit (if test then Some number else None) ≡ None
tested-large true limit number large = grind (arith, nat_tests)
tested-large false limit number large = refl

-- a word that begins otherwise spells no number
pub number-none : (limit : ℕ) (word : List ℕ) → begins_well word ≡ false → below limit (number_in word) ≡ None
unfolding number_in
number-none limit word no_digit = rw no_digit refl

-- nor does one that has something else than a digit
pub number-other : (limit : ℕ) (word : List ℕ) → all_ascii_digits word ≡ false → below limit (number_in word) ≡ None
unfolding number_in
number-other limit word other = go (begins_well word) (all_ascii_digits word) other where
  go : (a b : Bool) → b ≡ false → below limit (if a && b then Some (digits_value 10 word) else None) ≡ None
  go true b e = rw e refl
  go false b e = refl

-- a number that is not below the limit
pub number-large : (limit : ℕ) (word : List ℕ) → limit ≤ digits_value 10 word → below limit (number_in word) ≡ None
unfolding number_in
number-large limit word large = tested-large (begins_well word && all_ascii_digits word) limit (digits_value 10 word) large

-- a number that is
pub number-found : (limit number : ℕ) (word : List ℕ) → begins_well word ≡ true → all_ascii_digits word ≡ true → digits_value 10 word ≡ number → number < limit
    → below limit (number_in word) ≡ Some number
unfolding number_in
number-found limit number word well digits is small = rw (well, digits, is) (grind (arith, nat_tests))

-- ---- while digits are read

-- a byte that is no digit
pub digits-other : (word : List ℕ) (place : ℕ) → place < length word → is_ascii_digit (get_or word place 0) ≡ false
    → all_ascii_digits (drop place word) ≡ all_ascii_digits word → all_ascii_digits word ≡ false
digits-other word place there other same =
    sym same ∙ ap all_ascii_digits (drop_more word place 0 there) ∙ ap (λ test. test && all_ascii_digits (drop (place + 1) word)) other

-- a digit makes the number too large
pub digits-large : (limit number : ℕ) (word : List ℕ) (place : ℕ) → place < length word → limit ≤ number * 10 + digit_value (get_or word place 0)
    → digits_value_after 10 number (drop place word) ≡ digits_value 10 word → limit ≤ digits_value 10 word
digits-large limit number word place there large same =
    let more = digits_value_after-le (number * 10 + digit_value (get_or word place 0)) (drop (place + 1) word) in
    let step : digits_value_after 10 number (drop place word) ≡ digits_value_after 10 (number * 10 + digit_value (get_or word place 0)) (drop (place + 1) word) =
    ap (digits_value_after 10 number) (drop_more word place 0 there) in
    omega arith

-- the value of a digit
pub digit_value-digit : (digit : ℕ) → is_ascii_digit digit ≡ true → digit_value digit ≡ digit - 48
digit_value-digit digit h = grind (arith, nat_tests)
