-- The numbers that words spell, by how they are read.
use Rattle.std.proofs.Common.{◌≡◌, ℕ, ◌<◌, ◌≤◌, ◌^◌, ◌&&◌, Bool, true, false, List, [], ◌∷◌, Option, Some, None, Result, Ok, Err, if◌then◌else◌, refl, ap, sym, ◌∙◌, arith, length}
use Rattle.std.specs.Result.{OkIff}
use Rattle.std.specs.List.{list_all}
use Rattle.std.specs.Char.{is_ascii_digit}
use Rattle.std.specs.Str.{all_ascii_digits}
use Rattle.std.specs.Str.Parse.{digits_value, ParsesUnsigned}
use Rattle.std.proofs.lemmas.Bool.Decides.{nat_tests}
use Rattle.std.proofs.lemmas.Str.Parse.{IsNumeralModel, numerals_by_value, tells_all_ascii_digits, parse_digits}
use Rattle.program_words.specs.Numbers.{begins_well, is_numeral, in_range, number_between, needed_in}

-- digits that are tested one by one
pub all_digits : (word : List ℕ) → list_all is_ascii_digit word ≡ all_ascii_digits word
all_digits [] = refl
all_digits (digit ∷ digits) = ap (λ (more : Bool). is_ascii_digit digit && more) (all_digits digits)

-- ---- the number in a range

pub no_numeral : (least most : ℕ) (word : List ℕ) → is_numeral word ≡ false → None ≡ number_between least most word
unfolding number_between
no_numeral least most word other = rw other refl

pub between : (least most number : ℕ) (word : List ℕ) → is_numeral word ≡ true → digits_value 10 word ≡ number → least ≤ number → number ≤ most
    → Some number ≡ number_between least most word
unfolding number_between
between least most number word well value from to = rw (well, value) (grind (arith, nat_tests))

pub below : (least most number : ℕ) (word : List ℕ) → digits_value 10 word ≡ number → number < least → None ≡ number_between least most word
unfolding number_between
below least most number word value small = rw value (go (is_numeral word)) where
  go : (test : Bool) → None ≡ (if test then in_range least most number else None)
  go true = grind (arith, nat_tests)
  go false = refl

pub above : (least most number : ℕ) (word : List ℕ) → digits_value 10 word ≡ number → most < number → None ≡ number_between least most word
unfolding number_between
above least most number word value large = rw value (go (is_numeral word)) where
  go : (test : Bool) → None ≡ (if test then in_range least most number else None)
  go true = grind (arith, nat_tests)
  go false = refl

-- no number is answered that is greater
found_most : (least most number found : ℕ) (test : Bool) → Some found ≡ (if test then in_range least most number else None) → found ≤ most
found_most least most number found true is = grind (arith, nat_tests, is)
found_most least most number found false is = absurd (cc)

pub between_most : (least most found : ℕ) (word : List ℕ) → Some found ≡ number_between least most word → found ≤ most
unfolding number_between
between_most least most found word is = found_most least most (digits_value 10 word) found (is_numeral word) is

pub needed_most : (least most found : ℕ) (word : Option (List ℕ)) → Some found ≡ needed_in least most word → found ≤ most
needed_most least most found None is = absurd (cc)
needed_most least most found (Some word) is = between_most least most found word is

-- ---- what a numeral is read as

own : IsNumeralModel (λ ds. all_ascii_digits ds ≡ true) (digits_value 10)
own = numerals_by_value (λ ds. all_ascii_digits ds ≡ true) tells_all_ascii_digits

right : (a b : Bool) → (a && b) ≡ true → b ≡ true
right true b both = both
right false b both = absurd (cc)

digits : (word : List ℕ) → is_numeral word ≡ true → all_ascii_digits word ≡ true
digits word well = sym (all_digits word) ∙ right (begins_well word) (list_all is_ascii_digit word) well

some_digits : (word : List ℕ) → is_numeral word ≡ true → 0 < length word
some_digits [] well = absurd (cc)
some_digits (digit ∷ digits) well = omega arith

value_if : {E : Type 0} (r : Result ℕ E) (P : Type 0) (value number : ℕ) → OkIff r P value → r ≡ Ok number → value ≡ number
value_if (Ok x) P value number holds is = sym holds.1 ∙ (let same : x ≡ number = cc in same)
value_if (Err e) P value number holds is = absurd (cc)

pub value_read : {E : Type 0} (r : Result ℕ E) (word : List ℕ) (number : ℕ) → ParsesUnsigned 64 10 word r → is_numeral word ≡ true → r ≡ Ok number
    → digits_value 10 word ≡ number
value_read r word number parses well is =
    value_if r _ _ _ (parse_digits own 64 word r parses (digits word well)) is

not_small : {E : Type 0} (r : Result ℕ E) (e : E) (n limit value : ℕ) → OkIff r ((0 < n) × (value < limit)) value → r ≡ Err e → 0 < n → limit ≤ value
not_small (Ok x) e n limit value holds is some = absurd (cc)
not_small (Err e') e n limit value holds is some = grind (arith, holds)

-- one that is not read has more than 64 bits
pub value_large : {E : Type 0} (r : Result ℕ E) (e : E) (word : List ℕ) → ParsesUnsigned 64 10 word r → is_numeral word ≡ true → r ≡ Err e
    → 2 ^ 64 ≤ digits_value 10 word
value_large r e word parses well is =
    not_small r e (length word) (2 ^ 64) (digits_value 10 word)
    (parse_digits own 64 word r parses (digits word well)) is (some_digits word well)
