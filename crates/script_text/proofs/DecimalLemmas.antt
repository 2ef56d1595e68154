-- Numbers of up to 64 digits, and their digits.
use Rattle.std.proofs.Common.{◌≡◌, ℕ, ◌+◌, ◌*◌, ◌/◌, ◌%◌, ◌<◌, ◌≤◌, ◌^◌, Bool, true, false, List, [], ◌∷◌, ◌++◌, length, get_or, append_assoc, length-append, append-nil, lit<, ap, sym, ◌∙◌, arith}
use Rattle.std.specs.Fmt.{decimal}
use Rattle.std.specs.Char.{digit_value}
use Rattle.std.specs.Str.Parse.{AllDigits, digits_value, digits_value_after}
use Rattle.std.proofs.Math.ListN.{get_or-append}
use Rattle.std.proofs.lemmas.Fmt.{decimal_digit, decimal_is_IsNumeral_wide, decimal_step_wide, decimal_by_steps_wide, length-decimal-le_wide}
use Rattle.std.proofs.lemmas.Str.{digit_value_digit}
use Rattle.std.proofs.lemmas.Str.Parse.{IsNumeralModel, digit_from_value}
use Rattle.tree_keys.specs.Path.{key_bits}
use Rattle.script_text.proofs.WordLemmas.{digits_value_after-le}

-- a key has so few, in either tree
pub key-fits : (wide : Bool) (key : ℕ) → key < 2 ^ key_bits wide → key < 10 ^ 64
key-fits false key small = omega arith
key-fits true key small = omega arith

pub length-key-le : (wide : Bool) (key : ℕ) → key < 2 ^ key_bits wide → length (decimal key) ≤ 39
length-key-le false key small = length-decimal-le_wide 39 key (lit< tt) (omega arith) (omega arith)
length-key-le true key small = length-decimal-le_wide 39 key (lit< tt) (omega arith) (omega arith)

-- ---- what is written of a number

pub decimal_nonempty_wide : (number : ℕ) → number < 10 ^ 64 → 0 < length (decimal number)
decimal_nonempty_wide number small = (decimal_is_IsNumeral_wide number small).0.0

-- the first digit of a number is zero in zero alone
pub first_decimal_wide : (number : ℕ) → 0 < number → number < 10 ^ 64 → 48 < get_or (decimal number) 0 0
first_decimal_wide number some small = (decimal_by_steps_wide (λ m digits. (0 < length digits) × (0 < m → 48 < get_or digits 0 0)) (λ m one. (omega arith, λ above. omega arith))
    (λ m digits more before. (omega (arith, length-append digits ((48 + m % 10) ∷ [])), λ above. omega (arith, get_or-append digits ((48 + m % 10) ∷ []) 0 0 before.0, before.1 (omega arith)))) number small).1 some

module _ {P : List ℕ → Type 0} {v : List ℕ → ℕ} (own : IsNumeralModel P v) (number : ℕ) (small : number < 10 ^ 64) where
  pub digits_decimal_wide : P (decimal number)
  digits_decimal_wide = own.from (decimal number) (decimal_is_IsNumeral_wide number small).0.1

  pub digits_value-decimal_wide : v (decimal number) ≡ number
  digits_value-decimal_wide = own.same (decimal number) (decimal_is_IsNumeral_wide number small).0.1 ∙ (decimal_is_IsNumeral_wide number small).1

-- ---- what digits are written of

-- digits behind those of a number
decimal_value_after_wide : (number : ℕ) (digits : List ℕ) → 0 < number → AllDigits 10 digits → digits_value_after 10 number digits < 10 ^ 64
    → decimal (digits_value_after 10 number digits) ≡ decimal number ++ digits
decimal_value_after_wide number [] some are small = sym (append-nil (decimal number))
decimal_value_after_wide number (digit ∷ digits) some are small =
    let m : ℕ = number * 10 + digit_value digit in
    let value = digit_value_digit digit (digit_from_value digit are.0) in
    let front : m / 10 ≡ number = omega (arith, are.0) in
    let end : 48 + m % 10 ≡ digit = omega (arith, are.0) in
    decimal_value_after_wide m digits (omega arith) are.1 small
    ∙ ap (λ text. text ++ digits) (decimal_step_wide m (omega arith) (omega (arith, digits_value_after-le m digits)) ∙ (λ i. decimal (front i) ++ (end i ∷ [])))
    ∙ append_assoc (decimal number) (digit ∷ []) digits

decimal_value_digits_wide : (digits : List ℕ) → AllDigits 10 digits → 0 < length digits → (get_or digits 0 0 ≡ 48 → length digits ≡ 1) → digits_value 10 digits < 10 ^ 64
    → decimal (digits_value 10 digits) ≡ digits
decimal_value_digits_wide [] are some alone small = absurd (omega arith)
decimal_value_digits_wide (digit ∷ []) are some alone small =
    let value = digit_value_digit digit (digit_from_value digit are.0) in
    decimal_digit (0 * 10 + digit_value digit) (omega (arith, are.0)) ∙ ap (λ d. d ∷ []) (omega arith)
decimal_value_digits_wide (digit ∷ next ∷ digits) are some alone small =
    let value = digit_value_digit digit (digit_from_value digit are.0) in
    let other : digit ≡ 48 → ⊥ = λ is. omega (arith, alone is) in
    let is : 48 + (0 * 10 + digit_value digit) ≡ digit = omega arith in
    decimal_value_after_wide (0 * 10 + digit_value digit) (next ∷ digits) (omega arith) are.1 small
    ∙ ap (λ text. text ++ (next ∷ digits)) (decimal_digit (0 * 10 + digit_value digit) (omega (arith, are.0)) ∙ ap (λ d. d ∷ []) is)

-- digits with no zero in front of others are those of the number that they spell
pub decimal-digits_value_wide : {P : List ℕ → Type 0} {v : List ℕ → ℕ} → IsNumeralModel P v → (digits : List ℕ) → P digits → 0 < length digits
    → (get_or digits 0 0 ≡ 48 → length digits ≡ 1) → v digits < 10 ^ 64 → decimal (v digits) ≡ digits
decimal-digits_value_wide own digits are some alone small =
    let all = own.to digits are in
    ap decimal (own.same digits all) ∙ decimal_value_digits_wide digits all some alone (omega (arith, own.same digits all))
