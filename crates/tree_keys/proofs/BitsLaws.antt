-- Bits and the numbers that they spell.
use Rattle.std.proofs.Common.{◌≡◌, ℕ, zero, suc, ◌+◌, ◌-◌, ◌*◌, ◌/◌, ◌%◌, ◌^◌, ◌<◌, ◌≤◌, ◌==◌, Bool, true, false, List, [], ◌∷◌, ◌++◌, length, take, slice_get, Some, refl, sym, ◌∙◌, ap, subst, arith}
use Rattle.std.proofs.lemmas.Nat.{shr-shr, pow_pos, mod_low, shr_high, mod_below, same_from_place, shr_below}
use Rattle.std.proofs.lemmas.List.{take_at}
use Rattle.std.proofs.Math.Nat.{mod-mod, pow-suc, pow-le-pow_right}
use Rattle.tree_keys.specs.Bits.{bits_of, bit_value, number_of}
use Rattle.tree_keys.specs.Path.{IsIn, depth, tree_of, key_of}
use Rattle.tree_keys.specs.BitsLaws.{length-bits_of, top_digit, mod_small, number_back, upper_half, lower_half}

-- bits are those of the whole number's quotient, and then those of the number
pub bits_of-split : (j k number : ℕ) → bits_of (j + k) number ≡ bits_of j (number / 2 ^ k) ++ bits_of k number
unfolding bits_of
bits_of-split zero k number = ap (λ (n : ℕ). bits_of n number) (omega arith)
bits_of-split (suc j) k number =
    let more : suc j + k ≡ suc (j + k) = omega arith in
    let high : number / 2 ^ (j + k) ≡ number / 2 ^ k / 2 ^ j = ap (λ (n : ℕ). number / 2 ^ n) (omega arith) ∙ sym (shr-shr number k j) in
    subst (λ (n : ℕ). bits_of n number ≡ (number / 2 ^ k / 2 ^ j % 2 == 1) ∷ (bits_of j (number / 2 ^ k) ++ bits_of k number)) (sym more)
    (ap (λ (n : ℕ). (n % 2 == 1) ∷ bits_of (j + k) number) high
    ∙ ap (λ (bits : List Bool). (number / 2 ^ k / 2 ^ j % 2 == 1) ∷ bits) (bits_of-split j k number))

-- numbers that agree below 2 ^ n have the same n bits
pub bits_of-same : (n a b : ℕ) → a % 2 ^ n ≡ b % 2 ^ n → bits_of n a ≡ bits_of n b
unfolding bits_of
bits_of-same zero a b agree = refl
bits_of-same (suc n) a b agree =
    let both : a / 2 ^ n % 2 * 2 ^ n + a % 2 ^ n ≡ b / 2 ^ n % 2 * 2 ^ n + b % 2 ^ n = sym (top_digit n a) ∙ (agree ∙ top_digit n b) in
    let parts = same_from_place (a / 2 ^ n % 2) (a % 2 ^ n) (b / 2 ^ n % 2) (b % 2 ^ n) (2 ^ n) (mod_below a (2 ^ n) (pow_pos n)) (mod_below b (2 ^ n) (pow_pos n)) both in
    ap (λ (digit : ℕ). (digit == 1) ∷ bits_of n a) parts.0
    ∙ ap (λ (bits : List Bool). (b / 2 ^ n % 2 == 1) ∷ bits) (bits_of-same n a b parts.1)

double : (n : ℕ) → 2 ^ suc n ≡ 2 ^ n + 2 ^ n
double n = omega (arith, pow-suc 2 n)

-- the number that bits spell is below the power of their count
pub number_of-lt : (bits : List Bool) → number_of bits < 2 ^ length bits
unfolding number_of
number_of-lt [] = omega arith
number_of-lt (true ∷ bits) = omega (arith, number_of-lt bits, double (length bits))
number_of-lt (false ∷ bits) = omega (arith, number_of-lt bits, double (length bits))

top_bit : (bit : Bool) → bit_value bit % 2 == 1 ≡ bit
top_bit true = refl
top_bit false = refl

-- bits are those of the number that they spell
pub bits_of-number_of : (bits : List Bool) → bits_of (length bits) (number_of bits) ≡ bits
unfolding bits_of number_of
bits_of-number_of [] = refl
bits_of-number_of (bit ∷ bits) =
    let n : ℕ = length bits in
    let low = number_of-lt bits in
    let high : (bit_value bit * 2 ^ length bits + number_of bits) / 2 ^ length bits ≡ bit_value bit = shr_high (bit_value bit) (length bits) (number_of bits) low in
    let rest : (bit_value bit * 2 ^ length bits + number_of bits) % 2 ^ length bits ≡ number_of bits % 2 ^ length bits =
    mod_low (bit_value bit) (length bits) (number_of bits) low ∙ sym (mod_small (length bits) (number_of bits) low) in
    ap (λ (number : ℕ). (number % 2 == 1) ∷ bits_of (length bits) (bit_value bit * 2 ^ length bits + number_of bits)) high
    ∙ (ap (λ (top : Bool). top ∷ bits_of (length bits) (bit_value bit * 2 ^ length bits + number_of bits)) (top_bit bit)
    ∙ ap (λ (more : List Bool). bit ∷ more) (bits_of-same (length bits) _ _ rest ∙ bits_of-number_of bits))

-- numbers of so many bits are told apart by their bits
pub bits_of-injective : (n a b : ℕ) → a < 2 ^ n → b < 2 ^ n → bits_of n a ≡ bits_of n b → a ≡ b
bits_of-injective n a b small_a small_b same =
    sym (number_back n a small_a) ∙ (ap number_of same ∙ number_back n b small_b)

-- the first bits are those of the quotient
pub take-bits_of : (n front number : ℕ) → front ≤ n → take front (bits_of n number) ≡ bits_of front (number / 2 ^ (n - front))
take-bits_of n front number within =
    let whole : front + (n - front) ≡ n = omega arith in
    subst (λ (m : ℕ). take front (bits_of m number) ≡ bits_of front (number / 2 ^ (n - front))) whole
    (ap (take front) (bits_of-split front (n - front) number)
    ∙ take_at (bits_of front (number / 2 ^ (n - front))) (bits_of (n - front) number) front (length-bits_of front (number / 2 ^ (n - front))))

-- the same behind one bit more
pub take-behind : (first : Bool) (n front number : ℕ) → front ≤ n → take (1 + front) (first ∷ bits_of n number) ≡ first ∷ bits_of front (number / 2 ^ (n - front))
take-behind first n front number within =
    let more : suc front ≡ 1 + front = omega arith in
    subst (λ (m : ℕ). take m (first ∷ bits_of n number) ≡ first ∷ bits_of front (number / 2 ^ (n - front))) more
    (ap (λ (bits : List Bool). first ∷ bits) (take-bits_of n front number within))

-- the bit at a place, from the number
pub bit_of-bits_of : (n index number : ℕ) → index < n → slice_get (bits_of n number) index ≡ Some (number / 2 ^ (n - 1 - index) % 2 == 1)
unfolding bits_of
bit_of-bits_of zero index number within = absurd (omega arith)
bit_of-bits_of (suc n) zero number within = ap (λ (k : ℕ). Some (number / 2 ^ k % 2 == 1)) (omega arith)
bit_of-bits_of (suc n) (suc index) number within =
    bit_of-bits_of n index number (omega arith) ∙ ap (λ (k : ℕ). Some (number / 2 ^ k % 2 == 1)) (omega arith)

-- the same behind one bit more
pub bit-behind : (first : Bool) (n index number : ℕ) → index < n → slice_get (first ∷ bits_of n number) (1 + index) ≡ Some (number / 2 ^ (n - 1 - index) % 2 == 1)
bit-behind first n index number within =
    let more : suc index ≡ 1 + index = omega arith in
    subst (λ (m : ℕ). slice_get (first ∷ bits_of n number) m ≡ Some (number / 2 ^ (n - 1 - index) % 2 == 1)) more
    (bit_of-bits_of n index number within)

-- the number of the first bits is below the power of their count
pub first_below : (bits len front : ℕ) → front ≤ len → bits < 2 ^ len → bits / 2 ^ (len - front) < 2 ^ front
first_below bits len front within small =
    let whole : len ≡ front + (len - front) = omega arith in
    shr_below bits front (len - front) (subst (λ (m : ℕ). bits < 2 ^ m) whole small)

-- the number above the last bit, and that bit
last_bit : (n number : ℕ) (side : Bool) → bits_of n ((2 * number + bit_value side) / 2 ^ 1) ++ bits_of 1 (2 * number + bit_value side) ≡ bits_of n number ++ side ∷ []
unfolding bits_of
last_bit n number true =
    let high : (2 * number + 1) / 2 ≡ number = omega arith in
    let low : (2 * number + 1) / 1 % 2 ≡ 1 = omega arith in
    ap (λ (m : ℕ). bits_of n m ++ ((2 * number + 1) / 1 % 2 == 1) ∷ []) high ∙ ap (λ (m : ℕ). bits_of n number ++ (m == 1) ∷ []) low
last_bit n number false =
    let high : (2 * number + 0) / 2 ≡ number = omega arith in
    let low : (2 * number + 0) / 1 % 2 ≡ 0 = omega arith in
    ap (λ (m : ℕ). bits_of n m ++ ((2 * number + 0) / 1 % 2 == 1) ∷ []) high ∙ ap (λ (m : ℕ). bits_of n number ++ (m == 1) ∷ []) low

-- one bit more
pub child_bits : (n number : ℕ) (side : Bool) → bits_of (n + 1) (2 * number + bit_value side) ≡ bits_of n number ++ side ∷ []
unfolding bits_of
child_bits n number side =
    bits_of-split n 1 (2 * number + bit_value side) ∙ last_bit n number side

-- a bit more keeps the number below the power of the count
pub child_below : (len bits digit : ℕ) → bits < 2 ^ len → digit < 2 → 2 * bits + digit < 2 ^ (len + 1)
child_below len bits digit small bit =
    let more : 2 ^ suc len ≡ 2 ^ (len + 1) = ap (λ (k : ℕ). 2 ^ k) (omega arith) in
    omega (arith, double len, more)

-- below 128 bits a bit more fits a word of so many
pub child_fits : (len bits digit : ℕ) → len < 128 → bits < 2 ^ len → digit < 2 → 2 * bits + digit < 2 ^ 128
child_fits len bits digit short small bit =
    let below = child_below len bits digit small bit in
    let within : 2 ^ (len + 1) ≤ 2 ^ 128 = pow-le-pow_right {n = 2} (omega arith) {i = len + 1} {j = 128} (omega arith) in
    omega arith

-- a number of its two halves
pub halves : (number : ℕ) → number / 2 ^ 64 * 2 ^ 64 + number % 2 ^ 64 ≡ number
halves number = omega arith

pub low_bits : (n number : ℕ) → bits_of n (number % 2 ^ n) ≡ bits_of n number
low_bits n number = bits_of-same n (number % 2 ^ n) number (mod-mod number (2 ^ n))

-- a path by the number that its bits spell
pub opened : (wide : Bool) (len number bits : ℕ) (path : List Bool) → wide ∷ bits_of len number ≡ path → number < 2 ^ len → bits ≡ key_of path → path ≡ wide ∷ bits_of len bits
opened wide len number bits path view small is =
    let key : key_of path ≡ number = ap key_of (sym view) ∙ number_back len number small in
    sym view ∙ ap (λ (n : ℕ). wide ∷ bits_of len n) (sym (is ∙ key))

-- and by its parts
pub parts : (path : List Bool) (on : Bool) → IsIn on path → path ≡ tree_of path ∷ bits_of (depth path) (key_of path)
parts [] on within = absurd within
parts (wide ∷ bits) on within = ap (λ (more : List Bool). wide ∷ more) (sym (bits_of-number_of bits))

-- what a path's view tells of its fields
pub ruleset path_view = (length-bits_of, number_back, halves, upper_half, lower_half)

pub ruleset number_view = (length-bits_of, low_bits)

pub ruleset bit_view = (length-bits_of, bit_of-bits_of, bit-behind)

pub ruleset front_view = (length-bits_of, take-behind)

pub ruleset child_view = (length-bits_of, child_below, child_fits, child_bits)
