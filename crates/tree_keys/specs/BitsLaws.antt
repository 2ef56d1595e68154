-- Laws of bits that a type seen as a list of bits owes: its two fields can be had back from the list.
use Rattle.std.proofs.Common.{◌≡◌, ℕ, zero, suc, ◌+◌, ◌*◌, ◌/◌, ◌%◌, ◌^◌, ◌<◌, ◌==◌, Bool, length, refl, sym, ◌∙◌, ap, subst, arith}
use Rattle.std.proofs.lemmas.Nat.{mod-pow-add, mod_low, shr_high}
use Rattle.tree_keys.specs.Bits.{bits_of, bit_value, number_of}

-- so many bits
pub length-bits_of : (n number : ℕ) → length (bits_of n number) ≡ n
unfolding bits_of
length-bits_of zero number = refl
length-bits_of (suc n) number = ap (λ k. suc k) (length-bits_of n number)

-- a digit in base two is what its bit counts
pub digit : (m : ℕ) → m < 2 → bit_value (m == 1) ≡ m
digit zero h = refl
digit (suc zero) h = refl
digit (suc (suc m)) h = absurd (omega arith)

-- a number below a power of two, by its highest digit and the rest
pub top_digit : (n number : ℕ) → number % 2 ^ suc n ≡ number / 2 ^ n % 2 * 2 ^ n + number % 2 ^ n
top_digit n number =
    let one : 1 + n ≡ suc n = omega arith in
    subst (λ (m : ℕ). number % 2 ^ m ≡ number / 2 ^ n % 2 * 2 ^ n + number % 2 ^ n) one (mod-pow-add number 1 n)

-- the bits of a number spell what is left of it below their width
pub number_of-bits_of : (n number : ℕ) → number_of (bits_of n number) ≡ number % 2 ^ n
unfolding bits_of number_of
number_of-bits_of zero number = omega arith
number_of-bits_of (suc n) number =
    let below : number / 2 ^ n % 2 < 2 = omega arith in
    let here = digit (number / 2 ^ n % 2) below in
    rw (length-bits_of n number) (rw here (rw (number_of-bits_of n number) (sym (top_digit n number))))

-- a number below the modulus is its own rest
pub mod_small : (n number : ℕ) → number < 2 ^ n → number % 2 ^ n ≡ number
mod_small n number small = subst (λ (m : ℕ). m % 2 ^ n ≡ number) (omega arith) (mod_low 0 n number small)

-- the number of its own bits
pub number_back : (n number : ℕ) → number < 2 ^ n → number_of (bits_of n number) ≡ number
number_back n number small = number_of-bits_of n number ∙ mod_small n number small

-- the halves of a number
pub upper_half : (high low : ℕ) → low < 2 ^ 64 → (high * 2 ^ 64 + low) / 2 ^ 64 ≡ high
upper_half high low small = shr_high high 64 low small

pub lower_half : (high low : ℕ) → low < 2 ^ 64 → (high * 2 ^ 64 + low) % 2 ^ 64 ≡ low
lower_half high low small = mod_low high 64 low small

-- what a path's list is made of can be had back from it: the count of its bits, its tree, and the halves of their number
pub fields_back : {X : Type 0} (make : ℕ → Bool → ℕ → ℕ → X) (n : ℕ) (wide : Bool) (high low : ℕ) → high * 2 ^ 64 + low < 2 ^ n → low < 2 ^ 64
    → make (length (bits_of n (high * 2 ^ 64 + low))) wide (number_of (bits_of n (high * 2 ^ 64 + low)) / 2 ^ 64) (number_of (bits_of n (high * 2 ^ 64 + low)) % 2 ^ 64)
    ≡ make n wide high low
fields_back make n wide high low small below =
    let number : ℕ = high * 2 ^ 64 + low in
    let back = number_back n (high * 2 ^ 64 + low) small in
    ap (λ (len : ℕ). make len wide (number_of (bits_of n (high * 2 ^ 64 + low)) / 2 ^ 64) (number_of (bits_of n (high * 2 ^ 64 + low)) % 2 ^ 64)) (length-bits_of n (high * 2 ^ 64 + low))
    ∙ (ap (λ (k : ℕ). make n wide (k / 2 ^ 64) (k % 2 ^ 64)) back
    ∙ (ap (λ (k : ℕ). make n wide k ((high * 2 ^ 64 + low) % 2 ^ 64)) (upper_half high low below)
    ∙ ap (λ (k : ℕ). make n wide high k) (lower_half high low below)))
