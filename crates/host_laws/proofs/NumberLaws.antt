-- The numbers that the bits of paths spell, and those of the counters below them.
use Rattle.std.proofs.Common.{◌≡◌, ℕ, suc, ◌+◌, ◌*◌, ◌^◌, Bool, true, false, List, [], ◌∷◌, ◌++◌, length, refl, sym, ◌∙◌, ap, arith}
use Rattle.std.proofs.lemmas.List.{length-append}
use Rattle.std.proofs.Math.Nat.{pow-suc}
use Rattle.tree_keys.specs.Bits.{bit_value, number_of}
use Rattle.tree_keys.specs.Path.{IsIn, key_of}
use Rattle.host_plan.specs.Setup.{child}

pub number_of-none : number_of [] ≡ 0
unfolding number_of
number_of-none = refl

-- a side behind a path
pub number_of-child : (path : List Bool) (on : Bool) → number_of (child path on) ≡ 2 * number_of path + bit_value on
unfolding number_of
number_of-child [] true = refl
number_of-child [] false = refl
number_of-child (true ∷ path) on =
    let rest = number_of-child path on in
    let longer : length (path ++ on ∷ []) ≡ suc (length path) = omega (arith, length-append path (on ∷ [])) in
    ap (λ (n : ℕ). 1 * 2 ^ n + number_of (path ++ on ∷ [])) longer ∙ omega (arith, rest, pow-suc 2 (length path))
number_of-child (false ∷ path) on =
    let rest = number_of-child path on in
    omega (arith, rest)

-- and so behind a path of a tree
pub key_of-child : (wide : Bool) (path : List Bool) (on : Bool) → IsIn wide path → key_of (child path on) ≡ 2 * key_of path + bit_value on
key_of-child wide [] on within = absurd within
key_of-child wide (first ∷ bits) on within = number_of-child bits on

-- counters below a path: those of its two children
pub count_first : (n m p levels : ℕ) → m ≡ 2 * n + 0 → p ≡ 2 ^ levels → m * p ≡ n * 2 ^ suc levels
count_first n m p levels is power =
    let double : 2 ^ suc levels ≡ p + p = omega (arith, pow-suc 2 levels, power) in
    ap (λ (k : ℕ). k * p) is ∙ (omega arith ∙ ap (λ (k : ℕ). n * k) (sym double))

pub count_between : (n m k p : ℕ) → m ≡ 2 * n + 0 → k ≡ 2 * n + 1 → (m + 1) * p ≡ k * p
count_between n m k p is also = ap (λ (j : ℕ). j * p) (omega (arith, is, also))

pub count_last : (n k p levels : ℕ) → k ≡ 2 * n + 1 → p ≡ 2 ^ levels → (k + 1) * p ≡ (n + 1) * 2 ^ suc levels
count_last n k p levels is power =
    let double : 2 ^ suc levels ≡ p + p = omega (arith, pow-suc 2 levels, power) in
    ap (λ (j : ℕ). (j + 1) * p) is ∙ (omega arith ∙ ap (λ (j : ℕ). (n + 1) * j) (sym double))
