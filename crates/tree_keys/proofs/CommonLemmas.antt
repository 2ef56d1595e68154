-- The longest common prefix, by numbers and their first bit that differs.
use Rattle.std.proofs.Common.{◌≡◌, ◌≢◌, ℕ, zero, suc, ◌+◌, ◌-◌, ◌*◌, ◌/◌, ◌%◌, ◌^◌, ◌<◌, ◌≤◌, ◌==◌, min, Bool, true, false, List, [], ◌∷◌, length, take, drop, slice_get, Some, bit_xor, refl, sym, ◌∙◌, ap, subst, arith}
use Rattle.std.proofs.lemmas.Nat.{shr-shr, xor_shr, xor_mod, xor_lt, shr_high, leading_length}
use Rattle.std.proofs.lemmas.Bool.{leb-true, leb-false}
use Rattle.std.proofs.Math.Dec.{leb}
use Rattle.std.proofs.Math.Nat.{pow-suc, pow-le-pow_right}
use Rattle.std.specs.Int.{w128, leading_zeros}
use Rattle.std.specs.Int.Bits.{xor_zero_l, xor_zero_r, xor_self, xor_assoc}
use Rattle.tree_keys.specs.Bits.{bits_of, bit_value}
use Rattle.tree_keys.specs.BitsLaws.{length-bits_of, digit}
use Rattle.tree_keys.specs.Path.{common}
use Rattle.tree_keys.proofs.BitsLaws.{take-bits_of, bit_of-bits_of}
use Rattle.tree_keys.proofs.PathLaws.{common-take}

-- past the end of one path nothing is common
common-end_left : (n : ℕ) (p k : List Bool) → length p ≤ n → common (drop n p) (drop n k) ≡ []
common-end_left zero [] k end = refl
common-end_left zero (a ∷ p) k end = absurd (omega arith)
common-end_left (suc n) [] k end = refl
common-end_left (suc n) (a ∷ p) [] end = at_end (drop n p)
  where
    at_end : (q : List Bool) → common q [] ≡ []
    at_end [] = refl
    at_end (b ∷ q) = refl
common-end_left (suc n) (a ∷ p) (b ∷ k) end = common-end_left n p k (omega arith)

common-nil : (q : List Bool) → common q [] ≡ []
common-nil [] = refl
common-nil (b ∷ q) = refl

common-end_right : (n : ℕ) (p k : List Bool) → length k ≤ n → common (drop n p) (drop n k) ≡ []
common-end_right zero p [] end = common-nil p
common-end_right zero p (b ∷ k) end = absurd (omega arith)
common-end_right (suc n) [] k end = refl
common-end_right (suc n) (a ∷ p) [] end = common-nil (drop n p)
common-end_right (suc n) (a ∷ p) (b ∷ k) end = common-end_right n p k (omega arith)

-- where two bits differ nothing more is common
common-apart : (n : ℕ) (p k : List Bool) (x y : Bool) → slice_get p n ≡ Some x → slice_get k n ≡ Some y → x ≢ y → common (drop n p) (drop n k) ≡ []
common-apart zero [] k x y at_p at_k apart = refl
common-apart zero (a ∷ p) [] x y at_p at_k apart = refl
common-apart zero (true ∷ p) (true ∷ k) x y at_p at_k apart = absurd (apart cc)
common-apart zero (true ∷ p) (false ∷ k) x y at_p at_k apart = refl
common-apart zero (false ∷ p) (true ∷ k) x y at_p at_k apart = refl
common-apart zero (false ∷ p) (false ∷ k) x y at_p at_k apart = absurd (apart cc)
common-apart (suc n) [] k x y at_p at_k apart = refl
common-apart (suc n) (a ∷ p) [] x y at_p at_k apart = common-nil (drop n p)
common-apart (suc n) (a ∷ p) (b ∷ k) x y at_p at_k apart = common-apart n p k x y at_p at_k apart

-- digits that differ are bits that differ
digits_apart : (u v : ℕ) → u % 2 ≢ v % 2 → (u % 2 == 1) ≢ (v % 2 == 1)
digits_apart u v apart same =
    let first : u % 2 < 2 = omega arith in
    let second : v % 2 < 2 = omega arith in
    apart (sym (digit (u % 2) first) ∙ (ap bit_value same ∙ digit (v % 2) second))

-- numbers whose xor is 0 are one
xor_apart : (a b : ℕ) → bit_xor a b ≡ 0 → a ≡ b
xor_apart a b none =
    sym (xor_zero_r a) ∙ (ap (bit_xor a) (sym none) ∙ (sym (xor_assoc a a b) ∙ (ap (λ (x : ℕ). bit_xor x b) (xor_self a) ∙ xor_zero_l b)))

-- ---- how many first bits two numbers share, by the leading zeros of their xor

-- what the leading zeros of a number say: it has so many bits
pub record w128idth (count x zeros m : ℕ) : Type 0 where
  pub whole : zeros + m ≡ 128
  pub within : m ≤ count
  pub below : x < 2 ^ m
  pub reached : 2 ^ m ≤ 2 * x + 1

pub width_of : (count x : ℕ) → count ≤ 128 → x < 2 ^ count → (m : ℕ) × w128idth count x (leading_zeros w128 x) m
width_of count x fits small =
    let wide : 2 ^ count ≤ 2 ^ 128 = pow-le-pow_right {n = 2} (omega arith) {i = count} {j = 128} fits in
    let found = leading_length 128 x (omega arith) in
    (found.0, record { whole = found.1; within = not_past count x found.0 small found.3; below = found.2; reached = found.3 })
  where
    not_past : (n y k : ℕ) → y < 2 ^ n → 2 ^ k ≤ 2 * y + 1 → k ≤ n
    not_past n y k below reached = go (leb k n) refl
      where
        go : (b : Bool) → leb k n ≡ b → k ≤ n
        go true is = leb-true k n is
        go false is =
            let past : n < k = leb-false k n is in
            let wider : 2 ^ suc n ≤ 2 ^ k = pow-le-pow_right {n = 2} (omega arith) {i = suc n} {j = k} past in
            absurd (omega (arith, pow-suc 2 n))

-- a number below a power has nothing from there on
none_above : (x m : ℕ) → x < 2 ^ m → x / 2 ^ m ≡ 0
none_above x m below = ap (λ (n : ℕ). n / 2 ^ m) (omega arith) ∙ shr_high 0 m x below

-- above their width the numbers are one
pub shared_same : (a b m : ℕ) → bit_xor a b < 2 ^ m → a / 2 ^ m ≡ b / 2 ^ m
shared_same a b m below = xor_apart (a / 2 ^ m) (b / 2 ^ m) (sym (xor_shr a b m) ∙ none_above (bit_xor a b) m below)

-- a number with so many bits has its highest one set
top_set : (x j : ℕ) → x < 2 ^ suc j → 2 ^ suc j ≤ 2 * x + 1 → x / 2 ^ j ≡ 1
top_set x j below reached =
    let double = pow-suc 2 j in
    let rest : x - 2 ^ j < 2 ^ j = omega (arith, double) in
    ap (λ (n : ℕ). n / 2 ^ j) (omega (arith, double)) ∙ shr_high 1 j (x - 2 ^ j) rest

-- the highest bit of the xor is one in which they differ
pub shared_apart : (a b j : ℕ) → bit_xor a b < 2 ^ suc j → 2 ^ suc j ≤ 2 * bit_xor a b + 1 → a / 2 ^ j % 2 ≢ b / 2 ^ j % 2
shared_apart a b j below reached same =
    let set : bit_xor (a / 2 ^ j) (b / 2 ^ j) ≡ 1 = sym (xor_shr a b j) ∙ top_set (bit_xor a b) j below reached in
    let digits : bit_xor (a / 2 ^ j % 2) (b / 2 ^ j % 2) ≡ 1 =
    sym (xor_mod (a / 2 ^ j) (b / 2 ^ j) 1) ∙ ap (λ (n : ℕ). n % 2) set in
    let none : bit_xor (a / 2 ^ j % 2) (b / 2 ^ j % 2) ≡ 0 = ap (λ (n : ℕ). bit_xor n (b / 2 ^ j % 2)) same ∙ xor_self (b / 2 ^ j % 2) in
    absurd (omega arith)

-- ---- the common prefix of paths that are given by numbers

pub common_of : (m a n b w s own others : ℕ) → w ≡ min m n → own ≡ a / 2 ^ (m - w) → others ≡ b / 2 ^ (n - w) → s ≤ w → own / 2 ^ (w - s) ≡ others / 2 ^ (w - s)
    → (s < w → own / 2 ^ (w - s - 1) % 2 ≢ others / 2 ^ (w - s - 1) % 2) → common (bits_of m a) (bits_of n b) ≡ take s (bits_of m a)
common_of m a n b w s own others least is_own is_others within same apart =
    common-take s (bits_of m a) (bits_of n b) (omega (arith, count, in_own)) (omega (arith, other, in_others)) front rest
  where
    count : length (bits_of m a) ≡ m
    count = length-bits_of m a

    other : length (bits_of n b) ≡ n
    other = length-bits_of n b

    in_own : w ≤ m
    in_own = omega arith

    in_others : w ≤ n
    in_others = omega arith

    own_at : (d : ℕ) → d ≤ w → own / 2 ^ (w - d) ≡ a / 2 ^ (m - d)
    own_at d short = ap (λ (x : ℕ). x / 2 ^ (w - d)) is_own ∙ (shr-shr a (m - w) (w - d) ∙ ap (λ (k : ℕ). a / 2 ^ k) (omega arith))

    others_at : (d : ℕ) → d ≤ w → others / 2 ^ (w - d) ≡ b / 2 ^ (n - d)
    others_at d short = ap (λ (x : ℕ). x / 2 ^ (w - d)) is_others ∙ (shr-shr b (n - w) (w - d) ∙ ap (λ (k : ℕ). b / 2 ^ k) (omega arith))

    front : take s (bits_of m a) ≡ take s (bits_of n b)
    front = take-bits_of m s a (omega arith) ∙ (ap (bits_of s) (sym (own_at s within) ∙ (same ∙ others_at s within)) ∙ sym (take-bits_of n s b (omega arith)))

    rest : common (drop s (bits_of m a)) (drop s (bits_of n b)) ≡ []
    rest = go (leb (suc s) w) refl
      where
        go : (inside : Bool) → leb (suc s) w ≡ inside → common (drop s (bits_of m a)) (drop s (bits_of n b)) ≡ []
        go true is =
            let short : s < w = leb-true (suc s) w is in
            let own_next : own / 2 ^ (w - s - 1) ≡ a / 2 ^ (m - 1 - s) =
            ap (λ (k : ℕ). own / 2 ^ k) (omega arith) ∙ (own_at (suc s) short ∙ ap (λ (k : ℕ). a / 2 ^ k) (omega arith)) in
            let others_next : others / 2 ^ (w - s - 1) ≡ b / 2 ^ (n - 1 - s) =
            ap (λ (k : ℕ). others / 2 ^ k) (omega arith) ∙ (others_at (suc s) short ∙ ap (λ (k : ℕ). b / 2 ^ k) (omega arith)) in
            common-apart s (bits_of m a) (bits_of n b) _ _ (bit_of-bits_of m s a (omega (arith, in_own))) (bit_of-bits_of n s b (omega (arith, in_others)))
            (digits_apart (a / 2 ^ (m - 1 - s)) (b / 2 ^ (n - 1 - s))
            (λ alike. apart short (ap (λ (k : ℕ). k % 2) own_next ∙ (alike ∙ ap (λ (k : ℕ). k % 2) (sym others_next)))))
        go false is = at_end (leb m n) refl
          where
            whole : s ≡ w
            whole = omega (arith, leb-false (suc s) w is)

            at_end : (first : Bool) → leb m n ≡ first → common (drop s (bits_of m a)) (drop s (bits_of n b)) ≡ []
            at_end true first = common-end_left s (bits_of m a) (bits_of n b) (omega (arith, count, whole, leb-true m n first))
            at_end false first = common-end_right s (bits_of m a) (bits_of n b) (omega (arith, other, whole, leb-false m n first))

-- the same of paths of one tree
pub common_paths : (v w : Bool) (m a n b count s own others : ℕ) → v ≡ w → count ≡ min m n → own ≡ a / 2 ^ (m - count) → others ≡ b / 2 ^ (n - count) → s ≤ count
    → own / 2 ^ (count - s) ≡ others / 2 ^ (count - s) → (s < count → own / 2 ^ (count - s - 1) % 2 ≢ others / 2 ^ (count - s - 1) % 2)
    → common (v ∷ bits_of m a) (w ∷ bits_of n b) ≡ take (1 + s) (v ∷ bits_of m a)
common_paths v w m a n b count s own others trees least is_own is_others within same apart =
    let more : suc s ≡ 1 + s = omega arith in
    subst (λ (k : ℕ). common (v ∷ bits_of m a) (w ∷ bits_of n b) ≡ take k (v ∷ bits_of m a)) more
    (subst (λ (x : Bool). common (v ∷ bits_of m a) (x ∷ bits_of n b) ≡ v ∷ take s (bits_of m a)) trees
    (one_tree v (bits_of m a) (bits_of n b) ∙ ap (λ (bits : List Bool). v ∷ bits) (common_of m a n b count s own others least is_own is_others within same apart)))
  where
    one_tree : (x : Bool) (p k : List Bool) → common (x ∷ p) (x ∷ k) ≡ x ∷ common p k
    one_tree true p k = refl
    one_tree false p k = refl

pub ruleset common_view = (length-bits_of, common_paths)

-- ---- the same of the count that the code takes

pub shared_within : (count a b : ℕ) → count ≤ 128 → a < 2 ^ count → b < 2 ^ count → 128 - count ≤ leading_zeros w128 (bit_xor a b)
shared_within count a b fits small_a small_b =
    let found = width_of count (bit_xor a b) fits (xor_lt count a b small_a small_b) in
    omega (arith, found.1.whole, found.1.within)

pub shared_same_at : (count a b s : ℕ) → count ≤ 128 → a < 2 ^ count → b < 2 ^ count → s ≡ leading_zeros w128 (bit_xor a b) - (128 - count) → a / 2 ^ (count - s) ≡ b / 2 ^ (count - s)
shared_same_at count a b s fits small_a small_b is =
    let found = width_of count (bit_xor a b) fits (xor_lt count a b small_a small_b) in
    let at : found.0 ≡ count - s = omega (arith, found.1.whole, found.1.within) in
    subst (λ (m : ℕ). a / 2 ^ m ≡ b / 2 ^ m) at (shared_same a b found.0 found.1.below)

pub shared_apart_at : (count a b s : ℕ) → count ≤ 128 → a < 2 ^ count → b < 2 ^ count → s ≡ leading_zeros w128 (bit_xor a b) - (128 - count) → s < count
    → a / 2 ^ (count - s - 1) % 2 ≢ b / 2 ^ (count - s - 1) % 2
shared_apart_at count a b s fits small_a small_b is short =
    let found = width_of count (bit_xor a b) fits (xor_lt count a b small_a small_b) in
    let at : found.0 ≡ suc (count - s - 1) = omega (arith, found.1.whole, found.1.within) in
    shared_apart a b (count - s - 1)
    (subst (λ (m : ℕ). bit_xor a b < 2 ^ m) at found.1.below)
    (subst (λ (m : ℕ). 2 ^ m ≤ 2 * bit_xor a b + 1) at found.1.reached)

pub ruleset shared_view = (shared_within, shared_same_at, shared_apart_at)
