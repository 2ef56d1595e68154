-- Lists that say which numbers are free, by the leaves of the tree.
use Rattle.std.proofs.Common.{◌≡◌, ℕ, zero, suc, ◌+◌, ◌<◌, ◌==◌, Bool, true, false, List, [], ◌∷◌, length, get_or, set, replicate, Some, None, option_map, slice_index, refl, ◌∙◌, ap, arith}
use Rattle.std.proofs.lemmas.Bool.{eq-eqb, true≢false, false≢true}
use Rattle.free_numbers.specs.Free.{lowest_free}
use Rattle.free_numbers.specs.Tree.{free_from}

pub length-free_from : (k : ℕ) (leaves : List ℕ) → length (free_from k leaves) ≡ length leaves
length-free_from k [] = refl
length-free_from k (leaf ∷ leaves) = ap (λ (n : ℕ). suc n) (length-free_from (suc k) leaves)

-- whether a number is free
pub free_from-at : (k : ℕ) (leaves : List ℕ) (n : ℕ) → n < length leaves → get_or (free_from k leaves) n false ≡ (slice_index leaves n == k + n)
free_from-at k [] n within = absurd (omega arith)
free_from-at k (leaf ∷ leaves) zero within = ap (λ (m : ℕ). leaf == m) (omega arith)
free_from-at k (leaf ∷ leaves) (suc n) within = free_from-at (suc k) leaves n (omega arith) ∙ ap (λ (m : ℕ). slice_index leaves n == m) (omega arith)

-- a leaf that is written says of its own number alone
pub free_from-set : (k : ℕ) (leaves : List ℕ) (n value : ℕ) → free_from k (set leaves n value) ≡ set (free_from k leaves) n (value == k + n)
free_from-set k [] n value = refl
free_from-set k (leaf ∷ leaves) zero value = ap (λ (m : ℕ). (value == m) ∷ free_from (suc k) leaves) (omega arith)
free_from-set k (leaf ∷ leaves) (suc n) value =
    ap (λ (more : List Bool). (leaf == k) ∷ more) (free_from-set (suc k) leaves n value ∙ ap (λ (m : ℕ). set (free_from (suc k) leaves) n (value == m)) (omega arith))

-- where each leaf has its number, all are free
pub all_free : (k : ℕ) (leaves : List ℕ) → ((i : ℕ) → i < length leaves → slice_index leaves i ≡ k + i) → free_from k leaves ≡ replicate (length leaves) true
all_free k [] each = refl
all_free k (leaf ∷ leaves) each =
    let first : (leaf == k) ≡ true = eq-eqb leaf k (omega (arith, each 0 (omega arith))) in
    let more : free_from (suc k) leaves ≡ replicate (length leaves) true = all_free (suc k) leaves (λ i less. omega (arith, each (suc i) (omega (arith, less)))) in
    ap (λ (b : Bool). b ∷ free_from (suc k) leaves) first ∙ ap (λ (bs : List Bool). true ∷ bs) more

-- ---- the lowest free number

pub lowest-is : (free : List Bool) (n : ℕ) → n < length free → get_or free n false ≡ true → ((m : ℕ) → m < n → get_or free m false ≡ false) → lowest_free free ≡ Some n
lowest-is [] n within here below = absurd (omega arith)
lowest-is (true ∷ free) zero within here below = refl
lowest-is (false ∷ free) zero within here below = absurd (false≢true here)
lowest-is (true ∷ free) (suc n) within here below = absurd (true≢false (below 0 (omega arith)))
lowest-is (false ∷ free) (suc n) within here below =
    ap (option_map (λ number. suc number)) (lowest-is free n (omega arith) here (λ m less. below (suc m) (omega (arith, less))))

pub lowest-none : (free : List Bool) → ((m : ℕ) → m < length free → get_or free m false ≡ false) → lowest_free free ≡ None
lowest-none [] none = refl
lowest-none (true ∷ free) none = absurd (true≢false (none 0 (omega arith)))
lowest-none (false ∷ free) none = ap (option_map (λ number. suc number)) (lowest-none free (λ m less. none (suc m) (omega (arith, less))))
