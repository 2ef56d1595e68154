-- Records in the order in which std's ordered map has them.
use Rattle.std.proofs.Common.{◌≡◌, ◌⊎◌, ℕ, ◌+◌, ◌*◌, ◌/◌, ◌%◌, ◌^◌, ◌<◌, Bool, true, false, List, [], ◌∷◌, map, length, inl, inr, mod-lt, arith}
use Rattle.std.proofs.lemmas.Bool.Decides.{nat_tests}
use Rattle.std.specs.List.{AllByRecursion}
use Rattle.std.specs.List.Sorted.{IsStrictlySortedBy}
use Rattle.std.specs.Ordering.{nat_cmp, bool_cmp, ordering_then}
use Rattle.std.specs.declared.cmp.Ordering.{Ordering}
use Rattle.std.specs.declared.cmp.Ordering.TheVariants.{Less, Equal, Greater}
use Rattle.tree_keys.specs.Bits.{number_of}
use Rattle.tree_keys.specs.contracts.path.PathOrd.TheImpl as block
use Rattle.host_shard.specs.Records.{Listed, IsLower, IsBefore, AreInOrder}
use Rattle.host_shard.specs.declared.record.Record.{Record}

-- the first of two comparisons that tells, and the other
first_less : (a b : ℕ) (rest : Ordering) → ordering_then (nat_cmp a b) rest ≡ Less → (a < b) ⊎ ((a ≡ b) × (rest ≡ Less))
first_less a b Less less = grind (arith, nat_tests)
first_less a b Equal less = grind (arith, nat_tests)
first_less a b Greater less = grind (arith, nat_tests)

less : (a b : ℕ) → nat_cmp a b ≡ Less → a < b
less a b is = grind (arith, nat_tests)

-- the lower of two numbers, by their halves
lower_halves : (a b c d : ℕ) → c < 2 ^ 64 → ordering_then (nat_cmp a b) (nat_cmp c d) ≡ Less → a * 2 ^ 64 + c < b * 2 ^ 64 + d
lower_halves a b c d small is = go (first_less a b (nat_cmp c d) is)
  where
    go : (a < b) ⊎ ((a ≡ b) × (nat_cmp c d ≡ Less)) → a * 2 ^ 64 + c < b * 2 ^ 64 + d
    go (inl higher) = omega (arith, higher, small)
    go (inr same) = omega (arith, same.0, less c d same.1)

lower : (s t : Bool) (a b c d : ℕ) → c < 2 ^ 64 → ordering_then (bool_cmp s t) (ordering_then (nat_cmp a b) (nat_cmp c d)) ≡ Less
    → IsLower s (a * 2 ^ 64 + c) t (b * 2 ^ 64 + d)
lower false true a b c d small is = tt
lower true false a b c d small is = absurd (cc)
lower false false a b c d small is = lower_halves a b c d small is
lower true true a b c d small is = lower_halves a b c d small is

fields_before : (m n : ℕ) (s t : Bool) (a b c d : ℕ) → c < 2 ^ 64
    → ordering_then (nat_cmp m n) (ordering_then (bool_cmp s t) (ordering_then (nat_cmp a b) (nat_cmp c d))) ≡ Less
    → (m < n) ⊎ ((m ≡ n) × IsLower s (a * 2 ^ 64 + c) t (b * 2 ^ 64 + d))
fields_before m n s t a b c d small is = go (first_less m n _ is)
  where
    go : (m < n) ⊎ ((m ≡ n) × (ordering_then (bool_cmp s t) (ordering_then (nat_cmp a b) (nat_cmp c d)) ≡ Less)) → (m < n) ⊎ ((m ≡ n) × IsLower s (a * 2 ^ 64 + c) t (b * 2 ^ 64 + d))
    go (inl shorter) = inl shorter
    go (inr same) = inr (same.0, lower s t a b c d small same.1)

low_half : (n : ℕ) → n % 2 ^ 64 < 2 ^ 64
low_half n = mod-lt n (omega arith)

before : (p k : List Bool) → block.ghosts.cmp p k ≡ Less → IsBefore p k
before [] [] is = fields_before 0 0 false false 0 0 1 1 (omega arith) is
before [] (b ∷ k) is = fields_before 0 (length k) false b 0 (number_of k / 2 ^ 64) 1 (number_of k % 2 ^ 64) (omega arith) is
before (a ∷ p) [] is = fields_before (length p) 0 a false (number_of p / 2 ^ 64) 0 (number_of p % 2 ^ 64) 1 (low_half (number_of p)) is
before (a ∷ p) (b ∷ k) is =
    fields_before (length p) (length k) a b (number_of p / 2 ^ 64) (number_of k / 2 ^ 64) (number_of p % 2 ^ 64) (number_of k % 2 ^ 64) (low_half (number_of p)) is

all_before : (p : List Bool) (listed : Listed) → AllByRecursion (λ k. block.ghosts.cmp p k ≡ Less) (map (λ (e : List Bool × Record). e.0) listed)
    → AllByRecursion (λ (e : List Bool × Record). IsBefore p e.0) listed
all_before p [] all = tt
all_before p (e ∷ listed) all = (before p e.0 all.0, all_before p listed all.1)

pub sorted_in_order : (listed : Listed) → IsStrictlySortedBy block.ghosts.cmp (map (λ (e : List Bool × Record). e.0) listed) → AreInOrder listed
unfolding IsStrictlySortedBy
sorted_in_order [] sorted = tt
sorted_in_order (e ∷ listed) sorted = (all_before e.0 listed sorted.0, sorted_in_order listed sorted.1)
