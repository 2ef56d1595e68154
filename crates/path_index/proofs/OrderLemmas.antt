-- The order of paths by their lengths, the numbers that their bits spell, and their trees.
use Rattle.std.proofs.Common.{◌≡◌, ◌≢◌, ℕ, ◌+◌, ◌*◌, ◌^◌, ◌<◌, Bool, true, false, List, refl, sym, ap, arith}
use mathlib.Core.Bool.{beq}
use Rattle.std.proofs.lemmas.Bool.{false≢true}
use Rattle.tree_keys.specs.Bits.{bit_value}
use Rattle.tree_keys.specs.Path.{depth, tree_of, key_of}
use Rattle.path_index.specs.Order.{order_of}

by_len : (a b w v s t : ℕ) → w < 2 ^ 128 → s < 2 → a < b → a * 2 ^ 129 + w * 2 + s < b * 2 ^ 129 + v * 2 + t
by_len a b w v s t small bit shorter = omega arith

by_bits : (a b w v s t : ℕ) → s < 2 → a ≡ b → w < v → a * 2 ^ 129 + w * 2 + s < b * 2 ^ 129 + v * 2 + t
by_bits a b w v s t bit len less = omega arith

bit_small : (on : Bool) → bit_value on < 2
bit_small true = omega arith
bit_small false = omega arith

-- what is known of a path: its length, the number of its bits and its tree
pub record Told (len bits : ℕ) (wide : Bool) (path : List Bool) : Type 0 where
  pub len_is : len ≡ depth path
  pub bits_are : bits ≡ key_of path
  pub wide_is : wide ≡ tree_of path

pub told : {len bits : ℕ} {wide : Bool} {path : List Bool} → len ≡ depth path → bits ≡ key_of path → wide ≡ tree_of path → Told len bits wide path
told is_len are_bits is_wide = record { len_is = is_len; bits_are = are_bits; wide_is = is_wide }

-- the number by which it comes in the order
order_is : (m w : ℕ) (s : Bool) (p : List Bool) → Told m w s p → order_of p ≡ m * 2 ^ 129 + w * 2 + bit_value s
unfolding order_of
order_is m w s p told =
    omega (arith, ap (λ (n : ℕ). n * 2 ^ 129) told.len_is, told.bits_are, ap bit_value told.wide_is)

-- a shorter path comes before
pub before_by_len : (m n w v : ℕ) (s t : Bool) (p k : List Bool) → Told m w s p → Told n v t k → w < 2 ^ 128 → m < n → order_of p < order_of k
before_by_len m n w v s t p k told also small shorter =
    omega (arith, order_is m w s p told, order_is n v t k also, by_len m n w v (bit_value s) (bit_value t) small (bit_small s) shorter)

-- of one length, the one whose bits spell the smaller number
pub before_by_bits : (m n w v : ℕ) (s t : Bool) (p k : List Bool) → Told m w s p → Told n v t k → m ≡ n → w < v → order_of p < order_of k
before_by_bits m n w v s t p k told also len less =
    omega (arith, order_is m w s p told, order_is n v t k also, by_bits m n w v (bit_value s) (bit_value t) (bit_small s) len less)

-- of one number, the one whose tree is that of the shorter keys
pub before_by_tree : (m n w v : ℕ) (s t : Bool) (p k : List Bool) → Told m w s p → Told n v t k → m ≡ n → w ≡ v → s ≡ false → s ≢ t → order_of p < order_of k
before_by_tree m n w v true t p k told also len bits narrow apart = absurd (apart cc)
before_by_tree m n w v false true p k told also len bits narrow apart =
    omega (arith, order_is m w false p told, order_is n v true k also, ap (λ (d : ℕ). d * 2 ^ 129) len, bits)
before_by_tree m n w v false false p k told also len bits narrow apart = absurd (apart refl)

-- trees that a test tells apart
pub trees_apart : (s t : Bool) → beq s t ≡ false → s ≢ t
trees_apart true true differ = absurd (false≢true (sym differ))
trees_apart true false differ = λ same. false≢true (sym same)
trees_apart false true differ = λ same. false≢true same
trees_apart false false differ = absurd (false≢true (sym differ))

pub other_tree : (s t : Bool) → s ≡ true → s ≢ t → t ≡ false
other_tree s true wide apart = absurd (apart wide)
other_tree s false wide apart = refl
