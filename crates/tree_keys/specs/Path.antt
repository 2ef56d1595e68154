-- Paths of two trees, how they lie to each other, by their bits alone, and a path in a word of its tree's width.
--
-- A path is a list of bits. The first says of which tree it is: false of the tree whose keys have 64 bits, true of the one
-- whose keys have 128. The others lead on from the root of that tree, so its root is that one bit alone. The empty list is
-- above both trees and of neither.
use Rattle.std.specs.Prelude.{◌≡◌, ◌<◌, ◌≤◌, ℕ, ◌-◌, ◌*◌, ◌/◌, ◌%◌, ◌^◌, ◌==◌, nat_le, ◌&&◌, Bool, true, false, List, [], ◌∷◌, length, Option, Some, None, IsSome, if◌then◌else◌}
use Rattle.tree_keys.specs.Bits.{bits_of, number_of}

-- the number of bits of a tree's keys
abbrev pub key_bits : Bool → ℕ
key_bits false = 64
key_bits true = 128

-- how many bits lead from the root of its tree to a path
abbrev pub depth : List Bool → ℕ
depth [] = 0
depth (wide ∷ bits) = length bits

-- of which tree a path is
abbrev pub tree_of : List Bool → Bool
tree_of [] = false
tree_of (wide ∷ bits) = wide

-- a path of this tree
abbrev pub IsIn : Bool → List Bool → Type 0
IsIn wide [] = ⊥
IsIn wide (first ∷ bits) = first ≡ wide

-- no longer than the keys of its tree
abbrev pub IsPath : List Bool → Type 0
IsPath [] = Unit {0}
IsPath (wide ∷ bits) = length bits ≤ key_bits wide

-- a data path: it has all bits of a key
abbrev pub IsData : List Bool → Type 0
IsData [] = ⊥
IsData (wide ∷ bits) = length bits ≡ key_bits wide

-- the same as a test
abbrev pub is_data : List Bool → Bool
is_data [] = false
is_data (wide ∷ bits) = length bits == key_bits wide

-- the path of a node: it is shorter than a key
abbrev pub IsNodePath : List Bool → Type 0
IsNodePath [] = Unit {0}
IsNodePath (wide ∷ bits) = length bits < key_bits wide

-- the root of a tree
abbrev pub root_of : Bool → List Bool
root_of wide = wide ∷ []

-- the data path of a key of a tree
abbrev pub key_path : Bool → ℕ → List Bool
key_path wide key = wide ∷ bits_of (key_bits wide) key

-- the key of a data path: the number that the bits behind the first spell
abbrev pub key_of : List Bool → ℕ
key_of [] = 0
key_of (wide ∷ bits) = number_of bits

-- The fields of a path: how many bits lead to it, its tree, and the upper and the lower half of the number that they spell. No
-- other path has all four, and those of the empty list are of no tree's path.
abbrev pub with_fields : {X : Type 0} → (ℕ → Bool → ℕ → ℕ → X) → List Bool → X
with_fields make [] = make 0 false 0 1
with_fields make (wide ∷ bits) = make (length bits) wide (number_of bits / 2 ^ 64) (number_of bits % 2 ^ 64)

-- two bits are the same
abbrev pub same_bit : Bool → Bool → Bool
same_bit true b = b
same_bit false true = false
same_bit false false = true

-- two paths are the same
abbrev pub same_path : List Bool → List Bool → Bool
same_path [] [] = true
same_path [] (b ∷ k) = false
same_path (a ∷ p) [] = false
same_path (a ∷ p) (b ∷ k) = if same_bit a b then same_path p k else false

-- the side of p on which k lies properly below it: the bit of k behind p, where p is a proper prefix
abbrev pub side : List Bool → List Bool → Option Bool
side [] [] = None
side [] (b ∷ k) = Some b
side (a ∷ p) [] = None
side (a ∷ p) (b ∷ k) = if same_bit a b then side p k else None

-- p is a proper prefix of k
abbrev pub IsBelow : List Bool → List Bool → Type 0
IsBelow p k = IsSome (side p k)

-- p is a prefix of k, and may be k itself
abbrev pub is_prefix : List Bool → List Bool → Bool
is_prefix [] k = true
is_prefix (a ∷ p) [] = false
is_prefix (a ∷ p) (b ∷ k) = if same_bit a b then is_prefix p k else false

-- the longest path that is a prefix of both
abbrev pub common : List Bool → List Bool → List Bool
common [] k = []
common (a ∷ p) [] = []
common (a ∷ p) (b ∷ k) = if same_bit a b then a ∷ common p k else []

-- A path in a word of its tree's width: the bits behind the first come first, and the unused bits are 0.
abbrev pub word_of : List Bool → ℕ
word_of [] = 0
word_of (wide ∷ bits) = number_of bits * 2 ^ (key_bits wide - length bits)

-- The path of a tree that so many bits of a word lead to: it is one where the unused bits are 0.
abbrev pub path_in_word : Bool → ℕ → ℕ → Option (List Bool)
path_in_word wide count word =
    if nat_le count (key_bits wide) && (word % 2 ^ (key_bits wide - count) == 0)
    then Some (wide ∷ bits_of count (word / 2 ^ (key_bits wide - count)))
    else None
