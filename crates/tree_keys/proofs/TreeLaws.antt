-- Of which tree paths are, and which of them are data paths and which are nodes.
use Rattle.std.proofs.Common.{◌≡◌, ◌≢◌, ℕ, suc, ◌+◌, ◌-◌, ◌*◌, ◌^◌, ◌<◌, Bool, true, false, List, [], ◌∷◌, ◌++◌, length, Some, refl, sym, ◌∙◌, ap, subst, arith}
use Rattle.std.proofs.lemmas.Bool.{false≢true, eq-eqb, eqb-true, ne_eqb}
use Rattle.std.proofs.lemmas.Option.{none-some}
use Rattle.std.proofs.lemmas.List.{length-append}
use Rattle.std.proofs.lemmas.Nat.{shl_below}
use Rattle.tree_keys.specs.Bits.{bits_of, number_of}
use Rattle.tree_keys.specs.BitsLaws.{length-bits_of, number_back}
use Rattle.tree_keys.specs.Path.{key_bits, depth, tree_of, IsIn, IsPath, IsData, is_data, IsNodePath, key_path, key_of, side, is_prefix, word_of}
use Rattle.tree_keys.proofs.BitsLaws.{number_of-lt, bits_of-number_of, bits_of-injective}
use Rattle.tree_keys.proofs.SideLaws.{prefix_of_side}

-- a path of a tree is a bit longer than its depth
pub length-in : (wide : Bool) (path : List Bool) → IsIn wide path → length path ≡ suc (depth path)
length-in wide [] within = absurd within
length-in wide (first ∷ bits) within = refl

-- of no more than one tree
pub tree-in : (wide : Bool) (path : List Bool) → IsIn wide path → tree_of path ≡ wide
tree-in wide [] within = absurd within
tree-in wide (first ∷ bits) within = within

-- a path of a tree is of the tree that its first bit says
pub in-tree : (wide other : Bool) (path : List Bool) → IsIn other path → tree_of path ≡ wide → IsIn wide path
in-tree wide other [] within is = absurd within
in-tree wide other (first ∷ bits) within is = is

-- what has a path of a tree as a prefix is of that tree
pub in-prefix : (wide : Bool) (p k : List Bool) → IsIn wide p → is_prefix p k ≡ true → IsIn wide k
in-prefix wide [] k within is = absurd within
in-prefix wide (first ∷ p) [] within is = absurd (false≢true is)
in-prefix wide (true ∷ p) (true ∷ k) within is = within
in-prefix wide (true ∷ p) (false ∷ k) within is = absurd (false≢true is)
in-prefix wide (false ∷ p) (true ∷ k) within is = absurd (false≢true is)
in-prefix wide (false ∷ p) (false ∷ k) within is = within

-- and so is what lies below it
pub in-below : (wide : Bool) (p k : List Bool) (on : Bool) → IsIn wide p → side p k ≡ Some on → IsIn wide k
in-below wide p k on within is = in-prefix wide p k within (prefix_of_side p k on is)

-- a bit more, and it is of the same tree
pub in-child : (wide : Bool) (path : List Bool) (on : Bool) → IsIn wide path → IsIn wide (path ++ on ∷ [])
in-child wide [] on within = absurd within
in-child wide (first ∷ bits) on within = within

-- a bit more, and it is a bit deeper
pub depth-child : (wide : Bool) (path : List Bool) (on : Bool) → IsIn wide path → depth (path ++ on ∷ []) ≡ suc (depth path)
depth-child wide [] on within = absurd within
depth-child wide (first ∷ bits) on within = omega (arith, length-append bits (on ∷ []))

-- below a node's path a bit more is a path
pub path-child : (path : List Bool) (on : Bool) → IsNodePath path → IsPath (path ++ on ∷ [])
path-child [] true short = omega arith
path-child [] false short = omega arith
path-child (wide ∷ bits) on short = omega (arith, length-append bits (on ∷ []))

-- data paths and nodes' paths are paths
pub data-path : (path : List Bool) → IsData path → IsPath path
data-path [] whole = absurd whole
data-path (wide ∷ bits) whole = omega arith

pub node-path : (path : List Bool) → IsNodePath path → IsPath path
node-path [] short = tt
node-path (wide ∷ bits) short = omega arith

-- the test finds data paths
pub data-is : (path : List Bool) → IsData path → is_data path ≡ true
data-is [] whole = absurd whole
data-is (wide ∷ bits) whole = eq-eqb (length bits) (key_bits wide) whole

pub is-data : (path : List Bool) → is_data path ≡ true → IsData path
is-data [] is = absurd (false≢true is)
is-data (wide ∷ bits) is = eqb-true (length bits) (key_bits wide) is

-- and no nodes
pub node-is : (path : List Bool) → IsNodePath path → is_data path ≡ false
node-is [] short = refl
node-is (wide ∷ bits) short = ne_eqb (length bits) (key_bits wide) (λ same. absurd (omega arith))

-- a path that the test doesn't find is a node's
pub is-node : (path : List Bool) → IsPath path → is_data path ≡ false → IsNodePath path
is-node [] fits is = tt
is-node (wide ∷ bits) fits is =
    let apart : length bits ≢ key_bits wide = λ same. false≢true (sym is ∙ eq-eqb (length bits) (key_bits wide) same) in
    omega (arith, apart)

-- none is both
pub data-no_node : (path : List Bool) → IsData path → IsNodePath path → ⊥
data-no_node [] whole short = whole
data-no_node (wide ∷ bits) whole short = omega arith

-- what lies below a path is longer
pub shorter : (p k : List Bool) (on : Bool) → side p k ≡ Some on → length p < length k
shorter [] [] on is = absurd (none-some on is)
shorter [] (b ∷ k) on is = omega arith
shorter (a ∷ p) [] on is = absurd (none-some on is)
shorter (true ∷ p) (true ∷ k) on is = omega (arith, shorter p k on is)
shorter (true ∷ p) (false ∷ k) on is = absurd (none-some on is)
shorter (false ∷ p) (true ∷ k) on is = absurd (none-some on is)
shorter (false ∷ p) (false ∷ k) on is = omega (arith, shorter p k on is)

-- what a path lies below is a node's path
pub node-above : (p k : List Bool) (on : Bool) → side p k ≡ Some on → IsPath k → IsNodePath p
node-above [] k on is fits = tt
node-above (wide ∷ p) [] on is fits = absurd (none-some on is)
node-above (true ∷ p) (true ∷ k) on is fits = omega (arith, shorter p k on is)
node-above (true ∷ p) (false ∷ k) on is fits = absurd (none-some on is)
node-above (false ∷ p) (true ∷ k) on is fits = absurd (none-some on is)
node-above (false ∷ p) (false ∷ k) on is fits = omega (arith, shorter p k on is)

-- the path of a key is a data path of its tree
pub key_path-data : (wide : Bool) (key : ℕ) → IsData (key_path wide key)
key_path-data wide key = length-bits_of (key_bits wide) key

-- keys are told apart by their paths
pub key_path-injective : (wide : Bool) (a b : ℕ) → a < 2 ^ key_bits wide → b < 2 ^ key_bits wide → key_path wide a ≡ key_path wide b → a ≡ b
key_path-injective wide a b small also same = bits_of-injective (key_bits wide) a b small also (tail same)
  where
    tail : {x y : Bool} {xs ys : List Bool} → x ∷ xs ≡ y ∷ ys → xs ≡ ys
    tail is = cc

-- a key is that of its path
pub key_of-path : (wide : Bool) (key : ℕ) → key < 2 ^ key_bits wide → key_of (key_path wide key) ≡ key
key_of-path wide key small = number_back (key_bits wide) key small

-- and a data path is that of its key
pub key_path-of : (wide : Bool) (path : List Bool) → IsIn wide path → IsData path → key_path wide (key_of path) ≡ path
key_path-of wide [] within whole = absurd within
key_path-of wide (first ∷ bits) within whole =
    subst (λ (b : Bool). key_path b (number_of bits) ≡ first ∷ bits) within
    (ap (λ (more : List Bool). first ∷ more) (ap (λ (n : ℕ). bits_of n (number_of bits)) (sym whole) ∙ bits_of-number_of bits))

-- the word of a path has as many bits as the keys of its tree
pub word_of-lt : (path : List Bool) → IsPath path → word_of path < 2 ^ key_bits (tree_of path)
word_of-lt [] fits = omega arith
word_of-lt (wide ∷ bits) fits =
    let whole : length bits + (key_bits wide - length bits) ≡ key_bits wide = omega arith in
    subst (λ (n : ℕ). number_of bits * 2 ^ (key_bits wide - length bits) < 2 ^ n) whole
    (shl_below (number_of bits) (length bits) (key_bits wide - length bits) (number_of-lt bits))

-- a path of a tree is told by its depth and the number that its bits spell
pub one_number : (wide : Bool) (p k : List Bool) → IsIn wide p → IsIn wide k → depth p ≡ depth k → key_of p ≡ key_of k → p ≡ k
one_number wide [] k within also deep number = absurd within
one_number wide (first ∷ p) [] within also deep number = absurd also
one_number wide (first ∷ p) (second ∷ k) within also deep number =
    let trees : first ≡ second = within ∙ sym also in
    let bits : p ≡ k = sym (bits_of-number_of p) ∙ (ap (bits_of (length p)) number ∙ (ap (λ (n : ℕ). bits_of n (number_of k)) deep ∙ bits_of-number_of k)) in
    cc
