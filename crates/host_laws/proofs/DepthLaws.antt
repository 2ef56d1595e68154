-- Paths below the root of their tree, data paths that begin another, and values of their paths' kinds.
use Rattle.std.proofs.Common.{◌≡◌, ◌⊎◌, ℕ, suc, ◌<◌, Bool, true, false, List, [], ◌∷◌, length, Some, refl, sym, subst, inl, inr, arith}
use Rattle.std.proofs.lemmas.Bool.{false≢true}
use Rattle.std.proofs.lemmas.Option.{none-some}
use Rattle.tree_keys.specs.Path.{key_bits, depth, tree_of, key_path, side, is_prefix, IsIn, IsPath, IsData, IsNodePath}
use Rattle.tree_keys.proofs.SideLaws.{prefix_cases}
use Rattle.tree_keys.proofs.TreeLaws.{length-in, data-path, node-path, data-no_node, shorter, node-above, key_path-data}
use Rattle.record_text.specs.declared.value.Pointer.{Pointer}
use Rattle.record_text.specs.declared.value.Value.{Value}
use Rattle.record_text.specs.declared.value.Value.TheVariants as values
use Rattle.record_text.specs.Value.{IsOf}
use Rattle.verifier_commands.specs.Transition.{is_root}
use Rattle.host_shard.specs.Tree.{pointer_of}

-- a path to which bits lead is no root
pub not_root : (path : List Bool) → 0 < depth path → is_root path ≡ false
not_root [] some = absurd (omega (arith, some))
not_root (wide ∷ []) some = absurd (omega (arith, some))
not_root (wide ∷ bit ∷ bits) some = refl

-- and it has one bit more, the first, which says its tree
pub depth_in : (path : List Bool) → 0 < depth path → length path ≡ suc (depth path)
depth_in [] some = absurd (omega (arith, some))
depth_in (wide ∷ bits) some = refl

-- and is of the tree that this bit says
pub own_tree : (path : List Bool) → 0 < depth path → IsIn (tree_of path) path
own_tree [] some = absurd (omega (arith, some))
own_tree (wide ∷ bits) some = refl

-- so it isn't empty
pub some_path : (path : List Bool) → 0 < depth path → 0 < length path
some_path path some = omega (arith, depth_in path some)

-- nor is any path of a tree
pub some_in : (wide : Bool) (path : List Bool) → IsIn wide path → 0 < length path
some_in wide path within = omega (arith, length-in wide path within)

-- a path of a tree to which fewer bits lead than its keys have is a node's
pub node_in : (wide : Bool) (path : List Bool) → IsIn wide path → depth path < key_bits wide → IsNodePath path
node_in wide [] within short = tt
node_in wide (first ∷ bits) within short = subst (λ (b : Bool). length bits < key_bits b) (sym within) short

-- what lies below a path of a tree has bits that lead to it
pub deeper : (at path : List Bool) (on : Bool) → 0 < length at → side at path ≡ Some on → 0 < depth path
deeper [] path on some below = absurd (omega (arith, some))
deeper (wide ∷ at) [] on some below = absurd (none-some on below)
deeper (wide ∷ at) (first ∷ bits) on some below = omega (arith, shorter (wide ∷ at) (first ∷ bits) on below)

-- and so has what begins with one that has
pub deeper-prefix : (path k : List Bool) → 0 < depth path → is_prefix path k ≡ true → 0 < depth k
deeper-prefix path k some begins = go (prefix_cases path k begins)
  where
    go : (path ≡ k) ⊎ ((on : Bool) × (side path k ≡ Some on)) → 0 < depth k
    go (inl same) = subst (λ (p : List Bool). 0 < depth p) same some
    go (inr below) = deeper path k below.0 (some_path path some) below.1

-- what begins a path of a tree, and is of one, is of that tree
pub in-above : (wide : Bool) (p k : List Bool) → 0 < length p → is_prefix p k ≡ true → IsIn wide k → IsIn wide p
in-above wide [] k some begins within = absurd (omega (arith, some))
in-above wide (first ∷ p) [] some begins within = absurd within
in-above wide (true ∷ p) (true ∷ k) some begins within = within
in-above wide (true ∷ p) (false ∷ k) some begins within = absurd (false≢true begins)
in-above wide (false ∷ p) (true ∷ k) some begins within = absurd (false≢true begins)
in-above wide (false ∷ p) (false ∷ k) some begins within = within

-- a key has bits
pub some_bits : (wide : Bool) → 0 < key_bits wide
some_bits true = omega arith
some_bits false = omega arith

-- bits lead to a key
pub key_deep : (wide : Bool) (key : ℕ) → 0 < depth (key_path wide key)
key_deep true key = omega (arith, key_path-data true key)
key_deep false key = omega (arith, key_path-data false key)

-- a data path that begins a path is that path
pub data_whole : (p k : List Bool) → is_prefix p k ≡ true → IsData p → IsPath k → p ≡ k
data_whole p k begins whole fits = go (prefix_cases p k begins)
  where
    go : (p ≡ k) ⊎ ((on : Bool) × (side p k ≡ Some on)) → p ≡ k
    go (inl same) = same
    go (inr below) = absurd (data-no_node p whole (node-above p k below.0 below.1 fits))

-- a value's path is no longer than the keys of its tree
pub kind_path : (longest : ℕ) (path : List Bool) (value : Value) → IsOf longest path value → IsPath path
kind_path longest path (values.Blob blob) kind = data-path path kind.0
kind_path longest path (values.Node node) kind = node-path path kind.0

-- a data path has no pointers
pub whole_none : (longest : ℕ) (path : List Bool) (value : Value) (on : Bool) (pointer : Pointer) → IsOf longest path value
    → IsData path → pointer_of value on ≡ Some pointer → ⊥
whole_none longest path (values.Blob blob) on pointer kind whole is = none-some pointer is
whole_none longest path (values.Node node) on pointer kind whole is = data-no_node path whole kind.0
