-- The children of a path, and the contents of a setup.
use Rattle.std.proofs.Common.{◌≡◌, ℕ, Bool, true, false, List, [], ◌∷◌, ◌++◌, Some, None, if◌then◌else◌, refl, ap}
use Rattle.tree_keys.specs.Path.{side, IsNodePath}
use Rattle.tree_keys.proofs.TreeLaws.{node-is}
use Rattle.record_text.specs.declared.value.Value.TheVariants as values
use Rattle.record_text.specs.Value.{empty_node, initial_value}
use Rattle.host_shard.specs.Content.{Content}
use Rattle.host_plan.specs.Setup.{child, first_content, first_contents}

pub side-child : (path : List Bool) (on : Bool) → side path (child path on) ≡ Some on
side-child [] on = refl
side-child (true ∷ path) on = side-child path on
side-child (false ∷ path) on = side-child path on

pub first_contents-append : (first : ℕ) (xs ys : List (List Bool)) → first_contents first (xs ++ ys) ≡ first_contents first xs ++ first_contents first ys
first_contents-append first [] ys = refl
first_contents-append first (x ∷ xs) ys = ap (λ (contents : List Content). first_content first x ∷ contents) (first_contents-append first xs ys)

-- a node's path starts as an empty node
pub initial_is_node : (path : List Bool) → IsNodePath path → initial_value path ≡ values.Node empty_node
initial_is_node path short = ap (λ (b : Bool). if b then values.Blob None else values.Node empty_node) (node-is path short)
