-- What stands at a path: a data value at a data path, and at a shorter one a node with a pointer for each side.
use Rattle.std.specs.Prelude.{◌≡◌, ℕ, ◌≤◌, Bool, true, false, List, [], ◌∷◌, ◌++◌, length, Option, Some, None, IsTrue, if◌then◌else◌}
use Rattle.tree_keys.specs.Path.{is_prefix, IsData, IsPath, IsNodePath, is_data}
use Rattle.record_text.specs.declared.value.Pointer.{Pointer}
use Rattle.record_text.specs.declared.value.Node.{Node}
use Rattle.record_text.specs.declared.value.Value.{Value}
use Rattle.record_text.specs.declared.value.Value.TheVariants as values

-- The pointer of a side names a path below the node on that side: the node's path and the side are a prefix of it.
pub record IsPointer (node : List Bool) (side : Bool) (pointer : Pointer) : Type 0 where
  pub below : IsTrue (is_prefix (node ++ side ∷ []) pointer.path)
  pub fits : IsPath pointer.path
  pub digest : length pointer.digest ≡ 32

-- an empty pointer, or one of that side
abbrev pub IsSide : List Bool → Bool → Option Pointer → Type 0
IsSide node side None = Unit {0}
IsSide node side (Some pointer) = IsPointer node side pointer

-- none, or at most so many bytes
abbrev pub IsBlob : ℕ → Option (List ℕ) → Type 0
IsBlob longest None = Unit {0}
IsBlob longest (Some bytes) = length bytes ≤ longest

-- the value is of the path's kind, and data has at most so many bytes
abbrev pub IsOf : ℕ → List Bool → Value → Type 0
IsOf longest path (values.Blob blob) = IsData path × IsBlob longest blob
IsOf longest path (values.Node node) = IsNodePath path × IsSide path false node.side0 × IsSide path true node.side1

-- the pointer of a side
abbrev pub node_side : Node → Bool → Option Pointer
node_side node false = node.side0
node_side node true = node.side1

-- the node with another pointer on a side
abbrev pub with_side : Node → Bool → Option Pointer → Node
with_side node false pointer = record node { side0 = pointer }
with_side node true pointer = record node { side1 = pointer }

-- no pointer on either side
abbrev pub empty_node : Node
empty_node = record { side0 = None; side1 = None }

-- what a path starts with: none at a data path, two empty pointers at a node's
abbrev pub initial_value : List Bool → Value
initial_value path = if is_data path then values.Blob None else values.Node empty_node
