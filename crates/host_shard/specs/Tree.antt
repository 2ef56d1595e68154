-- Records by their paths, and where their pointers lead.
use Rattle.std.specs.Prelude.{◌≡◌, Bool, List, Option, Some, None, if◌then◌else◌}
use Rattle.tree_keys.specs.Path.{same_path}
use Rattle.record_text.specs.declared.value.Pointer.{Pointer}
use Rattle.record_text.specs.declared.value.Value.{Value}
use Rattle.record_text.specs.declared.value.Value.TheVariants as values
use Rattle.record_text.specs.Value.{node_side}

-- the value of each path that has a record
abbrev pub Tree : Type 0
Tree = List Bool → Option Value

-- the records, with this value at a path
abbrev pub with_record : Tree → List Bool → Value → Tree
with_record tree path value = λ k. if same_path k path then Some value else tree k

-- the pointer of a value on a side, if it is a node's and not empty
abbrev pub pointer_of : Value → Bool → Option Pointer
pointer_of (values.Blob blob) on = None
pointer_of (values.Node node) on = node_side node on

-- this is the pointer of a record on a side
pub record IsPointerIn (tree : Tree) (path : List Bool) (on : Bool) (pointer : Pointer) : Type 0 where
  pub value : Value
  pub there : tree path ≡ Some value
  pub leads : pointer_of value on ≡ Some pointer

-- A path is reached from another by pointers, each of the record to which the one before leads.
pub data IsReached (tree : Tree) (start : List Bool) : List Bool → Type 0 where
  at_start : IsReached tree start start
  by_pointer : (path : List Bool) (on : Bool) (pointer : Pointer) → IsReached tree start path → IsPointerIn tree path on pointer
      → IsReached tree start pointer.path
