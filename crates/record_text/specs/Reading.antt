-- What bytes mean as paths, values, stamps and elements: the fields in order, and the first fault.
use Rattle.std.specs.Prelude.{ℕ, ◌+◌, ◌==◌, nat_le, Bool, true, false, List, [], ◌∷◌, ◌++◌, drop, slice_index, Option, Some, None, Ok, if◌then◌else◌}
use Rattle.std.specs.Int.{w16, w32, w64, byte_len, from_be_bytes}
use Rattle.lamport_clocks.specs.declared.stamp.Stamp.{Stamp}
use Rattle.tree_keys.specs.Path.{tree_of, path_in_word, is_prefix, is_data}
use Rattle.record_text.specs.declared.value.Pointer.{Pointer}
use Rattle.record_text.specs.declared.value.Node.{Node}
use Rattle.record_text.specs.declared.value.Value.{Value}
use Rattle.record_text.specs.declared.value.Value.TheVariants as values
use Rattle.record_text.specs.declared.element.Element.{Element}
use Rattle.record_text.specs.Tree.{word_width}
use Rattle.record_text.specs.Fields.{Parsed, field, ◌>>=◌}

-- the first byte of a field
abbrev pub first_byte : List ℕ → ℕ
first_byte bytes = slice_index bytes 0

-- the next n bytes, whatever they are
abbrev pub run_at : ℕ → List ℕ → Parsed (List ℕ)
run_at n bytes = field n (λ run. Some run) bytes

-- one byte, whatever it is
unfoldable pub byte_at : List ℕ → Parsed ℕ
byte_at bytes = field 1 (λ run. Some (first_byte run)) bytes

-- a path of a tree: the number of bits that lead to it, and a word that holds so many with its unused bits 0
abbrev pub path_in : Bool → List ℕ → Option (List Bool)
path_in wide bytes = path_in_word wide (first_byte bytes) (from_be_bytes (word_width wide) (drop 1 bytes))

-- a path of a tree: its number of bits and its word
unfoldable pub path_at : Bool → List ℕ → Parsed (List Bool)
path_at wide bytes = field (1 + byte_len (word_width wide)) (path_in wide) bytes

-- 0 or 1
abbrev pub flag_in : List ℕ → Option Bool
flag_in bytes = if first_byte bytes == 0 then Some false else if first_byte bytes == 1 then Some true else None

-- a number of bytes that a data value may have
abbrev pub count_in : ℕ → List ℕ → Option ℕ
count_in longest bytes = if nat_le (first_byte bytes) longest then Some (first_byte bytes) else None

-- behind a 0 there is none, and behind a 1 the number of bytes and the bytes
abbrev pub blob_behind : ℕ → Bool → List ℕ → Parsed (Option (List ℕ))
blob_behind longest false bytes = Ok (None, bytes)
blob_behind longest true bytes = do
  count ← field 1 (count_in longest) bytes
  text ← run_at count.0 count.1
  Ok (Some text.0, text.1)

-- a data value: whether there is one, and its bytes
unfoldable pub blob_at : ℕ → List ℕ → Parsed (Option (List ℕ))
blob_at longest bytes = do
  present ← field 1 flag_in bytes
  blob_behind longest present.0 present.1

-- an empty pointer, or whether it is deferred
abbrev pub pointer_tag_in : List ℕ → Option (Option Bool)
pointer_tag_in bytes =
    if first_byte bytes == 0 then Some None
    else if first_byte bytes == 1 then Some (Some false)
    else if first_byte bytes == 2 then Some (Some true)
    else None

-- the path, if it has the prefix
abbrev pub if_below : List Bool → Option (List Bool) → Option (List Bool)
if_below prefix None = None
if_below prefix (Some path) = if is_prefix prefix path then Some path else None

-- a path below a node on a side: one of the node's tree that has both as a prefix
abbrev pub path_below_in : List Bool → List ℕ → Option (List Bool)
path_below_in prefix bytes = if_below prefix (path_in (tree_of prefix) bytes)

-- a path that has a prefix
unfoldable pub path_below_at : List Bool → List ℕ → Parsed (List Bool)
path_below_at prefix bytes = field (1 + byte_len (word_width (tree_of prefix))) (path_below_in prefix) bytes

-- behind an empty pointer's tag there is nothing, and behind another's the path and the digest
abbrev pub pointer_behind : List Bool → Option Bool → List ℕ → Parsed (Option Pointer)
pointer_behind prefix None bytes = Ok (None, bytes)
pointer_behind prefix (Some deferred) bytes = do
  path ← path_below_at prefix bytes
  digest ← run_at 32 path.1
  Ok (Some (record { path = path.0; digest = digest.0; deferred = deferred }), digest.1)

-- a pointer of a node, whose path has the node's and the side as a prefix
unfoldable pub pointer_at : List Bool → List ℕ → Parsed (Option Pointer)
pointer_at prefix bytes = do
  tag ← field 1 pointer_tag_in bytes
  pointer_behind prefix tag.0 tag.1

-- the node at a path: the pointer of side 0 and then that of side 1
unfoldable pub node_at : List Bool → List ℕ → Parsed Node
node_at path bytes = do
  side0 ← pointer_at (path ++ false ∷ []) bytes
  side1 ← pointer_at (path ++ true ∷ []) side0.1
  Ok (record { side0 = side0.0; side1 = side1.0 }, side1.1)

-- a data value where the test is true, else a node
abbrev pub value_by : ℕ → List Bool → Bool → List ℕ → Parsed Value
value_by longest path true bytes = do
  blob ← blob_at longest bytes
  Ok (values.Blob blob.0, blob.1)
value_by longest path false bytes = do
  node ← node_at path bytes
  Ok (values.Node node.0, node.1)

-- by the path that it stands at
abbrev pub value_at : ℕ → List Bool → List ℕ → Parsed Value
value_at longest path bytes = value_by longest path (is_data path) bytes

-- a number of two bytes
unfoldable pub u16_at : List ℕ → Parsed ℕ
u16_at bytes = field 2 (λ run. Some (from_be_bytes w16 run)) bytes

-- a number of four bytes
unfoldable pub u32_at : List ℕ → Parsed ℕ
u32_at bytes = field 4 (λ run. Some (from_be_bytes w32 run)) bytes

-- a number of eight bytes
unfoldable pub u64_at : List ℕ → Parsed ℕ
u64_at bytes = field 8 (λ run. Some (from_be_bytes w64 run)) bytes

-- an epoch and a counter
unfoldable pub stamp_at : List ℕ → Parsed Stamp
stamp_at bytes = do
  epoch ← u32_at bytes
  counter ← u32_at epoch.1
  Ok (record { epoch = epoch.0; counter = counter.0 }, counter.1)

-- a path of a tree, its value, a stamp, and the verifier that evicted it
unfoldable pub element_at : Bool → ℕ → List ℕ → Parsed Element
element_at wide longest bytes = do
  path ← path_at wide bytes
  value ← value_at longest path.0 path.1
  stamp ← stamp_at value.1
  verifier ← u16_at stamp.1
  Ok (record { path = path.0; value = value.0; stamp = stamp.0; verifier = verifier.0 }, verifier.1)
