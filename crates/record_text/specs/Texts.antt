-- The one text of each thing, as bytes. All numbers are big-endian.
use Rattle.std.specs.Prelude.{ℕ, Bool, true, false, List, [], ◌∷◌, ◌++◌, length, Option, Some, None}
use Rattle.std.specs.Int.{w16, w32, to_be_bytes}
use Rattle.lamport_clocks.specs.declared.stamp.Stamp.{Stamp}
use Rattle.tree_keys.specs.Path.{depth, tree_of, word_of}
use Rattle.record_text.specs.declared.value.Pointer.{Pointer}
use Rattle.record_text.specs.declared.value.Value.{Value}
use Rattle.record_text.specs.declared.value.Value.TheVariants as values
use Rattle.record_text.specs.declared.element.Element.{Element}
use Rattle.record_text.specs.Tree.{word_width}

-- the number of bits that lead to it, and these first in a word as wide as the keys of its tree
abbrev pub path_text : List Bool → List ℕ
path_text path = depth path ∷ to_be_bytes (word_width (tree_of path)) (word_of path)

-- 0 for none; or 1, the number of bytes, and the bytes
abbrev pub blob_text : Option (List ℕ) → List ℕ
blob_text None = 0 ∷ []
blob_text (Some bytes) = 1 ∷ length bytes ∷ bytes

-- 1 for a pointer whose record is checked by its digest, 2 for one whose record is checked later
abbrev pub deferred_tag : Bool → ℕ
deferred_tag false = 1
deferred_tag true = 2

-- 0 for an empty pointer; or its tag, path and digest
abbrev pub pointer_text : Option Pointer → List ℕ
pointer_text None = 0 ∷ []
pointer_text (Some pointer) = deferred_tag pointer.deferred ∷ path_text pointer.path ++ pointer.digest

-- a data value; or the pointer of side 0 and then that of side 1
abbrev pub value_text : Value → List ℕ
value_text (values.Blob blob) = blob_text blob
value_text (values.Node node) = pointer_text node.side0 ++ pointer_text node.side1

-- the epoch and the counter
abbrev pub stamp_text : Stamp → List ℕ
stamp_text stamp = to_be_bytes w32 stamp.epoch ++ to_be_bytes w32 stamp.counter

-- path, value, stamp, and the verifier that evicted it
abbrev pub element_text : Element → List ℕ
element_text element = path_text element.path ++ value_text element.value ++ stamp_text element.stamp ++ to_be_bytes w16 element.verifier
