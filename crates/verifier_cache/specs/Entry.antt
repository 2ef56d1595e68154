-- An entry of a cache: a record that stands in it, how it came in, and which of its children stand in it too.
use Rattle.std.specs.Prelude.{Bool, true, false, ◌||◌, List, [], ◌∷◌, slice_index_or, Option, if◌then◌else◌}
use Rattle.tree_keys.specs.Path.{same_bit}
use Rattle.record_text.specs.declared.value.Pointer.{Pointer}
use Rattle.record_text.specs.declared.value.Value.{Value}
use Rattle.record_text.specs.declared.value.Value.TheVariants as values
use Rattle.record_text.specs.Value.{with_side}
use Rattle.verifier_cache.specs.declared.entry.Entry.{Entry}
use Rattle.verifier_cache.specs.declared.entry.Hold.{Hold}

-- the kid bit of a side: whether the child of that side stands in this cache under the entry
abbrev pub kid_of : Entry → Bool → Bool
kid_of entry false = slice_index_or entry.kids 0 false
kid_of entry true = slice_index_or entry.kids 1 false

-- one of the two kid bits, once that of a side is set or cleared
abbrev pub kid_after : Entry → Bool → Bool → Bool → Bool
kid_after entry side on which = if same_bit side which then on else kid_of entry which

-- the entry with the kid bit of a side set or cleared
abbrev pub set_kid : Entry → Bool → Bool → Entry
set_kid entry side on = record entry { kids = kid_after entry side on false ∷ kid_after entry side on true ∷ [] }

-- a child stands in the cache under the entry
abbrev pub has_kid : Entry → Bool
has_kid entry = kid_of entry false || kid_of entry true

-- the entry with another value
abbrev pub with_value : Entry → Value → Entry
with_value entry value = record entry { value = value }

-- the value with another pointer on a side, if it is a node
abbrev pub with_pointer : Value → Bool → Option Pointer → Value
with_pointer (values.Blob blob) side pointer = values.Blob blob
with_pointer (values.Node node) side pointer = values.Node (with_side node side pointer)

-- the entry with another pointer on a side, and with the kid bit of that side set or cleared
abbrev pub linked : Entry → Bool → Option Pointer → Bool → Entry
linked entry side pointer kid = set_kid (with_value entry (with_pointer entry.value side pointer)) side kid

-- a record that comes in, with no child under it
abbrev pub new_entry : List Bool → Value → Hold → Entry
new_entry path value hold = record { path = path; value = value; hold = hold; kids = false ∷ false ∷ [] }
