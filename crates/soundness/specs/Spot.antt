-- Where the record of each path is: untouched, in a cache, kept by its parent's digest, or waiting with an element.
use Rattle.std.specs.Prelude.{◌≡◌, ℕ, Bool, true, false, List, Option, Some, None, if◌then◌else◌}
use Rattle.tree_keys.specs.Path.{side, is_prefix}
use Rattle.record_text.specs.declared.value.Pointer.{Pointer}
use Rattle.record_text.specs.declared.value.Node.{Node}
use Rattle.record_text.specs.declared.value.Value.{Value}
use Rattle.record_text.specs.declared.element.Element.{Element}
use Rattle.record_text.specs.Value.{IsOf, node_side}
use Rattle.record_text.specs.Texts.{value_text}
use Rattle.merkle_records.specs.Merkle.{Digest}
use Rattle.verifier_cache.specs.declared.entry.Entry.{Entry}
use Rattle.verifier_cache.specs.declared.entry.Hold.TheVariants.{M, B}
use Rattle.verifier_cache.specs.Entry.{kid_of}
use Rattle.verifier_commands.specs.Changes.{node_of}

pub data Spot : Type 0 where
  untouched : Spot
  -- in the cache of the verifier of this number
  cached : ℕ → Entry → Spot
  -- kept by its parent's digest
  merkle : Value → Spot
  -- evicted with this element, and not added back
  waiting : Element → Spot

-- the spot of each path
abbrev pub Spots : Type 0
Spots = List Bool → Spot

abbrev pub is_touched : Spot → Bool
is_touched untouched = false
is_touched (cached verifier entry) = true
is_touched (merkle value) = true
is_touched (waiting element) = true

-- the value that stands at a spot
abbrev pub value_at : Spot → Option Value
value_at untouched = None
value_at (cached verifier entry) = Some entry.value
value_at (merkle value) = Some value
value_at (waiting element) = Some element.value

-- the pointer of a side, if there is a node with one
abbrev pub side_of : Option Node → Bool → Option Pointer
side_of None on = None
side_of (Some node) on = node_side node on

abbrev pub pointer_in : Option Value → Bool → Option Pointer
pointer_in None on = None
pointer_in (Some value) on = side_of (node_of value) on

-- the pointer of a side of what stands at a spot
abbrev pub pointer_at : Spot → Bool → Option Pointer
pointer_at spot on = pointer_in (value_at spot) on

-- the verifier in whose cache the record and its child of a side stand together, by the record's kid bit
abbrev pub home_of : Spot → Bool → Option ℕ
home_of untouched on = None
home_of (cached verifier entry) on = if kid_of entry on then Some verifier else None
home_of (merkle value) on = None
home_of (waiting element) on = None

-- it is checked by its element: it waits, or came in with one
abbrev pub IsByElement : Spot → Type 0
IsByElement untouched = ⊥
IsByElement (cached verifier entry) = entry.hold ≡ B
IsByElement (merkle value) = ⊥
IsByElement (waiting element) = Unit {0}

-- it stands in this verifier's cache, where it came in by its digest
abbrev pub IsKidOf : ℕ → Spot → Type 0
IsKidOf home untouched = ⊥
IsKidOf home (cached verifier entry) = (verifier ≡ home) × (entry.hold ≡ M)
IsKidOf home (merkle value) = ⊥
IsKidOf home (waiting element) = ⊥

-- it is kept by this digest
abbrev pub IsKeptBy : Digest → List ℕ → Spot → Type 0
IsKeptBy digest kept untouched = ⊥
IsKeptBy digest kept (cached verifier entry) = ⊥
IsKeptBy digest kept (merkle value) = kept ≡ digest (value_text value)
IsKeptBy digest kept (waiting element) = ⊥

-- where a pointer with or without its flag leads, by the cache where parent and child stand together, if any
abbrev pub LeadsBy : Digest → Bool → Option ℕ → List ℕ → Spot → Type 0
LeadsBy digest true home kept spot = IsByElement spot
LeadsBy digest false None kept spot = IsKeptBy digest kept spot
LeadsBy digest false (Some home) kept spot = IsKidOf home spot

abbrev pub Leads : Digest → Option ℕ → Pointer → Spot → Type 0
Leads digest home pointer spot = LeadsBy digest pointer.deferred home pointer.digest spot

-- the pointer is to this path or to one above it
abbrev pub Covers : Option Pointer → List Bool → Type 0
Covers None path = ⊥
Covers (Some pointer) path = is_prefix pointer.path path ≡ true

-- what stands at a spot is the path's, and of its kind
abbrev pub IsKind : ℕ → List Bool → Spot → Type 0
IsKind longest path untouched = Unit {0}
IsKind longest path (cached verifier entry) = (entry.path ≡ path) × IsOf longest path entry.value
IsKind longest path (merkle value) = IsOf longest path value
IsKind longest path (waiting element) = (element.path ≡ path) × IsOf longest path element.value

-- The touched paths are a tree: each pointer leads to its child, and covers all that is touched on its side.
pub record IsTree (longest : ℕ) (digest : Digest) (spots : Spots) : Type 0 where
  pub kind : (path : List Bool) → IsKind longest path (spots path)
  pub link : (path : List Bool) (on : Bool) (pointer : Pointer) → pointer_at (spots path) on ≡ Some pointer
      → Leads digest (home_of (spots path) on) pointer (spots pointer.path)
  pub cover : (path other : List Bool) (on : Bool) → is_touched (spots path) ≡ true → is_touched (spots other) ≡ true
      → side path other ≡ Some on → Covers (pointer_at (spots path) on) other
