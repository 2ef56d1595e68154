-- The values of a node and of what is below it stay of their paths' kinds.
use Rattle.std.proofs.Common.{ℕ, ◌≡◌, ◌<◌, Bool, true, false, List, [], ◌∷◌, ◌++◌, length, Option, Some, None, is_some, not, if◌then◌else◌, refl, sym, subst}
use Rattle.std.proofs.lemmas.Option.{none-some, same_Some}
use Rattle.std.specs.Option.{option_map}
use Rattle.tree_keys.specs.Path.{side, same_path, is_prefix, IsPath}
use Rattle.tree_keys.proofs.TreeLaws.{data-path, node-path, node-above, shorter}
use Rattle.record_text.specs.declared.value.Pointer.{Pointer}
use Rattle.record_text.specs.declared.value.Node.{Node}
use Rattle.record_text.specs.declared.value.Value.{Value}
use Rattle.record_text.specs.declared.value.Value.TheVariants as values
use Rattle.record_text.specs.Value.{IsPointer, IsSide, IsOf, node_side, with_side, empty_node, initial_value}
use Rattle.merkle_records.specs.declared.cases.AddCase.TheVariants.{Same, Split, Foreign}
use Rattle.merkle_records.specs.Merkle.{Digest, GivesDigests, case_of, pointer_to, taken_over, Added, added_by, after_add, after_evict, deferred_pointer, after_defer}

-- a path and the side of one below it are a prefix of that
pub is_prefix-side : (p k : List Bool) (on : Bool) → side p k ≡ Some on → is_prefix (p ++ on ∷ []) k ≡ true
is_prefix-side [] [] on is = absurd (none-some on is)
is_prefix-side [] (true ∷ k) on is = subst (λ (b : Bool). is_prefix (b ∷ []) (true ∷ k) ≡ true) (same_Some true on is) refl
is_prefix-side [] (false ∷ k) on is = subst (λ (b : Bool). is_prefix (b ∷ []) (false ∷ k) ≡ true) (same_Some false on is) refl
is_prefix-side (a ∷ p) [] on is = absurd (none-some on is)
is_prefix-side (true ∷ p) (true ∷ k) on is = is_prefix-side p k on is
is_prefix-side (true ∷ p) (false ∷ k) on is = absurd (none-some on is)
is_prefix-side (false ∷ p) (true ∷ k) on is = absurd (none-some on is)
is_prefix-side (false ∷ p) (false ∷ k) on is = is_prefix-side p k on is

-- a path below is longer
pub length-side : (p k : List Bool) (on : Bool) → side p k ≡ Some on → length p < length k
length-side p k on is = shorter p k on is

-- the path of a value isn't longer than the keys of its tree
length-IsOf : (longest : ℕ) (path : List Bool) (value : Value) → IsOf longest path value → IsPath path
length-IsOf longest path (values.Blob blob) kind = data-path path kind.0
length-IsOf longest path (values.Node node) kind = node-path path kind.0

-- the pointer of a side is one of that side
pub IsSide-node_side : (longest : ℕ) (path : List Bool) (node : Node) (on : Bool) → IsOf longest path (values.Node node) → IsSide path on (node_side node on)
IsSide-node_side longest path node false kind = kind.1
IsSide-node_side longest path node true kind = kind.2

-- a node with another pointer of that side
pub IsOf-with_side : (longest : ℕ) (path : List Bool) (node : Node) (on : Bool) (pointer : Option Pointer) → IsOf longest path (values.Node node) → IsSide path on pointer → IsOf longest path (values.Node (with_side node on pointer))
IsOf-with_side longest path node false pointer kind fits = (kind.0, fits, kind.2)
IsOf-with_side longest path node true pointer kind fits = (kind.0, kind.1, fits)

-- a pointer to a path below
IsPointer-pointer_to : (digest : Digest) (at k : List Bool) (on : Bool) (value : Value) → GivesDigests digest → side at k ≡ Some on → IsPath k → IsPointer at on (pointer_to digest k value)
IsPointer-pointer_to digest at k on value digests below fits = record {
  below = is_prefix-side at k on below;
  fits = fits;
  digest = digests _;
}

pub IsOf-after_evict : (longest : ℕ) (digest : Digest) (at k : List Bool) (on : Bool) (node : Node) (value : Value) → GivesDigests digest → side at k ≡ Some on
    → IsOf longest at (values.Node node) → IsOf longest k value → IsOf longest at (values.Node (after_evict digest node on k value))
IsOf-after_evict longest digest at k on node value digests below above kind =
    IsOf-with_side longest at node on _ above (IsPointer-pointer_to digest at k on value digests below (length-IsOf longest k value kind))

pub IsOf-after_defer : (longest : ℕ) (at : List Bool) (on : Bool) (node : Node) → IsOf longest at (values.Node node) → IsOf longest at (values.Node (after_defer node on))
IsOf-after_defer longest at on node above =
    IsOf-with_side longest at node on _ above (marked (node_side node on) (IsSide-node_side longest at node on above))
  where
    marked : (pointer : Option Pointer) → IsSide at on pointer → IsSide at on (option_map deferred_pointer pointer)
    marked None fits = fits
    marked (Some pointer) fits = record { below = fits.below; fits = fits.fits; digest = fits.digest }

-- a node that takes a pointer over, and nothing else
IsOf-taken_over : (longest : ℕ) (at k : List Bool) (on which : Bool) (pointer : Pointer) → IsPointer at on pointer → side k pointer.path ≡ Some which → IsOf longest k (values.Node (taken_over (side k pointer.path) pointer))
IsOf-taken_over longest at k on which pointer fits below =
    subst (λ (s : Option Bool). IsOf longest k (values.Node (taken_over s pointer))) (sym below)
    (IsOf-with_side longest k empty_node which (Some pointer) (node-above k pointer.path which below fits.fits, tt, tt)
    (record { below = is_prefix-side k pointer.path which below; fits = fits.fits; digest = fits.digest }))

-- both are of their paths' kinds: the node, and the value below it
abbrev pub AddedIsOf : ℕ → List Bool → List Bool → Added → Type 0
AddedIsOf longest at k added = IsOf longest at (values.Node added.node) × IsOf longest k added.value

pub IsOf-after_add : (longest : ℕ) (digest : Digest) (at k : List Bool) (on : Bool) (node : Node) (value : Value) → GivesDigests digest → side at k ≡ Some on
    → IsOf longest at (values.Node node) → IsOf longest k value → AddedIsOf longest at k (after_add digest node on k value)
IsOf-after_add longest digest at k on node value digests below above kind = go (node_side node on) (IsSide-node_side longest at node on above)
  where
    leads : (v : Value) → IsOf longest at (values.Node (after_evict digest node on k v))
    leads v = IsOf-with_side longest at node on _ above (IsPointer-pointer_to digest at k on v digests below (length-IsOf longest k value kind))

    split : (pointer : Pointer) → IsPointer at on pointer → (s : Option Bool) → side k pointer.path ≡ s
        → AddedIsOf longest at k (added_by digest node on k value (Some pointer) (if is_some s then Split else Foreign))
    split pointer fits None is = (above, kind)
    split pointer fits (Some which) is = (leads (initial_value k), IsOf-taken_over longest at k on which pointer fits is)

    tested : (pointer : Pointer) → IsPointer at on pointer → (same : Bool)
        → AddedIsOf longest at k (added_by digest node on k value (Some pointer) (if same then Same else if is_some (side k pointer.path) then Split else Foreign))
    tested pointer fits true = (above, kind)
    tested pointer fits false = split pointer fits (side k pointer.path) refl

    go : (pointer : Option Pointer) → IsSide at on pointer → AddedIsOf longest at k (added_by digest node on k value pointer (case_of pointer k))
    go None fits = (leads value, kind)
    go (Some pointer) fits = tested pointer fits (same_path pointer.path k)

-- ---- the pointers of a node

pub node_side-with_side : (node : Node) (on : Bool) (pointer : Option Pointer) → node_side (with_side node on pointer) on ≡ pointer
node_side-with_side node false pointer = refl
node_side-with_side node true pointer = refl

pub node_side-with_other : (node : Node) (on : Bool) (pointer : Option Pointer) → node_side (with_side node on pointer) (not on) ≡ node_side node (not on)
node_side-with_other node false pointer = refl
node_side-with_other node true pointer = refl
