-- What a command does to the entries that it names: the parent's and the child's, before and after. How the
-- entries are looked up is no part of it.
use Rattle.std.specs.Prelude.{ℕ, Bool, true, false, not, ◌||◌, List, Option, Some, None, Result, Ok, Err}
use Rattle.tree_keys.specs.Path.{side, same_path}
use Rattle.base_words.specs.Steps.{test, need}
use Rattle.record_text.specs.declared.value.Pointer.{Pointer}
use Rattle.record_text.specs.declared.value.Node.{Node}
use Rattle.record_text.specs.declared.value.Value.{Value}
use Rattle.record_text.specs.declared.value.Value.TheVariants as values
use Rattle.record_text.specs.declared.refusal.Refusal.{Refusal}
use Rattle.record_text.specs.declared.refusal.Refusal.TheVariants as refusals
use Rattle.record_text.specs.Value.{node_side, initial_value}
use Rattle.record_text.specs.Texts.{value_text}
use Rattle.merkle_records.specs.declared.cases.AddCase.{AddCase}
use Rattle.merkle_records.specs.declared.cases.AddCase.TheVariants as cases
use Rattle.merkle_records.specs.Merkle.{Digest, case_of, Added, after_add, after_evict, after_defer, leads_over}
use Rattle.verifier_cache.specs.declared.entry.Entry.{Entry}
use Rattle.verifier_cache.specs.declared.entry.Hold.{Hold}
use Rattle.verifier_cache.specs.declared.entry.Hold.TheVariants.{Root, M, B}
use Rattle.verifier_cache.specs.Entry.{kid_of, set_kid, has_kid, linked, new_entry}
use Rattle.verifier_commands.specs.declared.changes.Join.{Join}
use Rattle.record_text.specs.Same.{same_bytes, same_value}

-- an entry as the parent of a path: the side on which that lies properly below it, and the entry's node
pub record Parent : Type 0 where
  pub on : Bool
  pub node : Node

-- the parent and the child after an add
pub record Family : Type 0 where
  pub parent : Entry
  pub child : Entry

-- the node that a value is, if it is one
abbrev pub node_of : Value → Option Node
node_of (values.Blob blob) = None
node_of (values.Node node) = Some node

-- the parent on a side with its node, if there are both
abbrev pub above_on : Option Bool → Option Node → Option Parent
above_on None _ = None
above_on (Some on) None = None
above_on (Some on) (Some node) = Some (record { on = on; node = node })

-- the entry as a parent of the path, if that lies properly below it
abbrev pub above : Entry → List Bool → Option Parent
above parent path = above_on (side parent.path path) (node_of parent.value)

-- the entry with another node
abbrev pub with_node : Entry → Node → Entry
with_node entry node = record entry { value = values.Node node }

-- the pointer is to the path
abbrev pub leads_to : Option Pointer → List Bool → Bool
leads_to None path = false
leads_to (Some pointer) path = same_path pointer.path path

-- the pointer is to a record that is checked later
abbrev pub is_deferred : Option Pointer → Bool
is_deferred None = false
is_deferred (Some pointer) = pointer.deferred

-- the pointer keeps this digest
abbrev pub has_digest : Option Pointer → List ℕ → Bool
has_digest None digest = false
has_digest (Some pointer) digest = same_bytes pointer.digest digest

-- the side of a path on which the pointer leads below it
abbrev pub leads_below : List Bool → Option Pointer → Option Bool
leads_below path None = None
leads_below path (Some pointer) = side path pointer.path

-- the entry with a kid bit set or cleared on a side, if there is one
abbrev pub set_kid_on : Entry → Option Bool → Bool → Entry
set_kid_on entry None on = entry
set_kid_on entry (Some which) on = set_kid entry which on

-- The child stands in the cache from now on, with the parent's kid bit set. In a split it takes over the kid
-- bit of the pointer that it takes over.
abbrev pub family_of : Entry → Parent → Added → List Bool → Option Bool → Family
family_of parent above added path taken_over = record {
  parent = set_kid (with_node parent added.node) above.on true;
  child = set_kid_on (new_entry path added.value M) taken_over (kid_of parent above.on);
}

-- the same family, by what the parent gets and the child
abbrev pub family_by : Entry → Join → Family
family_by parent join = record { parent = linked parent join.link.on join.link.pointer true; child = join.child }

-- the path has not been added before: the pointer leads nowhere or below it
abbrev pub IsFirst : AddCase → Type 0
IsFirst cases.Empty = Unit {0}
IsFirst cases.Same = ⊥
IsFirst cases.Split = Unit {0}
IsFirst cases.Foreign = ⊥

-- adding a path under a parent whose pointer leads so
abbrev pub add_by : Digest → Entry → Parent → List Bool → Value → AddCase → Result Family Refusal
add_by digest parent above path value cases.Foreign = Err refusals.Foreign
add_by digest parent above path value cases.Empty =
    test (not (same_value value (initial_value path))) refusals.NotInitial
    (Ok (family_of parent above (after_add digest above.node above.on path value) path None))
add_by digest parent above path value cases.Split =
    test (not (same_value value (initial_value path))) refusals.NotInitial
    (Ok (family_of parent above (after_add digest above.node above.on path value) path (leads_below path (node_side above.node above.on))))
add_by digest parent above path value cases.Same =
    test (is_deferred (node_side above.node above.on)) refusals.Deferred
    (test (not (has_digest (node_side above.node above.on) (digest (value_text value)))) refusals.WrongDigest
    (test (kid_of parent above.on) refusals.HasChild
    (Ok (family_of parent above (after_add digest above.node above.on path value) path None))))

-- Adding a path under a parent by its digest.
abbrev pub add_under : Digest → Entry → List Bool → Value → Result Family Refusal
add_under digest parent path value =
    need (above parent path) refusals.NotBelow
    (λ above. add_by digest parent above path value (case_of (node_side above.node above.on) path))

-- A record that came in by its digest leaves so where its kid bit is set and its pointer not deferred; one
-- that came in deferred, where its kid bit is clear and its pointer deferred.
abbrev pub holds_wrong : Hold → Bool → Bool → Bool
holds_wrong Root kid deferred = false
holds_wrong M kid deferred = not kid || deferred
holds_wrong B kid deferred = kid || not deferred

-- the parent once the child has left it
abbrev pub left_by : Entry → Parent → Node → Entry
left_by parent above node = set_kid (with_node parent node) above.on false

-- Evicting a child into its parent: the parent after it.
abbrev pub evict_under : Digest → Entry → Entry → Result Entry Refusal
evict_under digest parent child =
    need (above parent child.path) refusals.NotBelow
    (λ above.
    test (not (leads_to (node_side above.node above.on) child.path)) refusals.NotChild
    (test (has_kid child) refusals.HasChild
    (test (holds_wrong child.hold (kid_of parent above.on) (is_deferred (node_side above.node above.on))) refusals.WrongHold
    (Ok (left_by parent above (after_evict digest above.node above.on child.path child.value))))))

-- it came in by its digest
abbrev pub is_by_digest : Hold → Bool
is_by_digest Root = false
is_by_digest M = true
is_by_digest B = false

-- it came in deferred
abbrev pub is_by_stamp : Hold → Bool
is_by_stamp Root = false
is_by_stamp M = false
is_by_stamp B = true

-- Deferring a child: the parent after it, whose pointer is marked.
abbrev pub defer_under : Entry → Entry → Result Entry Refusal
defer_under parent child =
    need (above parent child.path) refusals.NotBelow
    (λ above.
    test (not (leads_to (node_side above.node above.on) child.path)) refusals.NotChild
    (test (has_kid child) refusals.HasChild
    (test (not (is_by_digest child.hold) || not (kid_of parent above.on)) refusals.WrongHold
    (Ok (left_by parent above (after_defer above.node above.on))))))

-- the entry that a data path comes in with when it is added for the first time
abbrev pub unset : List Bool → Entry
unset path = new_entry path (values.Blob None) M

-- Reading a path that has no record, under a parent whose pointer doesn't lead to it: the entry that it would come in with.
abbrev pub absent_under : Entry → List Bool → Result Entry Refusal
absent_under parent path =
    need (above parent path) refusals.NotBelow
    (λ above. test (leads_over (node_side above.node above.on) path) refusals.Present
    (Ok (unset path)))
