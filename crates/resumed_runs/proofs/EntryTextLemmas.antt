-- Entries that have a text stay such where children come in under them, go out or are deferred, and where values are written.
use Rattle.std.proofs.Common.{◌≡◌, ℕ, Bool, true, false, not, ◌||◌, List, [], ◌∷◌, Option, Some, None, Ok, refl, ap, subst, ◌∙◌}
use Rattle.std.proofs.lemmas.Bool.{not-false}
use Rattle.std.proofs.lemmas.Option.{none-some, same_Some}
use Rattle.std.proofs.lemmas.Result.{IfOk-at_ok}
use Rattle.tree_keys.specs.Path.{side, is_data, IsIn, IsData}
use Rattle.tree_keys.proofs.TreeLaws.{is-data}
use Rattle.base_words.proofs.StepLaws.{test-ok}
use Rattle.record_text.specs.declared.value.Node.{Node}
use Rattle.record_text.specs.declared.value.Value.{Value}
use Rattle.record_text.specs.declared.value.Value.TheVariants as values
use Rattle.record_text.specs.Value.{IsOf, node_side, initial_value}
use Rattle.record_text.specs.Same.{same_value}
use Rattle.record_text.specs.Texts.{value_text}
use Rattle.merkle_records.specs.declared.cases.AddCase.{AddCase}
use Rattle.merkle_records.specs.declared.cases.AddCase.TheVariants as cases
use Rattle.merkle_records.specs.Merkle.{Digest, GivesDigests, case_of, Added, after_add, after_evict, after_defer, leads_over}
use Rattle.merkle_records.proofs.KindLaws.{IsOf-after_add, IsOf-after_evict, IsOf-after_defer}
use Rattle.verifier_cache.specs.declared.entry.Entry.{Entry}
use Rattle.verifier_cache.specs.declared.entry.Hold.{Hold}
use Rattle.verifier_cache.specs.Entry.{kid_of, has_kid, new_entry, with_value}
use Rattle.verifier_commands.specs.Changes.{Parent, Family, node_of, above_on, above, leads_to, is_deferred, has_digest, leads_below, family_of, add_by, add_under, holds_wrong, left_by, evict_under, is_by_digest, defer_under, absent_under}
use Rattle.verifier_commands.proofs.InvertLaws.{need-ok}

-- The path is of this tree, the value of the path's kind, and there is a kid bit of each side.
pub record HasText (wide : Bool) (longest : ℕ) (entry : Entry) : Type 0 where
  pub tree : IsIn wide entry.path
  pub kind : IsOf longest entry.path entry.value
  pub kids : entry.kids ≡ kid_of entry false ∷ kid_of entry true ∷ []

-- an entry of a data path that has a text
pub record IsOperand (wide : Bool) (longest : ℕ) (entry : Entry) : Type 0 where
  pub text : HasText wide longest entry
  pub at_data : IsData entry.path

-- the test of a data path tells that it is one
pub at_data : (path : List Bool) → not (is_data path) ≡ false → IsData path
at_data path is = is-data path (not-false _ is)

-- ---- a parent

-- the parent's node, and the side on which the path lies below it
pub record IsParent (parent : Entry) (path : List Bool) (place : Parent) : Type 0 where
  pub below : side parent.path path ≡ Some place.on
  pub is_node : node_of parent.value ≡ Some place.node

above_parts : (parent : Entry) (path : List Bool) (on : Option Bool) (at : Option Node) (place : Parent) → side parent.path path ≡ on → node_of parent.value ≡ at
    → above_on on at ≡ Some place → IsParent parent path place
above_parts parent path None at place below node is = absurd (none-some place is)
above_parts parent path (Some on) None place below node is = absurd (none-some place is)
above_parts parent path (Some on) (Some at) place below node is =
    let same = same_Some (record { on = on; node = at }) place is in
    record { below = below ∙ ap (λ (p : Parent). Some p.on) same; is_node = node ∙ ap (λ (p : Parent). Some p.node) same }

is_parent : (parent : Entry) (path : List Bool) (place : Parent) → above parent path ≡ Some place → IsParent parent path place
is_parent parent path place is = above_parts parent path (side parent.path path) (node_of parent.value) place refl refl is

node_is : (value : Value) (node : Node) → node_of value ≡ Some node → value ≡ values.Node node
node_is (values.Blob blob) node is = absurd (none-some node is)
node_is (values.Node other) node is = ap (λ (n : Node). values.Node n) (same_Some other node is)

-- the kind of a parent's node
parent_kind : (longest : ℕ) (parent : Entry) (path : List Bool) (place : Parent) → IsParent parent path place → IsOf longest parent.path parent.value
    → IsOf longest parent.path (values.Node place.node)
parent_kind longest parent path place is kind = subst (IsOf longest parent.path) (node_is parent.value place.node is.is_node) kind

-- a parent whose child left it
left_text : (wide : Bool) (longest : ℕ) (parent : Entry) (place : Parent) (node : Node) → HasText wide longest parent → IsOf longest parent.path (values.Node node)
    → HasText wide longest (left_by parent place node)
left_text wide longest parent place node text kind = record { tree = text.tree; kind = kind; kids = refl }

-- ---- an add under a parent

-- both have texts
pub record FamilyHasText (wide : Bool) (longest : ℕ) (family : Family) : Type 0 where
  pub parent : HasText wide longest family.parent
  pub child : HasText wide longest family.child

parent_text : (wide : Bool) (longest : ℕ) (parent : Entry) (place : Parent) (added : Added) (path : List Bool) (taken : Option Bool)
    → HasText wide longest parent → IsOf longest parent.path (values.Node added.node) → HasText wide longest (family_of parent place added path taken).parent
parent_text wide longest parent place added path taken text kind = record { tree = text.tree; kind = kind; kids = refl }

child_text : (wide : Bool) (longest : ℕ) (parent : Entry) (place : Parent) (added : Added) (path : List Bool) (taken : Option Bool)
    → IsIn wide path → IsOf longest path added.value → HasText wide longest (family_of parent place added path taken).child
child_text wide longest parent place added path None tree kind = record { tree = tree; kind = kind; kids = refl }
child_text wide longest parent place added path (Some true) tree kind = record { tree = tree; kind = kind; kids = refl }
child_text wide longest parent place added path (Some false) tree kind = record { tree = tree; kind = kind; kids = refl }

-- the family of an add, in whatever case
pub record IsMade (digest : Digest) (parent : Entry) (place : Parent) (path : List Bool) (value : Value) (family : Family) : Type 0 where
  pub taken : Option Bool
  pub made : family_of parent place (after_add digest place.node place.on path value) path taken ≡ family

made_by : (digest : Digest) (parent : Entry) (place : Parent) (path : List Bool) (value : Value) (case : AddCase) (family : Family)
    → add_by digest parent place path value case ≡ Ok family → IsMade digest parent place path value family
made_by digest parent place path value cases.Foreign family is = absurd (cc)
made_by digest parent place path value cases.Empty family is =
    let first = test-ok (not (same_value value (initial_value path))) _ _ family is in
    IfOk-at_ok (IsMade digest parent place path value) first.1 (record { taken = None; made = refl })
made_by digest parent place path value cases.Split family is =
    let first = test-ok (not (same_value value (initial_value path))) _ _ family is in
    IfOk-at_ok (IsMade digest parent place path value) first.1 (record { taken = leads_below path (node_side place.node place.on); made = refl })
made_by digest parent place path value cases.Same family is =
    let first = test-ok (is_deferred (node_side place.node place.on)) _ _ family is in
    let second = test-ok (not (has_digest (node_side place.node place.on) (digest (value_text value)))) _ _ family first.1 in
    let third = test-ok (kid_of parent place.on) _ _ family second.1 in
    IfOk-at_ok (IsMade digest parent place path value) third.1 (record { taken = None; made = refl })

-- A child that comes in under a parent, and the parent then.
pub added_text : (wide : Bool) (longest : ℕ) (digest : Digest) (parent : Entry) (path : List Bool) (value : Value) (family : Family) → GivesDigests digest
    → HasText wide longest parent → IsIn wide path → IsOf longest path value → add_under digest parent path value ≡ Ok family → FamilyHasText wide longest family
added_text wide longest digest parent path value family digests text tree kind is =
    let place = need-ok (above parent path) _ _ family is in
    let under = is_parent parent path place.0 place.1 in
    let how = made_by digest parent place.0 path value (case_of (node_side place.0.node place.0.on) path) family place.2 in
    let added = after_add digest place.0.node place.0.on path value in
    let kinds = IsOf-after_add longest digest parent.path path place.0.on place.0.node value digests under.below (parent_kind longest parent path place.0 under text.kind) kind in
    subst (FamilyHasText wide longest) how.made (record {
      parent = parent_text wide longest parent place.0 added path how.taken text kinds.0;
      child = child_text wide longest parent place.0 added path how.taken tree kinds.1;
    })

-- ---- an evict and a deferral

-- The parent behind an evict.
pub evicted_text : (wide : Bool) (longest : ℕ) (digest : Digest) (parent child after : Entry) → GivesDigests digest
    → HasText wide longest parent → HasText wide longest child → evict_under digest parent child ≡ Ok after → HasText wide longest after
evicted_text wide longest digest parent child after digests text own is =
    let place = need-ok (above parent child.path) _ _ after is in
    let under = is_parent parent child.path place.0 place.1 in
    let leads = test-ok (not (leads_to (node_side place.0.node place.0.on) child.path)) _ _ after place.2 in
    let lone = test-ok (has_kid child) _ _ after leads.1 in
    let held = test-ok (holds_wrong child.hold (kid_of parent place.0.on) (is_deferred (node_side place.0.node place.0.on))) _ _ after lone.1 in
    IfOk-at_ok (HasText wide longest) held.1
    (left_text wide longest parent place.0 (after_evict digest place.0.node place.0.on child.path child.value) text
    (IsOf-after_evict longest digest parent.path child.path place.0.on place.0.node child.value digests under.below (parent_kind longest parent child.path place.0 under text.kind) own.kind))

-- The parent behind a deferral.
pub deferred_text : (wide : Bool) (longest : ℕ) (parent child after : Entry) → HasText wide longest parent → defer_under parent child ≡ Ok after → HasText wide longest after
deferred_text wide longest parent child after text is =
    let place = need-ok (above parent child.path) _ _ after is in
    let under = is_parent parent child.path place.0 place.1 in
    let leads = test-ok (not (leads_to (node_side place.0.node place.0.on) child.path)) _ _ after place.2 in
    let lone = test-ok (has_kid child) _ _ after leads.1 in
    let held = test-ok (not (is_by_digest child.hold) || not (kid_of parent place.0.on)) _ _ after lone.1 in
    IfOk-at_ok (HasText wide longest) held.1
    (left_text wide longest parent place.0 (after_defer place.0.node place.0.on) text
    (IsOf-after_defer longest parent.path place.0.on place.0.node (parent_kind longest parent child.path place.0 under text.kind)))

-- ---- one entry

-- What comes in anew.
pub new_text : (wide : Bool) (longest : ℕ) (path : List Bool) (value : Value) (hold : Hold) → IsIn wide path → IsOf longest path value → HasText wide longest (new_entry path value hold)
new_text wide longest path value hold tree kind = record { tree = tree; kind = kind; kids = refl }

-- What is written.
pub written_text : (wide : Bool) (longest : ℕ) (entry : Entry) (value : Value) → HasText wide longest entry → IsOf longest entry.path value → HasText wide longest (with_value entry value)
written_text wide longest entry value text kind = record { tree = text.tree; kind = kind; kids = text.kids }

-- What a data path without a record would come in with.
pub absent_operand : (wide : Bool) (longest : ℕ) (parent : Entry) (path : List Bool) (entry : Entry) → IsIn wide path → IsData path → absent_under parent path ≡ Ok entry → IsOperand wide longest entry
absent_operand wide longest parent path entry tree data_path is =
    let place = need-ok (above parent path) _ _ entry is in
    let led = test-ok (leads_over (node_side place.0.node place.0.on) path) _ _ entry place.2 in
    IfOk-at_ok (IsOperand wide longest) led.1 (record { text = record { tree = tree; kind = (data_path, tt); kids = refl }; at_data = data_path })
