-- A pointer and a kid bit that are written where an entry stands make the parent that the definitions tell.
use Rattle.std.proofs.Common.{◌≡◌, Bool, true, false, List, Option, None, refl, sym, ◌∙◌, ap, subst}
use Rattle.record_text.specs.declared.value.Pointer.{Pointer}
use Rattle.record_text.specs.declared.value.Node.{Node}
use Rattle.record_text.specs.declared.value.Value.{Value}
use Rattle.record_text.specs.declared.value.Value.TheVariants as values
use Rattle.record_text.specs.Value.{node_side, with_side}
use Rattle.merkle_records.specs.declared.cases.AddCase.{AddCase}
use Rattle.merkle_records.specs.declared.cases.AddCase.TheVariants.{Empty, Same, Split, Foreign}
use Rattle.merkle_records.specs.Merkle.{Digest, Added, IsAdded, case_of, added_by, after_add}
use Rattle.verifier_cache.specs.declared.entry.Entry.{Entry}
use Rattle.verifier_cache.specs.declared.entry.Hold.TheVariants.{M}
use Rattle.verifier_cache.specs.Entry.{kid_of, set_kid, with_value, with_pointer, linked, new_entry}
use Rattle.verifier_commands.specs.Changes.{Family, with_node, set_kid_on, family_of}

-- the node of the entry is known
pub linked-node : (parent : Entry) (node : Node) (on : Bool) (pointer : Option Pointer) (kid : Bool) → parent.value ≡ values.Node node
    → linked parent on pointer kid ≡ set_kid (with_node parent (with_side node on pointer)) on kid
linked-node parent node on pointer kid is = ap (λ (v : Value). set_kid (with_value parent (with_pointer v on pointer)) on kid) is

pub ruleset link_view = (linked-node)

-- the family of an add, by the pointer that the parent gets and the value with which the child stands in the cache
pub family-joined : (parent : Entry) (node : Node) (on : Bool) (pointer : Option Pointer) (came : Value) (added : Added) (path : List Bool) (taken : Option Bool)
    → parent.value ≡ values.Node node → IsAdded (with_side node on pointer, came) added
    → family_of parent (record { on = on; node = node }) added path taken
    ≡ record { parent = linked parent on pointer true; child = set_kid_on (new_entry path came M) taken (kid_of parent on) }
family-joined parent node on pointer came added path taken is made =
    ap (λ (n : Node). let family : Family = record { parent = set_kid (with_node parent n) on true; child = set_kid_on (new_entry path added.value M) taken (kid_of parent on) } in family) (sym made.0)
    ∙ (ap (λ (v : Value). let family : Family = record { parent = set_kid (with_node parent (with_side node on pointer)) on true; child = set_kid_on (new_entry path v M) taken (kid_of parent on) } in family) (sym made.1)
    ∙ ap (λ (e : Entry). let family : Family = record { parent = e; child = set_kid_on (new_entry path came M) taken (kid_of parent on) } in family) (sym (linked-node parent node on pointer true is)))

pub ruleset join_view = (family-joined)

with_side-same : (node : Node) (on : Bool) → with_side node on (node_side node on) ≡ node
with_side-same node false = refl
with_side-same node true = refl

-- an add again leaves the parent's pointer as it is, and the child comes with the command's value
again-added : (digest : Digest) (node : Node) (on : Bool) (path : List Bool) (value : Value) (case : AddCase) → case ≡ Same → with_side node on (node_side node on) ≡ node
    → IsAdded (with_side node on (node_side node on), value) (added_by digest node on path value (node_side node on) case)
again-added digest node on path value Same is same = (same, refl)
again-added digest node on path value Empty is same = absurd (cc)
again-added digest node on path value Split is same = absurd (cc)
again-added digest node on path value Foreign is same = absurd (cc)

-- so the family of an add again
pub family-again : (digest : Digest) (parent : Entry) (node : Node) (on : Bool) (pointer : Option Pointer) (path : List Bool) (value : Value)
    → parent.value ≡ values.Node node → case_of (node_side node on) path ≡ Same → pointer ≡ node_side node on
    → family_of parent (record { on = on; node = node }) (after_add digest node on path value) path None
    ≡ record { parent = linked parent on pointer true; child = new_entry path value M }
family-again digest parent node on pointer path value is again own =
    subst (λ (p : Option Pointer). let family : Family = record { parent = linked parent on p true; child = new_entry path value M } in
    family_of parent (record { on = on; node = node }) (after_add digest node on path value) path None ≡ family) (sym own)
    (family-joined parent node on (node_side node on) value (after_add digest node on path value) path None is
    (again-added digest node on path value (case_of (node_side node on) path) again (with_side-same node on)))

pub ruleset again_view = (family-again)
