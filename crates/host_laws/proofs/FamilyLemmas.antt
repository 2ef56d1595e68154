-- How a child comes in under a parent whose kid bits are clear, and leaves it again.
use Rattle.std.proofs.Common.{◌≡◌, ℕ, Bool, true, false, not, ◌||◌, List, Option, Some, None, is_some, Ok, if◌then◌else◌, refl, ◌∙◌, ap}
use Rattle.std.specs.Option.{option_map}
use Rattle.tree_keys.specs.Path.{side, same_path}
use Rattle.tree_keys.proofs.PathLaws.{same_path-self, same_path-apart}
use Rattle.record_text.specs.declared.value.Pointer.{Pointer}
use Rattle.record_text.specs.declared.value.Node.{Node}
use Rattle.record_text.specs.declared.value.Value.{Value}
use Rattle.record_text.specs.declared.value.Value.TheVariants as values
use Rattle.record_text.specs.declared.refusal.Refusal.TheVariants as refusals
use Rattle.record_text.specs.Value.{node_side, with_side, initial_value}
use Rattle.record_text.specs.Texts.{value_text}
use Rattle.record_text.specs.Same.{same_bytes, same_value}
use Rattle.record_text.proofs.SameTestLaws.{same_bytes-self, same_value-self}
use Rattle.merkle_records.specs.declared.cases.AddCase.{AddCase}
use Rattle.merkle_records.specs.declared.cases.AddCase.TheVariants as cases
use Rattle.merkle_records.specs.Merkle.{Digest, case_of, pointing, pointer_to, deferred_pointer, taken_over, added_by, after_defer}
use Rattle.verifier_cache.specs.declared.entry.Entry.{Entry}
use Rattle.verifier_cache.specs.declared.entry.Hold.{Hold}
use Rattle.verifier_cache.specs.declared.entry.Hold.TheVariants.{M}
use Rattle.verifier_cache.specs.Entry.{kid_of, set_kid, has_kid, new_entry}
use Rattle.verifier_commands.specs.Changes.{Parent, above, above_on, leads_to, is_deferred, has_digest, leads_below, set_kid_on, family_of, add_by, add_under, left_by, evict_under, holds_wrong, is_by_digest, defer_under}
use Rattle.verifier_commands.proofs.BelowLaws.{below_apart}
use Rattle.host_laws.proofs.StepLemmas.{test-passed, need-there}

-- a parent with its child of a side in the cache, and no other
abbrev pub parent_of : List Bool → Node → Hold → Bool → Entry
parent_of at node hold on = set_kid (new_entry at (values.Node node) hold) on true

-- A child fits under a node: it is added with one value and stands then with another, and the node's pointer of
-- its side leads to it and is not deferred.
pub record Fits (digest : Digest) (at : List Bool) (node : Node) (on : Bool) (path : List Bool) (value taken : Value) : Type 0 where
  pub middle : Node
  pub pointer : Pointer
  pub below : side at path ≡ Some on
  pub added : (hold : Hold) → add_under digest (new_entry at (values.Node node) hold) path value
      ≡ Ok (record { parent = parent_of at middle hold on; child = new_entry path taken M })
  pub points : node_side middle on ≡ Some pointer
  pub to : pointer.path ≡ path
  pub fresh : pointer.deferred ≡ false
  pub over : (p : Option Pointer) → with_side middle on p ≡ with_side node on p

-- ---- the child leaves

kid_there : (at : List Bool) (node : Node) (hold : Hold) (on : Bool) → kid_of (parent_of at node hold on) on ≡ true
kid_there at node hold true = refl
kid_there at node hold false = refl

kid_gone : (at : List Bool) (node after : Node) (hold : Hold) (on : Bool)
    → left_by (parent_of at node hold on) (record { on = on; node = node }) after ≡ new_entry at (values.Node after) hold
kid_gone at node after hold true = refl
kid_gone at node after hold false = refl

-- a parent whose child of this side stands in the cache has it as a parent has
parent_there : (at path : List Bool) (node : Node) (hold : Hold) (on kid : Bool) → side at path ≡ Some on
    → above (set_kid (new_entry at (values.Node node) hold) on kid) path ≡ Some (record { on = on; node = node })
parent_there at path node hold on kid below = ap (λ (s : Option Bool). above_on s (Some node)) below

-- a child that was added leaves again
pub leaves : (digest : Digest) (at : List Bool) (node : Node) (on : Bool) (path : List Bool) (value taken last : Value) (hold : Hold)
    → (fits : Fits digest at node on path value taken)
    → evict_under digest (parent_of at fits.middle hold on) (new_entry path last M)
    ≡ Ok (new_entry at (values.Node (pointing digest node on path last)) hold)
leaves digest at node on path value taken last hold fits =
    need-there (above parent path) refusals.NotBelow _ _ (record { on = on; node = fits.middle })
    (parent_there at path fits.middle hold on true fits.below)
    (test-passed (not (leads_to (node_side fits.middle on) path)) refusals.NotChild _ _ leads
    (test-passed (has_kid (new_entry path last M)) refusals.HasChild _ _ refl
    (test-passed (holds_wrong M (kid_of parent on) (is_deferred (node_side fits.middle on))) refusals.WrongHold _ _ held
    (ap (λ (e : Entry). Ok e)
    (kid_gone at fits.middle (pointing digest fits.middle on path last) hold on
    ∙ ap (λ (n : Node). new_entry at (values.Node n) hold) (fits.over (Some (pointer_to digest path last))))))))
  where
    parent : Entry
    parent = parent_of at fits.middle hold on

    leads : not (leads_to (node_side fits.middle on) path) ≡ false
    leads =
        ap (λ (o : Option Pointer). not (leads_to o path)) fits.points
        ∙ (ap (λ (p : List Bool). not (same_path p path)) fits.to ∙ ap (λ (b : Bool). not b) (same_path-self path))

    held : holds_wrong M (kid_of parent on) (is_deferred (node_side fits.middle on)) ≡ false
    held =
        ap (λ (b : Bool). not b || is_deferred (node_side fits.middle on)) (kid_there at fits.middle hold on)
        ∙ (ap (λ (o : Option Pointer). is_deferred o) fits.points ∙ fits.fresh)

-- ---- where a child fits

pointing-there : (node : Node) (on : Bool) (pointer : Option Pointer) → node_side (with_side node on pointer) on ≡ pointer
pointing-there node true pointer = refl
pointing-there node false pointer = refl

pointing-over : (node : Node) (on : Bool) (first second : Option Pointer) → with_side (with_side node on first) on second ≡ with_side node on second
pointing-over node true first second = refl
pointing-over node false first second = refl

kid_clear : (at : List Bool) (node : Node) (hold : Hold) (on : Bool) → kid_of (new_entry at (values.Node node) hold) on ≡ false
kid_clear at node hold true = refl
kid_clear at node hold false = refl

-- where the pointer leads nowhere, a path with its initial value
pub fits_new : (digest : Digest) (at key : List Bool) (node : Node) (on : Bool)
    → side at key ≡ Some on → node_side node on ≡ None
    → Fits digest at node on key (initial_value key) (initial_value key)
fits_new digest at key node on below none = record {
  middle = pointing digest node on key (initial_value key);
  pointer = pointer_to digest key (initial_value key);
  below = below;
  added = added;
  points = pointing-there node on _;
  to = refl;
  fresh = refl;
  over = pointing-over node on _;
}
  where
    above_it : Parent
    above_it = record { on = on; node = node }

    added : (hold : Hold) → add_under digest (new_entry at (values.Node node) hold) key (initial_value key)
        ≡ Ok (record { parent = parent_of at (pointing digest node on key (initial_value key)) hold on; child = new_entry key (initial_value key) M })
    added hold =
        need-there (above (new_entry at (values.Node node) hold) key) refusals.NotBelow _ _ above_it
        (ap (λ (s : Option Bool). above_on s (Some node)) below)
        (ap (λ (c : AddCase). add_by digest (new_entry at (values.Node node) hold) above_it key (initial_value key) c)
        (ap (λ (o : Option Pointer). case_of o key) none)
        ∙ test-passed (not (same_value (initial_value key) (initial_value key))) refusals.NotInitial _ _
        (ap (λ (b : Bool). not b) (same_value-self (initial_value key)))
        (ap (λ (o : Option Pointer). Ok (family_of (new_entry at (values.Node node) hold) above_it (added_by digest node on key (initial_value key) o (case_of o key)) key None)) none))

-- where it leads to the path, with the digest of its value
pub fits_known : (digest : Digest) (at : List Bool) (node : Node) (on : Bool) (pointer : Pointer) (value : Value)
    → side at pointer.path ≡ Some on → node_side node on ≡ Some pointer → pointer.deferred ≡ false
    → pointer.digest ≡ digest (value_text value)
    → Fits digest at node on pointer.path value value
fits_known digest at node on pointer value below points fresh kept = record {
  middle = node;
  pointer = pointer;
  below = below;
  added = added;
  points = points;
  to = refl;
  fresh = fresh;
  over = λ p. refl;
}
  where
    path : List Bool
    path = pointer.path

    above_it : Parent
    above_it = record { on = on; node = node }

    same : case_of (Some pointer) path ≡ cases.Same
    same =
        ap (λ (b : Bool). if b then cases.Same else if is_some (side path pointer.path) then cases.Split else cases.Foreign) (same_path-self path)

    right : not (has_digest (node_side node on) (digest (value_text value))) ≡ false
    right =
        ap (λ (o : Option Pointer). not (has_digest o (digest (value_text value)))) points
        ∙ (ap (λ (d : List ℕ). not (same_bytes d (digest (value_text value)))) kept
        ∙ ap (λ (b : Bool). not b) (same_bytes-self (digest (value_text value))))

    added : (hold : Hold) → add_under digest (new_entry at (values.Node node) hold) path value
        ≡ Ok (record { parent = parent_of at node hold on; child = new_entry path value M })
    added hold =
        need-there (above (new_entry at (values.Node node) hold) path) refusals.NotBelow _ _ above_it
        (ap (λ (s : Option Bool). above_on s (Some node)) below)
        (ap (λ (c : AddCase). add_by digest (new_entry at (values.Node node) hold) above_it path value c)
        (ap (λ (o : Option Pointer). case_of o path) points ∙ same)
        ∙ test-passed (is_deferred (node_side node on)) refusals.Deferred _ _ (ap (λ (o : Option Pointer). is_deferred o) points ∙ fresh)
        (test-passed (not (has_digest (node_side node on) (digest (value_text value)))) refusals.WrongDigest _ _ right
        (test-passed (kid_of (new_entry at (values.Node node) hold) on) refusals.HasChild _ _ (kid_clear at node hold on)
        (ap (λ (o : Option Pointer). Ok (family_of (new_entry at (values.Node node) hold) above_it (added_by digest node on path value o (case_of o path)) path None)) points
        ∙ ap (λ (c : AddCase). Ok (family_of (new_entry at (values.Node node) hold) above_it (added_by digest node on path value (Some pointer) c) path None)) same))))

-- a child without kids is the same with a kid bit cleared
lone : (path : List Bool) (value : Value) (hold : Hold) (on : Bool) → set_kid (new_entry path value hold) on false ≡ new_entry path value hold
lone path value hold true = refl
lone path value hold false = refl

-- where it leads below the path: the path takes the pointer over
pub fits_fork : (digest : Digest) (at fork : List Bool) (node : Node) (on which : Bool) (pointer : Pointer)
    → side at fork ≡ Some on → node_side node on ≡ Some pointer → side fork pointer.path ≡ Some which
    → Fits digest at node on fork (initial_value fork) (values.Node (taken_over (side fork pointer.path) pointer))
fits_fork digest at fork node on which pointer below points further = record {
  middle = pointing digest node on fork (initial_value fork);
  pointer = pointer_to digest fork (initial_value fork);
  below = below;
  added = added;
  points = pointing-there node on _;
  to = refl;
  fresh = refl;
  over = pointing-over node on _;
}
  where
    above_it : Parent
    above_it = record { on = on; node = node }

    taken : Value
    taken = values.Node (taken_over (side fork pointer.path) pointer)

    parts : case_of (Some pointer) fork ≡ cases.Split
    parts =
        ap (λ (b : Bool). if b then cases.Same else if is_some (side fork pointer.path) then cases.Split else cases.Foreign)
        (same_path-apart pointer.path fork (below_apart fork pointer.path which further))
        ∙ ap (λ (s : Option Bool). if is_some s then cases.Split else cases.Foreign) further

    child : (hold : Hold) → set_kid_on (new_entry fork taken M) (side fork pointer.path) (kid_of (new_entry at (values.Node node) hold) on) ≡ new_entry fork taken M
    child hold =
        ap (λ (s : Option Bool). set_kid_on (new_entry fork taken M) s (kid_of (new_entry at (values.Node node) hold) on)) further
        ∙ (ap (λ (b : Bool). set_kid (new_entry fork taken M) which b) (kid_clear at node hold on)
        ∙ lone fork taken M which)

    added : (hold : Hold) → add_under digest (new_entry at (values.Node node) hold) fork (initial_value fork)
        ≡ Ok (record { parent = parent_of at (pointing digest node on fork (initial_value fork)) hold on; child = new_entry fork taken M })
    added hold =
        need-there (above (new_entry at (values.Node node) hold) fork) refusals.NotBelow _ _ above_it
        (ap (λ (s : Option Bool). above_on s (Some node)) below)
        (ap (λ (c : AddCase). add_by digest (new_entry at (values.Node node) hold) above_it fork (initial_value fork) c)
        (ap (λ (o : Option Pointer). case_of o fork) points ∙ parts)
        ∙ test-passed (not (same_value (initial_value fork) (initial_value fork))) refusals.NotInitial _ _
        (ap (λ (b : Bool). not b) (same_value-self (initial_value fork)))
        (ap (λ (o : Option Pointer). Ok (family_of (new_entry at (values.Node node) hold) above_it (added_by digest node on fork (initial_value fork) o (case_of o fork)) fork (leads_below fork o))) points
        ∙ (ap (λ (c : AddCase). Ok (family_of (new_entry at (values.Node node) hold) above_it (added_by digest node on fork (initial_value fork) (Some pointer) c) fork (side fork pointer.path))) parts
        ∙ ap (λ (e : Entry). Ok (record { parent = parent_of at (pointing digest node on fork (initial_value fork)) hold on; child = e })) (child hold))))

-- its pointer
pub fits_new-pointer : (digest : Digest) (at key : List Bool) (node : Node) (on : Bool)
    → (below : side at key ≡ Some on) (none : node_side node on ≡ None)
    → (fits_new digest at key node on below none).pointer ≡ pointer_to digest key (initial_value key)
unfolding fits_new
fits_new-pointer digest at key node on below none = refl

-- ---- the child is lent

-- the node of a parent whose child of a side was lent: the pointer to it is marked
abbrev pub lending : Node → Bool → Pointer → Node
lending node on pointer = with_side node on (Some (deferred_pointer pointer))

-- a child that was added is deferred
pub is_lent : (digest : Digest) (at : List Bool) (node : Node) (on : Bool) (path : List Bool) (value taken : Value) (hold : Hold)
    → (fits : Fits digest at node on path value taken)
    → defer_under (parent_of at fits.middle hold on) (new_entry path taken M)
    ≡ Ok (new_entry at (values.Node (lending node on fits.pointer)) hold)
is_lent digest at node on path value taken hold fits =
    need-there (above parent path) refusals.NotBelow _ _ (record { on = on; node = fits.middle })
    (parent_there at path fits.middle hold on true fits.below)
    (test-passed (not (leads_to (node_side fits.middle on) path)) refusals.NotChild _ _ leads
    (test-passed (has_kid (new_entry path taken M)) refusals.HasChild _ _ refl
    (test-passed (not (is_by_digest M) || not (kid_of parent on)) refusals.WrongHold _ _ (ap (λ (b : Bool). not b) (kid_there at fits.middle hold on))
    (ap (λ (e : Entry). Ok e)
    (kid_gone at fits.middle (after_defer fits.middle on) hold on
    ∙ ap (λ (n : Node). new_entry at (values.Node n) hold)
    (ap (λ (o : Option Pointer). with_side fits.middle on (option_map deferred_pointer o)) fits.points
    ∙ fits.over (Some (deferred_pointer fits.pointer))))))))
  where
    parent : Entry
    parent = parent_of at fits.middle hold on

    leads : not (leads_to (node_side fits.middle on) path) ≡ false
    leads =
        ap (λ (o : Option Pointer). not (leads_to o path)) fits.points
        ∙ (ap (λ (p : List Bool). not (same_path p path)) fits.to ∙ ap (λ (b : Bool). not b) (same_path-self path))
