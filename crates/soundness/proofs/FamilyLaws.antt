-- What an accepted add, evict or deferral of a child under its parent tells, and what it makes of the two; and what an
-- accepted absence tells of the parent.
use Rattle.std.proofs.Common.{◌≡◌, ◌≢◌, Bool, true, false, not, ◌||◌, List, Option, Some, None, is_some, Result, Ok, Err, refl, sym, ◌∙◌, ap, subst, if◌then◌else◌}
use Rattle.std.specs.Option.{option_map}
use Rattle.std.proofs.lemmas.Bool.{false≢true, true≢false}
use Rattle.std.proofs.lemmas.Option.{none-some, same_Some}
use Rattle.tree_keys.specs.Path.{side, same_path}
use Rattle.tree_keys.proofs.PathLaws.{same_path-true}
use Rattle.base_words.specs.Steps.{test, need}
use Rattle.record_text.specs.declared.value.Pointer.{Pointer}
use Rattle.record_text.specs.declared.value.Node.{Node}
use Rattle.record_text.specs.declared.value.Value.{Value}
use Rattle.record_text.specs.declared.value.Value.TheVariants as values
use Rattle.record_text.specs.declared.refusal.Refusal.{Refusal}
use Rattle.record_text.specs.declared.refusal.Refusal.TheVariants as refusals
use Rattle.record_text.specs.Value.{node_side, with_side, empty_node, initial_value}
use Rattle.record_text.specs.Texts.{value_text}
use Rattle.merkle_records.specs.declared.cases.AddCase.{AddCase}
use Rattle.merkle_records.specs.declared.cases.AddCase.TheVariants as cases
use Rattle.merkle_records.specs.Merkle.{Digest, case_of, pointing, Added, added_by, after_add, after_evict, after_defer, taken_over, deferred_pointer, leads_over}
use Rattle.verifier_cache.specs.declared.entry.Entry.{Entry}
use Rattle.verifier_cache.specs.Entry.{kid_of, set_kid, has_kid}
use Rattle.record_text.specs.Same.{same_value, same_bytes}
use Rattle.record_text.proofs.SameTestLaws.{same_value-true, same_bytes-true}
use Rattle.verifier_commands.specs.Changes.{Parent, Family, node_of, above_on, above, leads_to, is_deferred, has_digest, leads_below, family_of, add_by, add_under, holds_wrong, left_by, evict_under, is_by_digest, defer_under, unset, absent_under}
use Rattle.verifier_commands.proofs.InvertLaws.{need-ok}

-- ---- tests in order, from their outcome back

err_ok : {A E : Type 0} (fault : E) (answer : A) → Err fault ≡ Ok answer → ⊥
err_ok fault answer is = false≢true (ap (λ (r : Result _ _). got r) is)
  where
    got : {A E : Type 0} → Result A E → Bool
    got (Ok value) = true
    got (Err fault) = false

same_Ok : {A E : Type 0} (x y : A) → ◌≡◌ {A = Result A E} (Ok x) (Ok y) → x ≡ y
same_Ok x y is = ap (value_or x) is
  where
    value_or : {A E : Type 0} → A → Result A E → A
    value_or other (Ok value) = value
    value_or other (Err fault) = other

test_passed : {E X : Type 0} (b : Bool) (refusal : E) (next : Result X E) (x : X) → test b refusal next ≡ Ok x → (b ≡ false) × (next ≡ Ok x)
test_passed true refusal next x is = absurd (err_ok refusal x is)
test_passed false refusal next x is = (refl, is)

-- ---- what an add tells

-- The parent's pointer of the child's side leads nowhere, to the child, or below it; and what the two become.
pub data IsAdd (digest : Digest) (parent : Entry) (path : List Bool) (value : Value) (on : Bool) (at : Node) (family : Family) : Type 0 where
  on_empty : node_side at on ≡ None → value ≡ initial_value path
      → family ≡ family_of parent (record { on = on; node = at }) (record { node = pointing digest at on path value; value = value }) path None
      → IsAdd digest parent path value on at family
  on_same : (pointer : Pointer) → node_side at on ≡ Some pointer → pointer.path ≡ path → pointer.deferred ≡ false
      → pointer.digest ≡ digest (value_text value) → kid_of parent on ≡ false
      → family ≡ family_of parent (record { on = on; node = at }) (record { node = at; value = value }) path None
      → IsAdd digest parent path value on at family
  on_split : (pointer : Pointer) → node_side at on ≡ Some pointer → (which : Bool) → side path pointer.path ≡ Some which → value ≡ initial_value path
      → family ≡ family_of parent (record { on = on; node = at })
      (record { node = pointing digest at on path (initial_value path); value = values.Node (with_side empty_node which (Some pointer)) }) path (Some which)
      → IsAdd digest parent path value on at family

-- the parent is a node, and the child lies below it on a side
pub record IsAdded (digest : Digest) (parent : Entry) (path : List Bool) (value : Value) (family : Family) : Type 0 where
  pub on : Bool
  pub at : Node
  pub below : side parent.path path ≡ Some on
  pub is_node : node_of parent.value ≡ Some at
  pub how : IsAdd digest parent path value on at family

pub added_how : (digest : Digest) (parent : Entry) (path : List Bool) (value : Value) (family : Family)
    → add_under digest parent path value ≡ Ok family → IsAdded digest parent path value family
added_how digest parent path value family is = by_side (side parent.path path) refl is
  where
    initial : (next : Result Family Refusal) → test (not (same_value value (initial_value path))) refusals.NotInitial next ≡ Ok family
        → (value ≡ initial_value path) × (next ≡ Ok family)
    initial next is = go (same_value value (initial_value path)) refl is
      where
        go : (b : Bool) → same_value value (initial_value path) ≡ b → test (not b) refusals.NotInitial next ≡ Ok family → (value ≡ initial_value path) × (next ≡ Ok family)
        go true same is = (same_value-true value (initial_value path) same, is)
        go false same is = absurd (err_ok refusals.NotInitial family is)

    empty : (on : Bool) (at : Node) (pointer : Option Pointer) → node_side at on ≡ pointer → pointer ≡ None
        → test (not (same_value value (initial_value path))) refusals.NotInitial
        (Ok (family_of parent (record { on = on; node = at }) (added_by digest at on path value pointer cases.Empty) path None)) ≡ Ok family
        → IsAdd digest parent path value on at family
    empty on at pointer there none is =
        let told = initial (Ok (family_of parent (record { on = on; node = at }) (added_by digest at on path value pointer cases.Empty) path None)) is in
        on_empty (there ∙ none) told.0 (sym (same_Ok _ family told.1))

    same : (on : Bool) (at : Node) (pointer : Pointer) → node_side at on ≡ Some pointer → same_path pointer.path path ≡ true
        → test pointer.deferred refusals.Deferred
        (test (not (same_bytes pointer.digest (digest (value_text value)))) refusals.WrongDigest
        (test (kid_of parent on) refusals.HasChild
        (Ok (family_of parent (record { on = on; node = at }) (record { node = at; value = value }) path None)))) ≡ Ok family
        → IsAdd digest parent path value on at family
    same on at pointer there is_path is =
        let first = test_passed pointer.deferred refusals.Deferred _ family is in
        let second = test_passed (not (same_bytes pointer.digest (digest (value_text value)))) refusals.WrongDigest _ family first.1 in
        let third = test_passed (kid_of parent on) refusals.HasChild _ family second.1 in
        on_same pointer there (same_path-true pointer.path path is_path) first.0
        (same_bytes-true pointer.digest (digest (value_text value)) (passed (same_bytes pointer.digest (digest (value_text value))) second.0))
        third.0 (sym (same_Ok _ family third.1))
      where
        passed : (b : Bool) → not b ≡ false → b ≡ true
        passed true h = refl
        passed false h = absurd (true≢false h)

    split : (on : Bool) (at : Node) (pointer : Pointer) → node_side at on ≡ Some pointer → (s : Option Bool) → side path pointer.path ≡ s
        → add_by digest parent (record { on = on; node = at }) path value (if is_some s then cases.Split else cases.Foreign) ≡ Ok family
        → case_of (node_side at on) path ≡ (if is_some s then cases.Split else cases.Foreign)
        → IsAdd digest parent path value on at family
    split on at pointer there None below is by = absurd (err_ok refusals.Foreign family is)
    split on at pointer there (Some which) below is by =
        let told = initial _ is in
        on_split pointer there which below told.0 (sym (same_Ok _ family told.1) ∙ family_is)
      where
        family_is : family_of parent (record { on = on; node = at }) (after_add digest at on path value) path (leads_below path (node_side at on))
            ≡ family_of parent (record { on = on; node = at })
            (record { node = pointing digest at on path (initial_value path); value = values.Node (with_side empty_node which (Some pointer)) }) path (Some which)
        family_is =
            ap (λ (c : AddCase). family_of parent (record { on = on; node = at }) (added_by digest at on path value (node_side at on) c) path (leads_below path (node_side at on))) by
            ∙ ap (λ (o : Option Pointer). family_of parent (record { on = on; node = at }) (added_by digest at on path value o cases.Split) path (leads_below path o)) there
            ∙ ap (λ (s : Option Bool). family_of parent (record { on = on; node = at })
            (record { node = pointing digest at on path (initial_value path); value = values.Node (taken_over s pointer) }) path s) below

    by_pointer : (on : Bool) (at : Node) (pointer : Option Pointer) → node_side at on ≡ pointer
        → add_by digest parent (record { on = on; node = at }) path value (case_of (node_side at on) path) ≡ Ok family
        → IsAdd digest parent path value on at family
    by_pointer on at None there is =
        empty on at None there refl
        (subst (λ (a : Added). test (not (same_value value (initial_value path))) refusals.NotInitial
        (Ok (family_of parent (record { on = on; node = at }) a path None)) ≡ Ok family) (as_added None there)
        (subst (λ (c : AddCase). add_by digest parent (record { on = on; node = at }) path value c ≡ Ok family) (ap (λ (o : Option Pointer). case_of o path) there) is))
      where
        as_added : (o : Option Pointer) → node_side at on ≡ o → after_add digest at on path value ≡ added_by digest at on path value o (case_of o path)
        as_added o there = ap (λ (q : Option Pointer). added_by digest at on path value q (case_of q path)) there
    by_pointer on at (Some pointer) there is = by_same (same_path pointer.path path) refl
      where
        by_same : (b : Bool) → same_path pointer.path path ≡ b → IsAdd digest parent path value on at family
        by_same true is_path =
            same on at pointer there is_path
            (subst (λ (a : Added). test pointer.deferred refusals.Deferred
            (test (not (same_bytes pointer.digest (digest (value_text value)))) refusals.WrongDigest
            (test (kid_of parent on) refusals.HasChild
            (Ok (family_of parent (record { on = on; node = at }) a path None)))) ≡ Ok family) added
            (subst (λ (o : Option Pointer). test (is_deferred o) refusals.Deferred
            (test (not (has_digest o (digest (value_text value)))) refusals.WrongDigest
            (test (kid_of parent on) refusals.HasChild
            (Ok (family_of parent (record { on = on; node = at }) (after_add digest at on path value) path None)))) ≡ Ok family) there
            (subst (λ (c : AddCase). add_by digest parent (record { on = on; node = at }) path value c ≡ Ok family) case_same is)))
          where
            case_same : case_of (node_side at on) path ≡ cases.Same
            case_same = ap (λ (o : Option Pointer). case_of o path) there ∙ ap (λ (b : Bool). if b then cases.Same else if is_some (side path pointer.path) then cases.Split else cases.Foreign) is_path

            added : after_add digest at on path value ≡ record { node = at; value = value }
            added = ap (λ (c : AddCase). added_by digest at on path value (node_side at on) c) case_same
        by_same false apart =
            split on at pointer there (side path pointer.path) refl
            (subst (λ (c : AddCase). add_by digest parent (record { on = on; node = at }) path value c ≡ Ok family) case_split is) case_split
          where
            case_split : case_of (node_side at on) path ≡ (if is_some (side path pointer.path) then cases.Split else cases.Foreign)
            case_split = ap (λ (o : Option Pointer). case_of o path) there ∙ ap (λ (b : Bool). if b then cases.Same else if is_some (side path pointer.path) then cases.Split else cases.Foreign) apart

    by_node : (on : Bool) → side parent.path path ≡ Some on → (o : Option Node) → node_of parent.value ≡ o
        → need (above_on (Some on) o) refusals.NotBelow (λ above. add_by digest parent above path value (case_of (node_side above.node above.on) path)) ≡ Ok family
        → IsAdded digest parent path value family
    by_node on below None there is = absurd (err_ok refusals.NotBelow family is)
    by_node on below (Some at) there is =
        record { on = on; at = at; below = below; is_node = there; how = by_pointer on at (node_side at on) refl is }

    by_side : (s : Option Bool) → side parent.path path ≡ s
        → need (above_on s (node_of parent.value)) refusals.NotBelow (λ above. add_by digest parent above path value (case_of (node_side above.node above.on) path)) ≡ Ok family
        → IsAdded digest parent path value family
    by_side None below is = absurd (err_ok refusals.NotBelow family is)
    by_side (Some on) below is = by_node on below (node_of parent.value) refl is

-- ---- what an evict and a deferral tell

-- The parent's pointer of the child's side leads to the child, and no child of its own stands under it.
pub record IsLeft (parent child after : Entry) (changed : Node → Bool → Pointer → Node) : Type 0 where
  pub on : Bool
  pub at : Node
  pub pointer : Pointer
  pub below : side parent.path child.path ≡ Some on
  pub is_node : node_of parent.value ≡ Some at
  pub points : node_side at on ≡ Some pointer
  pub leads : pointer.path ≡ child.path
  pub kids : has_kid child ≡ false
  pub after_is : after ≡ left_by parent (record { on = on; node = at }) (changed at on pointer)

-- the tests that an evict and a deferral begin with, and what comes behind them
left_how : (parent child after : Entry) (changed : Node → Bool → Pointer → Node) (then_do : Bool → Node → Result Entry Refusal)
    → ((on : Bool) (at : Node) (pointer : Pointer) → node_side at on ≡ Some pointer → then_do on at ≡ Ok after
    → after ≡ left_by parent (record { on = on; node = at }) (changed at on pointer))
    → need (above parent child.path) refusals.NotBelow
    (λ above.
    test (not (leads_to (node_side above.node above.on) child.path)) refusals.NotChild
    (test (has_kid child) refusals.HasChild (then_do above.on above.node))) ≡ Ok after
    → IsLeft parent child after changed
left_how parent child after changed then_do ends is = by_side (side parent.path child.path) refl is
  where
    by_pointer : (on : Bool) (at : Node) → side parent.path child.path ≡ Some on → node_of parent.value ≡ Some at → (o : Option Pointer) → node_side at on ≡ o
        → test (not (leads_to o child.path)) refusals.NotChild (test (has_kid child) refusals.HasChild (then_do on at)) ≡ Ok after → IsLeft parent child after changed
    by_pointer on at below is_node None there is = absurd (err_ok refusals.NotChild after is)
    by_pointer on at below is_node (Some pointer) there is = go (same_path pointer.path child.path) refl is
      where
        go : (b : Bool) → same_path pointer.path child.path ≡ b → test (not b) refusals.NotChild (test (has_kid child) refusals.HasChild (then_do on at)) ≡ Ok after
            → IsLeft parent child after changed
        go false apart is = absurd (err_ok refusals.NotChild after is)
        go true leads is =
            let told = test_passed (has_kid child) refusals.HasChild (then_do on at) after is in
            record {
              on = on;
              at = at;
              pointer = pointer;
              below = below;
              is_node = is_node;
              points = there;
              leads = same_path-true pointer.path child.path leads;
              kids = told.0;
              after_is = ends on at pointer there told.1;
            }

    by_node : (on : Bool) → side parent.path child.path ≡ Some on → (o : Option Node) → node_of parent.value ≡ o
        → need (above_on (Some on) o) refusals.NotBelow
        (λ above.
        test (not (leads_to (node_side above.node above.on) child.path)) refusals.NotChild
        (test (has_kid child) refusals.HasChild (then_do above.on above.node))) ≡ Ok after
        → IsLeft parent child after changed
    by_node on below None there is = absurd (err_ok refusals.NotBelow after is)
    by_node on below (Some at) there is = by_pointer on at below there (node_side at on) refl is

    by_side : (s : Option Bool) → side parent.path child.path ≡ s
        → need (above_on s (node_of parent.value)) refusals.NotBelow
        (λ above.
        test (not (leads_to (node_side above.node above.on) child.path)) refusals.NotChild
        (test (has_kid child) refusals.HasChild (then_do above.on above.node))) ≡ Ok after
        → IsLeft parent child after changed
    by_side None below is = absurd (err_ok refusals.NotBelow after is)
    by_side (Some on) below is = by_node on below (node_of parent.value) refl is

-- an evict gives the pointer the digest of the value that goes out
abbrev pub evicted_into : Digest → Entry → Node → Bool → Pointer → Node
evicted_into digest child at on pointer = pointing digest at on child.path child.value

pub evicted_how : (digest : Digest) (parent child after : Entry) → evict_under digest parent child ≡ Ok after
    → IsLeft parent child after (evicted_into digest child)
evicted_how digest parent child after is =
    left_how parent child after (evicted_into digest child)
    (λ on at. test (holds_wrong child.hold (kid_of parent on) (is_deferred (node_side at on))) refusals.WrongHold
    (Ok (left_by parent (record { on = on; node = at }) (after_evict digest at on child.path child.value))))
    (λ on at pointer there passed. sym (same_Ok _ after (test_passed (holds_wrong child.hold (kid_of parent on) (is_deferred (node_side at on))) refusals.WrongHold _ after passed).1))
    is

-- a deferral sets the pointer's flag
abbrev pub deferred_in : Node → Bool → Pointer → Node
deferred_in at on pointer = with_side at on (Some (deferred_pointer pointer))

pub deferred_how : (parent child after : Entry) → defer_under parent child ≡ Ok after → IsLeft parent child after deferred_in
deferred_how parent child after is =
    left_how parent child after deferred_in
    (λ on at. test (not (is_by_digest child.hold) || not (kid_of parent on)) refusals.WrongHold
    (Ok (left_by parent (record { on = on; node = at }) (after_defer at on))))
    (λ on at pointer there passed.
    sym (same_Ok _ after (test_passed (not (is_by_digest child.hold) || not (kid_of parent on)) refusals.WrongHold _ after passed).1)
    ∙ ap (λ (o : Option Pointer). left_by parent (record { on = on; node = at }) (with_side at on (option_map deferred_pointer o))) there)
    is

-- ---- what an absence tells

-- The parent's pointer of the path's side leads neither to it nor above it.
pub record IsLacking (parent : Entry) (path : List Bool) (entry : Entry) : Type 0 where
  pub on : Bool
  pub at : Node
  pub below : side parent.path path ≡ Some on
  pub is_node : node_of parent.value ≡ Some at
  pub leads : leads_over (node_side at on) path ≡ false
  pub entry_is : entry ≡ unset path

-- a parent on a side with its node, where there are both
above_parts : (on : Option Bool) (at : Option Node) (place : Parent) → above_on on at ≡ Some place
    → (on ≡ Some place.on) × (at ≡ Some place.node)
above_parts None at place is = absurd (none-some place is)
above_parts (Some on) None place is = absurd (none-some place is)
above_parts (Some on) (Some at) place is =
    let same = same_Some (record { on = on; node = at }) place is in
    (ap (λ (p : Parent). Some p.on) same, ap (λ (p : Parent). Some p.node) same)

pub absent_how : (parent : Entry) (path : List Bool) (entry : Entry) → absent_under parent path ≡ Ok entry → IsLacking parent path entry
absent_how parent path entry is =
    let place = need-ok (above parent path) _ _ entry is in
    let parts = above_parts (side parent.path path) (node_of parent.value) place.0 place.1 in
    let led = test_passed (leads_over (node_side place.0.node place.0.on) path) refusals.Present (Ok (unset path)) entry place.2 in
    record {
      on = place.0.on;
      at = place.0.node;
      below = parts.0;
      is_node = parts.1;
      leads = led.0;
      entry_is = sym (same_Ok _ entry led.1);
    }

-- ---- kid bits and pointers, once changed

pub kid_set : (entry : Entry) (on kid : Bool) → kid_of (set_kid entry on kid) on ≡ kid
kid_set entry true kid = refl
kid_set entry false kid = refl

pub kid_set_other : (entry : Entry) (on kid which : Bool) → which ≢ on → kid_of (set_kid entry on kid) which ≡ kid_of entry which
kid_set_other entry true kid true other = absurd (other refl)
kid_set_other entry true kid false other = refl
kid_set_other entry false kid true other = refl
kid_set_other entry false kid false other = absurd (other refl)

pub pointer_set : (at : Node) (on : Bool) (pointer : Option Pointer) → node_side (with_side at on pointer) on ≡ pointer
pointer_set at true pointer = refl
pointer_set at false pointer = refl

pub pointer_set_other : (at : Node) (on which : Bool) (pointer : Option Pointer) → which ≢ on → node_side (with_side at on pointer) which ≡ node_side at which
pointer_set_other at true true pointer other = absurd (other refl)
pointer_set_other at true false pointer other = refl
pointer_set_other at false true pointer other = refl
pointer_set_other at false false pointer other = absurd (other refl)

pub no_kids : (entry : Entry) (on : Bool) → has_kid entry ≡ false → kid_of entry on ≡ false
no_kids entry on none = go (kid_of entry false) (kid_of entry true) refl refl none on
  where
    go : (a b : Bool) → kid_of entry false ≡ a → kid_of entry true ≡ b → (a || b) ≡ false → (on : Bool) → kid_of entry on ≡ false
    go false false first second none true = second
    go false false first second none false = first
    go true b first second none on = absurd (true≢false none)
    go false true first second none on = absurd (true≢false none)
