-- A child that comes back by its digest: with the value that it left with, or it shows a collision. And all joins.
use Rattle.std.proofs.Common.{◌≡◌, ◌≢◌, ◌⊎◌, ℕ, Bool, true, false, List, Option, Some, None, refl, sym, ◌∙◌, ap, subst, inl, inr, if◌then◌else◌}
use Rattle.std.proofs.lemmas.Bool.{true≢false}
use Rattle.std.proofs.lemmas.Option.{none-some}
use Rattle.tree_keys.specs.Path.{side, same_path}
use Rattle.tree_keys.proofs.PathLaws.{same_path-self, same_path-apart}
use Rattle.record_text.specs.declared.value.Pointer.{Pointer}
use Rattle.record_text.specs.declared.value.Node.{Node}
use Rattle.record_text.specs.declared.value.Value.{Value}
use Rattle.record_text.specs.Value.{IsOf, node_side}
use Rattle.record_text.specs.Texts.{value_text}
use Rattle.merkle_records.specs.Merkle.{Digest, GivesDigests}
use Rattle.verifier_cache.specs.declared.entry.Entry.{Entry}
use Rattle.verifier_cache.specs.declared.entry.Hold.TheVariants.{M}
use Rattle.verifier_cache.specs.Entry.{kid_of, new_entry}
use Rattle.record_text.specs.Same.{same_bytes}
use Rattle.record_text.proofs.SameTestLaws.{same_bytes-self, same_bytes-true}
use Rattle.verifier_commands.specs.Changes.{Family, node_of, above_on, leads_to}
use Rattle.verifier_commands.specs.Outcome.{blob_of}
use Rattle.verifier_commands.specs.Change.{Change, did_add_m}
use Rattle.soundness.specs.Clash.{LastEvicted, Strings, is_known, differing, clash_at, clash_of}
use Rattle.soundness.specs.Collision.{IsCollision}
use Rattle.soundness.specs.Showing.{Shown, ShowSame, showing_both, DidAddM}
use Rattle.soundness.specs.Spot.{Spot, untouched, cached, merkle, Spots, is_touched, side_of, pointer_at, home_of, LeadsBy, IsKind, IsTree}
use Rattle.soundness.specs.World.{cached_in, AllShown, with_shown, Stored, IsWorld, blob_at}
use Rattle.tree_keys.proofs.SideLaws.{above_apart}
use Rattle.soundness.proofs.FamilyLaws.{IsAdd, on_empty, on_same, on_split}
use Rattle.soundness.proofs.UnderLemmas.{changed_parent, fits_known}
use Rattle.soundness.proofs.JoinLemmas.{kept_value, not_waiting, join_world, Joining, joining, WorldAfter, parent_pointer, parent_kind, empty_untouched, split_untouched, join_empty, join_split}

-- no two values of a path have one text
abbrev pub HasOneText : ℕ → Type 0
HasOneText longest = (path : List Bool) (a b : Value) → IsOf longest path a → IsOf longest path b → value_text a ≡ value_text b → a ≡ b

-- what is known where the parent's pointer leads to the child by its digest, and no child of it stands in the cache
pub record Known (longest : ℕ) (digest : Digest) (spots : Spots) (path : List Bool) (value : Value) : Type 0 where
  pub kept : Value
  pub at : spots path ≡ merkle kept
  pub kind : IsOf longest path kept
  pub same : digest (value_text kept) ≡ digest (value_text value)

known : (longest : ℕ) (digest : Digest) (spots : Spots) (home : ℕ) (parent : Entry) (path : List Bool) (value : Value) (on : Bool) (at : Node) (pointer : Pointer) → IsTree longest digest spots
    → spots parent.path ≡ cached home parent → node_of parent.value ≡ Some at → node_side at on ≡ Some pointer
    → pointer.path ≡ path → pointer.deferred ≡ false → pointer.digest ≡ digest (value_text value) → kid_of parent on ≡ false
    → Known longest digest spots path value
known longest digest spots home parent path value on at pointer tree was is_node there to flag keeps no_kid =
    let by_digest = kept_value digest pointer.digest (spots path) leads in
    record {
      kept = by_digest.0;
      at = by_digest.1;
      kind = subst (IsKind longest path) by_digest.1 (tree.kind path);
      same = sym by_digest.2 ∙ keeps;
    }
  where
    home_is : home_of (spots parent.path) on ≡ None
    home_is = ap (λ (s : Spot). home_of s on) was ∙ ap (λ (b : Bool). if b then Some home else None) no_kid

    leads : LeadsBy digest false None pointer.digest (spots path)
    leads =
        subst (λ (b : Bool). LeadsBy digest b None pointer.digest (spots path)) flag
        (subst (λ (h : Option ℕ). LeadsBy digest pointer.deferred h pointer.digest (spots path)) home_is
        (subst (λ (i : List Bool). LeadsBy digest pointer.deferred (home_of (spots parent.path) on) pointer.digest (spots i)) to
        (tree.link parent.path on pointer (parent_pointer spots home parent at on was is_node ∙ there))))

-- Where the pointer leads to the child, which comes back with the value that it left with.
join_same : (wide : Bool) (longest : ℕ) (digest : Digest) (shown : AllShown) (last : LastEvicted) (stored : Stored) (spots : Spots) (home : ℕ) (next : Shown) (parent after child : Entry)
    → IsWorld wide longest digest shown last stored spots → (j : Joining longest digest shown spots home next parent after child)
    → (pointer : Pointer) → node_side j.added.at j.added.on ≡ Some pointer → pointer.path ≡ child.path → pointer.deferred ≡ false
    → spots child.path ≡ merkle j.value
    → after ≡ changed_parent parent j.added.at j.added.on true
    → child ≡ new_entry child.path j.value M
    → WorldAfter wide longest digest (with_shown shown home next) last stored spots
join_same wide longest digest shown last stored spots home next parent after child world j pointer there to flag was_kept after_is child_is =
    join_world wide longest digest shown last stored spots home next parent child on at at pointer world j.was j.added.is_node j.added.below
    (subst (λ (a : Entry). ShowSame next (showing_both (shown home) a child.path (Some child))) after_is j.shows)
    there to flag (λ which other. refl)
    (parent_kind longest digest spots home parent at world.tree j.was j.added.is_node)
    (subst (IsOf longest child.path) (sym value_is) j.kind)
    (ap (λ (e : Entry). e.hold) child_is)
    (fits_known longest digest spots parent.path child.path on (cached home child) pointer world.tree
    (parent_pointer spots home parent at on j.was j.added.is_node ∙ there) to
    (ap touched was_kept)
    (λ which. ap (λ (v : Value). side_of (node_of v) which) value_is ∙ ap (λ (s : Spot). pointer_at s which) (sym was_kept))
    (λ which. no_home which ∙ ap (λ (s : Spot). home_of s which) (sym was_kept)))
    (λ other. ap (cached_in other) was_kept)
    (ap blob_of value_is ∙ ap blob_at (sym was_kept))
    (λ element waits. not_waiting (spots child.path) (merkle j.value) element was_kept refl waits)
  where
    on : Bool
    on = j.added.on

    at : Node
    at = j.added.at

    touched : Spot → Bool
    touched s = is_touched s

    value_is : child.value ≡ j.value
    value_is = ap (λ (e : Entry). e.value) child_is

    no_home : (which : Bool) → home_of (cached home child) which ≡ None
    no_home true = ap (λ (e : Entry). if kid_of e true then Some home else None) child_is
    no_home false = ap (λ (e : Entry). if kid_of e false then Some home else None) child_is

-- ---- what an add shows

-- a join shows no clash where the pointer did not lead to the child
clash_where : (last : LastEvicted) (parent child : Entry) (after : Entry) (on : Bool) (at : Node)
    → side parent.path child.path ≡ Some on → node_of parent.value ≡ Some at
    → clash_of last (did_add_m parent after child) ≡ clash_at last (leads_to (node_side at on) child.path) child
clash_where last parent child after on at below is_node =
    ap (λ (s : Option Bool). clash_at last (is_known (above_on s (node_of parent.value)) child.path) child) below
    ∙ ap (λ (o : Option Node). clash_at last (is_known (above_on (Some on) o) child.path) child) is_node

-- two texts that are one or differ
differing_cases : (old new : Value)
    → ((value_text old ≡ value_text new) × (differing (Some old) new ≡ None))
    ⊎ ((value_text old ≢ value_text new) × (differing (Some old) new ≡ Some (value_text old, value_text new)))
differing_cases old new = go (same_bytes (value_text old) (value_text new)) refl
  where
    go : (b : Bool) → same_bytes (value_text old) (value_text new) ≡ b
        → ((value_text old ≡ value_text new) × (differing (Some old) new ≡ None))
        ⊎ ((value_text old ≢ value_text new) × (differing (Some old) new ≡ Some (value_text old, value_text new)))
    go true same = inl (same_bytes-true _ _ same, ap (λ (b : Bool). if b then None else Some (value_text old, value_text new)) same)
    go false apart = inr (
      λ same. true≢false (sym (same_bytes-self (value_text old)) ∙ ap (same_bytes (value_text old)) same ∙ apart),
      ap (λ (b : Bool). if b then None else Some (value_text old, value_text new)) apart,
    )

-- what a join shows where the pointer leads to the child
known_shows : (wide : Bool) (longest : ℕ) (digest : Digest) (shown : AllShown) (last : LastEvicted) (stored : Stored) (spots : Spots) (home : ℕ) (next : Shown) (parent after child : Entry)
    → IsWorld wide longest digest shown last stored spots → (j : Joining longest digest shown spots home next parent after child)
    → (pointer : Pointer) → node_side j.added.at j.added.on ≡ Some pointer → pointer.path ≡ child.path
    → (k : Known longest digest spots child.path j.value) → child ≡ new_entry child.path j.value M
    → clash_of last (did_add_m parent after child) ≡ differing (Some k.kept) j.value
known_shows wide longest digest shown last stored spots home next parent after child world j pointer there to k child_is =
    clash_where last parent child after j.added.on j.added.at j.added.below j.added.is_node
    ∙ ap (λ (b : Bool). clash_at last b child) leads
    ∙ ap (λ (o : Option Value). differing o child.value) (world.was_evicted child.path k.kept k.at)
    ∙ ap (λ (e : Entry). differing (Some k.kept) e.value) child_is
  where
    leads : leads_to (node_side j.added.at j.added.on) child.path ≡ true
    leads =
        ap (λ (o : Option Pointer). leads_to o child.path) there
        ∙ ap (λ (i : List Bool). same_path i child.path) to ∙ same_path-self child.path

-- a change shows two strings with one digest
abbrev pub Clashes : Digest → LastEvicted → Change → Type 0
Clashes digest last change = (strings : Strings) × (clash_of last change ≡ Some strings) × IsCollision digest strings

-- a change shows nothing, and a world stands behind it
abbrev pub Passes : Bool → ℕ → Digest → AllShown → LastEvicted → LastEvicted → Stored → Spots → Change → Type 0
Passes wide longest digest shown last now_taken stored old change = (clash_of last change ≡ None) × WorldAfter wide longest digest shown now_taken stored old

-- A join shows two strings with one digest, or it shows nothing and keeps the world.
pub join_step : (wide : Bool) (longest : ℕ) (digest : Digest) (shown : AllShown) (last : LastEvicted) (stored : Stored) (spots : Spots) (home : ℕ) (next : Shown) (parent after child : Entry)
    → HasOneText longest → GivesDigests digest → IsWorld wide longest digest shown last stored spots → DidAddM longest digest (shown home) next parent after child
    → Clashes digest last (did_add_m parent after child) ⊎ Passes wide longest digest (with_shown shown home next) last last stored spots (did_add_m parent after child)
join_step wide longest digest shown last stored spots home next parent after child one digests world did = go j.added.how
  where
    j : Joining longest digest shown spots home next parent after child
    j = joining wide longest digest shown last stored spots home next parent after child world did

    clash_is : clash_of last (did_add_m parent after child) ≡ clash_at last (leads_to (node_side j.added.at j.added.on) child.path) child
    clash_is = clash_where last parent child after j.added.on j.added.at j.added.below j.added.is_node

    Outcome : Type 0
    Outcome = Clashes digest last (did_add_m parent after child) ⊎ Passes wide longest digest (with_shown shown home next) last last stored spots (did_add_m parent after child)

    no_clash : leads_to (node_side j.added.at j.added.on) child.path ≡ false → clash_of last (did_add_m parent after child) ≡ None
    no_clash apart = clash_is ∙ ap (λ (b : Bool). clash_at last b child) apart

    -- the pointer leads to the child
    back : (pointer : Pointer) → node_side j.added.at j.added.on ≡ Some pointer → pointer.path ≡ child.path → pointer.deferred ≡ false
        → (k : Known longest digest spots child.path j.value)
        → after ≡ changed_parent parent j.added.at j.added.on true → child ≡ new_entry child.path j.value M → Outcome
    back pointer there to flag k after_is child_is = by (differing_cases k.kept j.value)
      where
        shows : clash_of last (did_add_m parent after child) ≡ differing (Some k.kept) j.value
        shows = known_shows wide longest digest shown last stored spots home next parent after child world j pointer there to k child_is

        by : ((value_text k.kept ≡ value_text j.value) × (differing (Some k.kept) j.value ≡ None))
            ⊎ ((value_text k.kept ≢ value_text j.value) × (differing (Some k.kept) j.value ≡ Some (value_text k.kept, value_text j.value)))
            → Outcome
        by (inl same) = inr (
          shows ∙ same.1,
          join_same wide longest digest shown last stored spots home next parent after child world j pointer there to flag
              (k.at ∙ ap merkle (one child.path k.kept j.value k.kind j.kind same.0)) after_is child_is,
        )
        by (inr apart) = inl ((value_text k.kept, value_text j.value), shows ∙ apart.1, record { differ = apart.0; same = k.same })

    go : IsAdd digest parent child.path j.value j.added.on j.added.at (record { parent = after; child = child }) → Outcome
    go (on_empty none initial family) = inr (
      no_clash (ap (λ (o : Option Pointer). leads_to o child.path) none),
      join_empty wide longest digest shown last stored spots home next parent after child digests world j none initial
          (ap (λ (f : Family). f.parent) family) (ap (λ (f : Family). f.child) family),
    )
    go (on_same pointer there to flag keeps no_kid family) =
        back pointer there to flag
        (known longest digest spots home parent child.path j.value j.added.on j.added.at pointer world.tree j.was j.added.is_node there to flag keeps no_kid)
        (ap (λ (f : Family). f.parent) family) (ap (λ (f : Family). f.child) family)
    go (on_split pointer there which further initial family) = inr (
      no_clash (ap (λ (o : Option Pointer). leads_to o child.path) there ∙ same_path-apart pointer.path child.path (λ same. above_apart child.path pointer.path which further (sym same))),
      join_split wide longest digest shown last stored spots home next parent after child digests world j pointer there which further initial
          (ap (λ (f : Family). f.parent) family) (ap (λ (f : Family). f.child) family),
    )

-- A join that shows nothing finds its path untouched, or kept by its digest with the value that it brings.
pub join_takes : (wide : Bool) (longest : ℕ) (digest : Digest) (shown : AllShown) (last : LastEvicted) (stored : Stored) (spots : Spots) (home : ℕ) (next : Shown) (parent after child : Entry)
    → HasOneText longest → IsWorld wide longest digest shown last stored spots → DidAddM longest digest (shown home) next parent after child
    → clash_of last (did_add_m parent after child) ≡ None
    → (spots child.path ≡ untouched) ⊎ (spots child.path ≡ merkle child.value)
join_takes wide longest digest shown last stored spots home next parent after child one world did free = go j.added.how
  where
    j : Joining longest digest shown spots home next parent after child
    j = joining wide longest digest shown last stored spots home next parent after child world did

    Found : Type 0
    Found = (spots child.path ≡ untouched) ⊎ (spots child.path ≡ merkle child.value)

    back : (k : Known longest digest spots child.path j.value) → child ≡ new_entry child.path j.value M
        → clash_of last (did_add_m parent after child) ≡ differing (Some k.kept) j.value → Found
    back k child_is shows = by (differing_cases k.kept j.value)
      where
        by : ((value_text k.kept ≡ value_text j.value) × (differing (Some k.kept) j.value ≡ None))
            ⊎ ((value_text k.kept ≢ value_text j.value) × (differing (Some k.kept) j.value ≡ Some (value_text k.kept, value_text j.value)))
            → Found
        by (inl same) =
            inr (k.at ∙ ap merkle (one child.path k.kept j.value k.kind j.kind same.0 ∙ sym (ap (λ (e : Entry). e.value) child_is)))
        by (inr apart) = absurd (none-some (value_text k.kept, value_text j.value) (sym free ∙ shows ∙ apart.1))

    go : IsAdd digest parent child.path j.value j.added.on j.added.at (record { parent = after; child = child }) → Found
    go (on_empty none initial family) = inl (empty_untouched longest digest shown spots home next parent after child world.tree j none)
    go (on_same pointer there to flag keeps no_kid family) =
        let k = known longest digest spots home parent child.path j.value j.added.on j.added.at pointer world.tree j.was j.added.is_node there to flag keeps no_kid in
        let child_is = ap (λ (f : Family). f.child) family in
        back k child_is (known_shows wide longest digest shown last stored spots home next parent after child world j pointer there to k child_is)
    go (on_split pointer there which further initial family) =
        inl (split_untouched longest digest shown spots home next parent after child world.tree j pointer there which further)
