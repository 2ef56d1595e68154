-- A record that comes in with its element, goes out with one, or is read or written, keeps the world.
use Rattle.std.proofs.Common.{◌≡◌, ◌≢◌, ◌⊎◌, ℕ, Bool, true, false, List, Option, Some, None, eqb, refl, sym, ◌∙◌, ap, subst, inl, inr, if◌then◌else◌}
use Rattle.std.specs.Map.{update}
use Rattle.std.proofs.lemmas.Bool.{false≢true, true≢false, eq-eqb, ne_eqb, cases_eq}
use Rattle.std.proofs.lemmas.Map.{update_same, update_other}
use Rattle.tree_keys.specs.Path.{IsIn, IsData, key_path, key_of}
use Rattle.tree_keys.proofs.TreeLaws.{in-below, data-no_node, key_path-of}
use Rattle.record_text.specs.declared.value.Pointer.{Pointer}
use Rattle.record_text.specs.declared.value.Node.{Node}
use Rattle.record_text.specs.declared.value.Value.{Value}
use Rattle.record_text.specs.declared.value.Value.TheVariants as values
use Rattle.record_text.specs.declared.element.Element.{Element}
use Rattle.record_text.specs.Value.{IsOf}
use Rattle.merkle_records.specs.Merkle.{Digest, leads_over}
use Rattle.verifier_cache.specs.declared.entry.Entry.{Entry}
use Rattle.verifier_cache.specs.declared.entry.Hold.{Hold}
use Rattle.verifier_cache.specs.declared.entry.Hold.TheVariants.{Root, M, B}
use Rattle.verifier_cache.specs.Entry.{kid_of, with_value}
use Rattle.verifier_commands.specs.Changes.{node_of}
use Rattle.verifier_commands.specs.Outcome.{blob_of}
use Rattle.soundness.specs.Clash.{LastEvicted}
use Rattle.soundness.specs.Showing.{Shown, showing, ShowSame, DidAddB, DidEvictB, IsAbsent, DidGet, DidPut}
use Rattle.soundness.specs.Spot.{Spot, untouched, cached, merkle, waiting, Spots, is_touched, side_of, pointer_at, home_of, LeadsBy, Covers, IsKind}
use Rattle.soundness.specs.World.{cached_in, blob_at, AllShown, with_shown, Stored, IsWorld, AreAbsent}
use Rattle.soundness.proofs.MovedLemmas.{this_or_other, OneMoves, one_moves, leads_same_hold}
use Rattle.soundness.proofs.FamilyLaws.{no_kids, absent_how}
use Rattle.soundness.proofs.WorldLemmas.{cached_here, cached_elsewhere, spot_of_shown, with_spot, with_spot_at, with_spot_other, world_one}
use Rattle.soundness.proofs.JoinLemmas.{is_merkle, KeepsWaiting, KeepsElsewhere, not_waiting, none_since, WorldAfter}
use Rattle.soundness.proofs.LeaveLemmas.{LeftAt}

-- ---- what one moved record leaves as it was

-- nothing came to be kept by its digest
taken_one : (last : LastEvicted) (spots : Spots) (k : List Bool) (spot : Spot) → is_merkle spot ≡ false
    → ((path : List Bool) (value : Value) → spots path ≡ merkle value → last path ≡ Some value)
    → (path : List Bool) (value : Value) → with_spot spots k spot path ≡ merkle value → last path ≡ Some value
taken_one last spots k spot not_merkle was path value is = go (this_or_other k path)
  where
    go : (k ≡ path) ⊎ (k ≢ path) → last path ≡ Some value
    go (inl same) = absurd (false≢true (sym not_merkle ∙ ap is_merkle (sym (with_spot_at spots k spot) ∙ ap (with_spot spots k spot) same ∙ is)))
    go (inr away) = was path value (sym (with_spot_other spots k path spot away) ∙ is)

-- no data value changed
holds_one : (wide : Bool) (stored : Stored) (spots : Spots) (k : List Bool) (spot : Spot) → blob_at spot ≡ blob_at (spots k)
    → ((path : List Bool) → IsIn wide path → IsData path → blob_at (spots path) ≡ stored (key_of path))
    → (path : List Bool) → IsIn wide path → IsData path → blob_at (with_spot spots k spot path) ≡ stored (key_of path)
holds_one wide stored spots k spot same_blob was path within whole = go (this_or_other k path)
  where
    go : (k ≡ path) ⊎ (k ≢ path) → blob_at (with_spot spots k spot path) ≡ stored (key_of path)
    go (inl same) =
        ap (λ (j : List Bool). blob_at (with_spot spots k spot j)) (sym same) ∙ ap blob_at (with_spot_at spots k spot) ∙ same_blob
        ∙ ap (λ (j : List Bool). blob_at (spots j)) same ∙ was path within whole
    go (inr away) = ap blob_at (with_spot_other spots k path spot away) ∙ was path within whole

-- what waits elsewhere waits on
keeps_one : (spots : Spots) (k : List Bool) (spot : Spot) → ((element : Element) → spots k ≡ waiting element → ⊥) → KeepsWaiting spots (with_spot spots k spot)
keeps_one spots k spot free path element waits = with_spot_other spots k path spot (λ same. free element (ap spots same ∙ waits)) ∙ waits

-- and nothing else waits elsewhere
one_since : (spots : Spots) (k : List Bool) (spot : Spot) → KeepsElsewhere k (with_spot spots k spot) spots
one_since spots k spot path element away waits = sym (with_spot_other spots k path spot away) ∙ waits

-- a record that came in with an element is not a kid that came in by its digest
not_both : (hold : Hold) → hold ≡ B → hold ≡ M → ⊥
not_both hold is_b is_m = true≢false (ap by_element (sym is_b ∙ is_m))
  where
    by_element : Hold → Bool
    by_element Root = false
    by_element M = false
    by_element B = true

-- ---- in and out with an element

-- the world behind a step that took the record of a path back, where what waited elsewhere waits on, and nothing else
abbrev pub TookBack : Bool → ℕ → Digest → AllShown → LastEvicted → Stored → Spots → List Bool → Type 0
TookBack wide longest digest shown last stored old k =
    (spots : Spots) × IsWorld wide longest digest shown last stored spots × KeepsElsewhere k old spots
    × ((path : List Bool) (element : Element) → spots path ≡ waiting element → (k ≢ path) × (old path ≡ waiting element))

-- A record comes in with the element that it waits with.
pub come_step : (wide : Bool) (longest : ℕ) (digest : Digest) (shown : AllShown) (last : LastEvicted) (stored : Stored) (spots : Spots) (home : ℕ) (next : Shown) (child : Entry) (element : Element)
    → IsWorld wide longest digest shown last stored spots → DidAddB longest (shown home) next child element
    → spots element.path ≡ waiting element
    → TookBack wide longest digest (with_shown shown home next) last stored spots element.path
come_step wide longest digest shown last stored spots home next child element world did waits = (
  with_spot spots k (cached home child),
  world_one wide longest digest shown last last stored stored spots home next k (cached home child) world
      (one_moves longest digest spots (with_spot spots k (cached home child)) k (cached home child) moves world.tree)
      (world.within k (ap is_touched was))
      (subst (λ (e : Option Entry). ShowSame next (showing_of e)) (sym (cached_here home child)) did.shown)
      (λ other away. cached_elsewhere home other child away ∙ ap (cached_in other) (sym was))
      (taken_one last spots k (cached home child) refl world.was_evicted)
      (holds_one wide stored spots k (cached home child) (ap blob_of value_is ∙ ap blob_at (sym was)) world.holds),
  λ path other apart there. with_spot_other spots k path (cached home child) (λ same. apart (sym path_is ∙ same)) ∙ there,
  λ path other there. (
    λ same. not_waiting (with_spot spots k (cached home child) path) (cached home child) other
        (ap (with_spot spots k (cached home child)) (sym (path_is ∙ same)) ∙ with_spot_at spots k (cached home child)) refl
        there,
    none_since spots (with_spot spots k (cached home child)) k (cached home child)
        (with_spot_at spots k (cached home child)) refl (one_since spots k (cached home child)) path other there,
  ),
)
  where
    k : List Bool
    k = child.path

    showing_of : Option Entry → Shown
    showing_of e = showing (shown home) k e

    path_is : k ≡ element.path
    path_is = ap (λ (e : Entry). e.path) did.came_as

    value_is : child.value ≡ element.value
    value_is = ap (λ (e : Entry). e.value) did.came_as

    was : spots k ≡ waiting element
    was = ap spots path_is ∙ waits

    moves : OneMoves longest digest spots (with_spot spots k (cached home child)) k (cached home child)
    moves = record {
      at = with_spot_at spots k (cached home child);
      elsewhere = λ j away. with_spot_other spots k j (cached home child) away;
      touched_before = ap is_touched was;
      touched_after = refl;
      pointers = λ on. ap (λ (v : Value). side_of (node_of v) on) value_is ∙ ap (λ (s : Spot). pointer_at s on) (sym was);
      homes = λ on pointer is. no_home on ∙ ap (λ (s : Spot). home_of s on) (sym was);
      led_to = λ flag at kept leads. led flag at kept (subst (LeadsBy digest flag at kept) was leads);
      of_kind = (refl, subst (λ (v : Value). IsOf longest k v) (sym value_is) (subst (λ (i : List Bool). IsOf longest i element.value) (sym path_is) did.kind));
    }
      where
        no_home : (on : Bool) → home_of (cached home child) on ≡ None
        no_home true = ap (λ (e : Entry). if kid_of e true then Some home else None) did.came_as
        no_home false = ap (λ (e : Entry). if kid_of e false then Some home else None) did.came_as

        led : (flag : Bool) (at : Option ℕ) (kept : List ℕ) → LeadsBy digest flag at kept (waiting element) → LeadsBy digest flag at kept (cached home child)
        led true at kept leads = ap (λ (e : Entry). e.hold) did.came_as
        led false None kept leads = absurd leads
        led false (Some other) kept leads = absurd leads

-- A record goes out with an element.
pub go_step : (wide : Bool) (longest : ℕ) (digest : Digest) (shown : AllShown) (last : LastEvicted) (stored : Stored) (spots : Spots) (home : ℕ) (next : Shown) (child : Entry) (element : Element)
    → IsWorld wide longest digest shown last stored spots → DidEvictB (shown home) next child element
    → LeftAt wide longest digest (with_shown shown home next) last stored spots element.path (waiting element)
go_step wide longest digest shown last stored spots home next child element world did =
    subst (λ (i : List Bool). LeftAt wide longest digest (with_shown shown home next) last stored spots i (waiting element)) (sym did.path) (
      with_spot spots child.path (waiting element),
      world_one wide longest digest shown last last stored stored spots home next child.path (waiting element) world
          (one_moves longest digest spots (with_spot spots child.path (waiting element)) child.path (waiting element) moves world.tree)
          (world.within child.path (ap is_touched was))
          did.shown
          (λ other away. sym (ap (cached_in other) was ∙ cached_elsewhere home other child away))
          (taken_one last spots child.path (waiting element) refl world.was_evicted)
          (holds_one wide stored spots child.path (waiting element) (ap blob_of did.value ∙ ap blob_at (sym was)) world.holds),
      keeps_one spots child.path (waiting element) (λ other waits. not_waiting (spots child.path) (cached home child) other was refl waits),
      with_spot_at spots child.path (waiting element),
      one_since spots child.path (waiting element),
    )
  where
    was : spots child.path ≡ cached home child
    was = spot_of_shown home (spots child.path) child (sym (world.shows home child.path) ∙ did.had_child)

    moves : OneMoves longest digest spots (with_spot spots child.path (waiting element)) child.path (waiting element)
    moves = record {
      at = with_spot_at spots child.path (waiting element);
      elsewhere = λ j away. with_spot_other spots child.path j (waiting element) away;
      touched_before = ap is_touched was;
      touched_after = refl;
      pointers = λ on. ap (λ (v : Value). side_of (node_of v) on) did.value ∙ ap (λ (s : Spot). pointer_at s on) (sym was);
      homes = λ on pointer is. sym (ap (λ (s : Spot). home_of s on) was ∙ ap (λ (b : Bool). if b then Some home else None) (no_kids child on did.kids));
      led_to = λ flag at kept leads. led flag at kept (subst (LeadsBy digest flag at kept) was leads);
      of_kind = (did.path, subst (IsOf longest child.path) (sym did.value) (subst (IsKind longest child.path) was (world.tree.kind child.path)).1);
    }
      where
        led : (flag : Bool) (at : Option ℕ) (kept : List ℕ) → LeadsBy digest flag at kept (cached home child) → LeadsBy digest flag at kept (waiting element)
        led true at kept leads = tt
        led false None kept leads = absurd leads
        led false (Some other) kept leads = absurd (not_both child.hold did.hold leads.1)

-- ---- read and written

-- Caches that show the same have the same world.
pub same_step : (wide : Bool) (longest : ℕ) (digest : Digest) (shown : AllShown) (last : LastEvicted) (stored : Stored) (spots : Spots) (home : ℕ) (next : Shown)
    → IsWorld wide longest digest shown last stored spots → ShowSame next (shown home)
    → IsWorld wide longest digest (with_shown shown home next) last stored spots
same_step wide longest digest shown last stored spots home next world same =
    record { tree = world.tree; within = world.within; shows = shows; was_evicted = world.was_evicted; holds = world.holds }
  where
    shows : (other : ℕ) (path : List Bool) → with_shown shown home next other path ≡ cached_in other (spots path)
    shows other path = go (cases_eq other home)
      where
        go : (other ≡ home) ⊎ (other ≡ home → ⊥) → with_shown shown home next other path ≡ cached_in other (spots path)
        go (inl here) =
            ap (λ (b : Bool). (if b then next else shown other) path) (eq-eqb other home here) ∙ same path
            ∙ ap (λ (h : ℕ). shown h path) (sym here) ∙ world.shows other path
        go (inr apart) = ap (λ (b : Bool). (if b then next else shown other) path) (ne_eqb other home apart) ∙ world.shows other path

-- A data path below a touched one is untouched and has no value, where the pointer of its side leads neither to it nor above it.
pub absent_keys : (wide : Bool) (longest : ℕ) (digest : Digest) (shown : AllShown) (last : LastEvicted) (stored : Stored) (spots : Spots)
    → IsWorld wide longest digest shown last stored spots → AreAbsent stored spots
absent_keys wide longest digest shown last stored spots world path key on touched below whole free =
    (out, sym (world.holds key (in-below wide path key on (world.within path touched) below) whole) ∙ ap blob_at out)
  where
    led : (pointer : Option Pointer) → Covers pointer key → leads_over pointer key ≡ false → ⊥
    led None covers none = covers
    led (Some pointer) covers none = true≢false (sym covers ∙ none)

    not_touched : is_touched (spots key) ≡ true → ⊥
    not_touched there = led (pointer_at (spots path) on) (world.tree.cover path key on touched there below) free

    by_spot : (spot : Spot) → spots key ≡ spot → spots key ≡ untouched
    by_spot untouched is = is
    by_spot (cached verifier entry) is = absurd (not_touched (ap is_touched is))
    by_spot (merkle value) is = absurd (not_touched (ap is_touched is))
    by_spot (waiting element) is = absurd (not_touched (ap is_touched is))

    out : spots key ≡ untouched
    out = by_spot (spots key) refl

-- What is read is the plain map's.
pub read_value : (wide : Bool) (longest : ℕ) (digest : Digest) (shown : AllShown) (last : LastEvicted) (stored : Stored) (spots : Spots) (home : ℕ) (next : Shown) (entry : Entry)
    → IsWorld wide longest digest shown last stored spots → DidGet (shown home) next entry
    → blob_of entry.value ≡ stored (key_of entry.path)
read_value wide longest digest shown last stored spots home next entry world did = go did.had
  where
    go : (shown home entry.path ≡ Some entry) ⊎ IsAbsent (shown home) entry → blob_of entry.value ≡ stored (key_of entry.path)
    go (inl had) =
        let was : spots entry.path ≡ cached home entry = spot_of_shown home (spots entry.path) entry (sym (world.shows home entry.path) ∙ had) in
        ap blob_at (sym was) ∙ world.holds entry.path (world.within entry.path (ap is_touched was)) did.at_data
    go (inr is) =
        let how = absent_how is.parent entry.path entry is.absent in
        let was : spots is.parent.path ≡ cached home is.parent =
        spot_of_shown home (spots is.parent.path) is.parent (sym (world.shows home is.parent.path) ∙ is.had_parent) in
        let free : leads_over (pointer_at (spots is.parent.path) how.on) entry.path ≡ false =
        ap (λ (s : Spot). leads_over (pointer_at s how.on) entry.path) was
        ∙ (ap (λ (o : Option Node). leads_over (side_of o how.on) entry.path) how.is_node ∙ how.leads) in
        let out = absent_keys wide longest digest shown last stored spots world is.parent.path entry.path how.on (ap is_touched was) how.below did.at_data free in
        ap (λ (e : Entry). blob_of e.value) how.entry_is ∙ sym out.1

-- a data path's value has no pointers
data_bare : (longest : ℕ) (path : List Bool) (value : Value) (on : Bool) → IsData path → IsOf longest path value → side_of (node_of value) on ≡ None
data_bare longest path (values.Blob blob) on whole kind = refl
data_bare longest path (values.Node held) on whole kind = absurd (data-no_node path whole kind.0)

-- a data path of a tree is had back from its key
one_key : (wide : Bool) (p q : List Bool) → IsIn wide p → IsIn wide q → IsData p → IsData q → key_of p ≡ key_of q → p ≡ q
one_key wide p q within also whole full same =
    sym (key_path-of wide p within whole) ∙ ap (key_path wide) same ∙ key_path-of wide q also full

-- A data value is written, in the cache and in the plain map.
pub write_step : (wide : Bool) (longest : ℕ) (digest : Digest) (shown : AllShown) (last : LastEvicted) (stored : Stored) (spots : Spots) (home : ℕ) (next : Shown) (before after : Entry)
    → IsWorld wide longest digest shown last stored spots → DidPut longest (shown home) next before after
    → WorldAfter wide longest digest (with_shown shown home next) last (update eqb stored (key_of after.path) (blob_of after.value)) spots
write_step wide longest digest shown last stored spots home next before after world did =
    subst (λ (a : Entry). WorldAfter wide longest digest (with_shown shown home next) last (update eqb stored (key_of a.path) (blob_of a.value)) spots) (sym did.wrote) (
      with_spot spots before.path spot,
      world_one wide longest digest shown last last stored (update eqb stored (key_of before.path) (blob_of did.value)) spots home next before.path spot world
          (one_moves longest digest spots (with_spot spots before.path spot) before.path spot moves world.tree)
          (world.within before.path (ap is_touched was))
          (subst (λ (e : Option Entry). ShowSame next (showing (shown home) before.path e)) (ap Some did.wrote ∙ sym (cached_here home now)) did.shown)
          (λ other away. cached_elsewhere home other now away ∙ sym (ap (cached_in other) was ∙ cached_elsewhere home other before away))
          (taken_one last spots before.path spot refl world.was_evicted)
          holds,
      keeps_one spots before.path spot (λ other waits. not_waiting (spots before.path) (cached home before) other was refl waits),
      none_since spots (with_spot spots before.path spot) before.path spot (with_spot_at spots before.path spot) refl
          (one_since spots before.path spot),
    )
  where
    now : Entry
    now = with_value before did.value

    spot : Spot
    spot = cached home now

    was : spots before.path ≡ cached home before
    was = spot_of_shown home (spots before.path) before (sym (world.shows home before.path) ∙ did.had)

    old_kind : IsOf longest before.path before.value
    old_kind = (subst (IsKind longest before.path) was (world.tree.kind before.path)).1

    moves : OneMoves longest digest spots (with_spot spots before.path spot) before.path spot
    moves = record {
      at = with_spot_at spots before.path spot;
      elsewhere = λ j away. with_spot_other spots before.path j spot away;
      touched_before = ap is_touched was;
      touched_after = refl;
      pointers = λ on. data_bare longest before.path did.value on did.at_data did.kind ∙ sym (ap (λ (s : Spot). pointer_at s on) was ∙ data_bare longest before.path before.value on did.at_data old_kind);
      homes = λ on pointer is. ap (λ (s : Spot). home_of s on) (sym was);
      led_to = λ flag at kept leads. leads_same_hold digest flag at kept home before now refl (subst (LeadsBy digest flag at kept) was leads);
      of_kind = (refl, did.kind);
    }

    holds : (path : List Bool) → IsIn wide path → IsData path
        → blob_at (with_spot spots before.path spot path) ≡ update eqb stored (key_of before.path) (blob_of did.value) (key_of path)
    holds path within whole = go (this_or_other before.path path)
      where
        go : (before.path ≡ path) ⊎ (before.path ≢ path) → blob_at (with_spot spots before.path spot path) ≡ update eqb stored (key_of before.path) (blob_of did.value) (key_of path)
        go (inl same) =
            ap (λ (j : List Bool). blob_at (with_spot spots before.path spot j)) (sym same) ∙ ap blob_at (with_spot_at spots before.path spot)
            ∙ sym (update_same eqb stored (key_of before.path) (blob_of did.value) (key_of path) (eq-eqb _ _ (ap key_of same)))
        go (inr away) =
            ap blob_at (with_spot_other spots before.path path spot away) ∙ world.holds path within whole
            ∙ sym (update_other eqb stored (key_of before.path) (blob_of did.value) (key_of path)
            (ne_eqb _ _ (λ same. away (one_key wide before.path path (world.within before.path (ap is_touched was)) within did.at_data whole same))))
