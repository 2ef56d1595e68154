-- A child that comes in under its parent keeps the world; or it is what the exhibit shows, and that collides.
use Rattle.std.proofs.Common.{◌≡◌, ◌≢◌, ◌⊎◌, ℕ, Bool, true, false, List, Option, Some, None, refl, sym, ◌∙◌, ap, subst, inl, inr, if◌then◌else◌}
use Rattle.std.proofs.lemmas.Bool.{false≢true, true≢false}
use Rattle.std.proofs.lemmas.Option.{none-some, same_Some}
use Rattle.tree_keys.specs.Path.{side, is_data}
use Rattle.record_text.specs.declared.value.Pointer.{Pointer}
use Rattle.record_text.specs.declared.value.Node.{Node}
use Rattle.record_text.specs.declared.value.Value.{Value}
use Rattle.record_text.specs.declared.value.Value.TheVariants as values
use Rattle.record_text.specs.declared.element.Element.{Element}
use Rattle.record_text.specs.Value.{IsOf, IsPointer, node_side, with_side, empty_node, initial_value}
use Rattle.record_text.specs.Texts.{value_text}
use Rattle.merkle_records.specs.Merkle.{Digest, GivesDigests, pointer_to, pointing}
use Rattle.merkle_records.proofs.KindLaws.{IsOf-after_evict, IsOf-with_side, is_prefix-side}
use Rattle.verifier_cache.specs.declared.entry.Entry.{Entry}
use Rattle.verifier_cache.specs.declared.entry.Hold.TheVariants.{M}
use Rattle.verifier_cache.specs.Entry.{kid_of, set_kid, new_entry}
use Rattle.verifier_commands.specs.Changes.{node_of}
use Rattle.verifier_commands.specs.Outcome.{blob_of}
use Rattle.soundness.specs.Clash.{LastEvicted}
use Rattle.soundness.specs.Showing.{Shown, ShowSame, showing_both, DidAddM}
use Rattle.soundness.specs.Spot.{Spot, untouched, cached, merkle, waiting, Spots, is_touched, side_of, pointer_at, home_of, LeadsBy, IsKeptBy, Covers, IsKind, IsTree}
use Rattle.soundness.specs.World.{cached_in, blob_at, AllShown, with_shown, Stored, IsWorld}
use Rattle.tree_keys.proofs.SideLaws.{above_apart, above_no_prefix}
use Rattle.tree_keys.proofs.TreeLaws.{in-below, node-above}
use Rattle.soundness.proofs.MovedLemmas.{this_or_other, pointer_kind}
use Rattle.soundness.proofs.FamilyLaws.{IsAdded, added_how, pointer_set, pointer_set_other, kid_set}
use Rattle.soundness.proofs.UnderLemmas.{FitsUnder, pair_moves, changed_parent, nothing_there, fits_empty, fits_split}
use Rattle.soundness.proofs.WorldLemmas.{cached_here, cached_elsewhere, spot_of_shown, with_pair, with_pair_parent, with_pair_other, with_spot_at, with_spot, world_pair}

-- ---- what the parts of a spot tell

abbrev pub is_merkle : Spot → Bool
is_merkle untouched = false
is_merkle (cached verifier entry) = false
is_merkle (merkle value) = true
is_merkle (waiting element) = false

pub untouched_is : (spot : Spot) → is_touched spot ≡ false → spot ≡ untouched
untouched_is untouched is = refl
untouched_is (cached verifier entry) is = absurd (true≢false is)
untouched_is (merkle value) is = absurd (true≢false is)
untouched_is (waiting element) is = absurd (true≢false is)

-- what isn't touched, where touching leads nowhere
pub untouched_since : (spot : Spot) → (is_touched spot ≡ true → ⊥) → spot ≡ untouched
untouched_since spot never = go (is_touched spot) refl
  where
    go : (b : Bool) → is_touched spot ≡ b → spot ≡ untouched
    go true touched = absurd (never touched)
    go false is = untouched_is spot is

pub node_is : (value : Value) (at : Node) → node_of value ≡ Some at → value ≡ values.Node at
node_is (values.Blob blob) at is = absurd (none-some at is)
node_is (values.Node held) at is = ap values.Node (same_Some held at is)

pub node_blob : (value : Value) (at : Node) → node_of value ≡ Some at → blob_of value ≡ None
node_blob value at is = ap blob_of (node_is value at is)

initial_blob : (path : List Bool) → blob_of (initial_value path) ≡ None
initial_blob path = go (is_data path)
  where
    go : (b : Bool) → blob_of (if b then values.Blob None else values.Node empty_node) ≡ None
    go true = refl
    go false = refl

initial_bare : (path : List Bool) (which : Bool) → side_of (node_of (initial_value path)) which ≡ None
initial_bare path which = go (is_data path) which
  where
    go : (b : Bool) (which : Bool) → side_of (node_of (if b then values.Blob None else values.Node empty_node)) which ≡ None
    go true which = refl
    go false true = refl
    go false false = refl

-- what is kept by a digest
pub kept_value : (digest : Digest) (kept : List ℕ) (spot : Spot) → IsKeptBy digest kept spot
    → (value : Value) × (spot ≡ merkle value) × (kept ≡ digest (value_text value))
kept_value digest kept untouched is = absurd is
kept_value digest kept (cached verifier entry) is = absurd is
kept_value digest kept (merkle value) is = (value, refl, is)
kept_value digest kept (waiting element) is = absurd is

-- ---- what was last evicted, where a parent and a child that isn't kept by its digest change

pub taken_pair : (last : LastEvicted) (spots : Spots) (home : ℕ) (after : Entry) (k : List Bool) (spot : Spot) → after.path ≢ k → is_merkle spot ≡ false
    → ((path : List Bool) (value : Value) → spots path ≡ merkle value → last path ≡ Some value)
    → (path : List Bool) (value : Value) → with_pair spots home after k spot path ≡ merkle value → last path ≡ Some value
taken_pair last spots home after k spot apart not_merkle was path value is = go (this_or_other k path) (this_or_other after.path path)
  where
    go : (k ≡ path) ⊎ (k ≢ path) → (after.path ≡ path) ⊎ (after.path ≢ path) → last path ≡ Some value
    go (inl same) either =
        absurd (false≢true (sym not_merkle ∙ ap is_merkle (sym (with_spot_at (with_spot spots after.path (cached home after)) k spot)
        ∙ ap (with_pair spots home after k spot) same ∙ is)))
    go (inr further) (inl same) =
        absurd (false≢true (ap is_merkle (sym (with_pair_parent spots home after k spot apart) ∙ ap (with_pair spots home after k spot) same ∙ is)))
    go (inr further) (inr away) = was path value (sym (with_pair_other spots home after k path spot away further) ∙ is)

-- ---- a child joins

-- what waits, waits on
abbrev pub KeepsWaiting : Spots → Spots → Type 0
KeepsWaiting old new = (path : List Bool) (element : Element) → old path ≡ waiting element → new path ≡ waiting element

-- what waits at other paths than this one, waits on
abbrev pub KeepsElsewhere : List Bool → Spots → Spots → Type 0
KeepsElsewhere k old new = (path : List Bool) (element : Element) → k ≢ path → old path ≡ waiting element → new path ≡ waiting element

-- the world behind a step, where what waited at the old spots waits on, and nothing else waits
abbrev pub WorldAfter : Bool → ℕ → Digest → AllShown → LastEvicted → Stored → Spots → Type 0
WorldAfter wide longest digest shown last stored old =
    (spots : Spots) × IsWorld wide longest digest shown last stored spots × KeepsWaiting old spots × KeepsWaiting spots old

abbrev pub is_waiting : Spot → Bool
is_waiting untouched = false
is_waiting (cached verifier entry) = false
is_waiting (merkle value) = false
is_waiting (waiting element) = true

-- a record that doesn't wait has another spot
pub not_waiting : (spot other : Spot) (element : Element) → spot ≡ other → is_waiting other ≡ false → spot ≡ waiting element → ⊥
not_waiting spot other element is never waits = false≢true (sym never ∙ ap is_waiting (sym is ∙ waits))

-- where a parent and a child change that don't wait
pub pair_keeps : (spots : Spots) (home : ℕ) (before after : Entry) (k : List Bool) (spot : Spot) → spots after.path ≡ cached home before
    → ((element : Element) → spots k ≡ waiting element → ⊥) → KeepsWaiting spots (with_pair spots home after k spot)
pair_keeps spots home before after k spot was free path element waits =
    with_pair_other spots home after k path spot
    (λ same. not_waiting (spots after.path) (cached home before) element was refl (ap spots same ∙ waits))
    (λ same. free element (ap spots same ∙ waits))
    ∙ waits

-- where they change, nothing waits but the child that didn't
pub pair_since : (spots : Spots) (home : ℕ) (after : Entry) (k : List Bool) (spot : Spot) → after.path ≢ k
    → KeepsElsewhere k (with_pair spots home after k spot) spots
pair_since spots home after k spot apart path element further waits = go (this_or_other after.path path)
  where
    go : (after.path ≡ path) ⊎ (after.path ≢ path) → spots path ≡ waiting element
    go (inl same) =
        absurd (not_waiting (with_pair spots home after k spot path) (cached home after) element
        (ap (with_pair spots home after k spot) (sym same) ∙ with_pair_parent spots home after k spot apart) refl waits)
    go (inr away) = sym (with_pair_other spots home after k path spot away further) ∙ waits

-- where nothing waits at the path that is left out, nothing does that didn't
pub none_since : (old new : Spots) (k : List Bool) (spot : Spot) → new k ≡ spot → is_waiting spot ≡ false
    → KeepsElsewhere k new old → KeepsWaiting new old
none_since old new k spot at never elsewhere path element waits = go (this_or_other k path)
  where
    go : (k ≡ path) ⊎ (k ≢ path) → old path ≡ waiting element
    go (inl same) = absurd (not_waiting (new path) spot element (ap new (sym same) ∙ at) never waits)
    go (inr away) = elsewhere path element away waits

-- What all joins have in common.
pub join_world : (wide : Bool) (longest : ℕ) (digest : Digest) (shown : AllShown) (last : LastEvicted) (stored : Stored) (spots : Spots) (home : ℕ) (next : Shown) (parent child : Entry)
    → (on : Bool) (at now : Node) (pointer : Pointer)
    → IsWorld wide longest digest shown last stored spots
    → spots parent.path ≡ cached home parent → node_of parent.value ≡ Some at → side parent.path child.path ≡ Some on
    → ShowSame next (showing_both (shown home) (changed_parent parent now on true) child.path (Some child))
    → node_side now on ≡ Some pointer → pointer.path ≡ child.path → pointer.deferred ≡ false
    → ((which : Bool) → which ≢ on → node_side now which ≡ node_side at which)
    → IsOf longest parent.path (values.Node now) → IsOf longest child.path child.value → child.hold ≡ M
    → FitsUnder digest spots parent.path child.path on (cached home child)
    → ((other : ℕ) → cached_in other (spots child.path) ≡ None)
    → blob_of child.value ≡ blob_at (spots child.path)
    → ((element : Element) → spots child.path ≡ waiting element → ⊥)
    → WorldAfter wide longest digest (with_shown shown home next) last stored spots
join_world wide longest digest shown last stored spots home next parent child on at now pointer world was is_node below shows points to flag others kind child_kind hold fits hidden blob free = (
  new,
  world_pair wide longest digest shown last last stored spots home next parent after child.path (cached home child) world tree was apart
      (in-below wide parent.path child.path on (world.within parent.path (ap is_touched was)) below)
      (subst (λ (e : Option Entry). ShowSame next (showing_both (shown home) after child.path e)) (sym (cached_here home child)) shows)
      (λ other away. cached_elsewhere home other child away ∙ sym (hidden other))
      (sym (node_blob parent.value at is_node)) blob
      (taken_pair last spots home after child.path (cached home child) apart refl world.was_evicted),
  pair_keeps spots home parent after child.path (cached home child) was free,
  none_since spots new child.path (cached home child)
      (with_spot_at (with_spot spots after.path (cached home after)) child.path (cached home child)) refl
      (pair_since spots home after child.path (cached home child) apart),
)
  where
    after : Entry
    after = changed_parent parent now on true

    new : Spots
    new = with_pair spots home after child.path (cached home child)

    apart : parent.path ≢ child.path
    apart = above_apart parent.path child.path on below

    tree : IsTree longest digest new
    tree =
        pair_moves longest digest spots new parent child.path on home at now true (cached home child) pointer world.tree was is_node below points to others
        kind (refl, child_kind) refl
        (subst (λ (b : Bool). LeadsBy digest b (Some home) pointer.digest (cached home child)) (sym flag) (refl, hold))
        fits
        (with_pair_parent spots home after child.path (cached home child) apart)
        (with_spot_at (with_spot spots after.path (cached home after)) child.path (cached home child))
        (λ j first second. with_pair_other spots home after child.path j (cached home child) first second)

-- What is known of a join: where the parent stands, and how the child was added.
pub record Joining (longest : ℕ) (digest : Digest) (shown : AllShown) (spots : Spots) (home : ℕ) (next : Shown) (parent after child : Entry) : Type 0 where
  pub value : Value
  pub kind : IsOf longest child.path value
  pub was : spots parent.path ≡ cached home parent
  pub shows : ShowSame next (showing_both (shown home) after child.path (Some child))
  pub added : IsAdded digest parent child.path value (record { parent = after; child = child })

pub joining : (wide : Bool) (longest : ℕ) (digest : Digest) (shown : AllShown) (last : LastEvicted) (stored : Stored) (spots : Spots) (home : ℕ) (next : Shown) (parent after child : Entry)
    → IsWorld wide longest digest shown last stored spots → DidAddM longest digest (shown home) next parent after child
    → Joining longest digest shown spots home next parent after child
joining wide longest digest shown last stored spots home next parent after child world did = record {
  value = did.value;
  kind = did.kind;
  was = spot_of_shown home (spots parent.path) parent (sym (world.shows home parent.path) ∙ did.had_parent);
  shows = did.shown;
  added = added_how digest parent child.path did.value (record { parent = after; child = child }) did.added;
}

-- the pointer of a side of what a cached parent holds
pub parent_pointer : (spots : Spots) (home : ℕ) (parent : Entry) (at : Node) (on : Bool) → spots parent.path ≡ cached home parent → node_of parent.value ≡ Some at
    → pointer_at (spots parent.path) on ≡ node_side at on
parent_pointer spots home parent at on was is_node =
    ap (λ (s : Spot). pointer_at s on) was ∙ ap (λ (o : Option Node). side_of o on) is_node

-- what the parent is, is of its path's kind
pub parent_kind : (longest : ℕ) (digest : Digest) (spots : Spots) (home : ℕ) (parent : Entry) (at : Node) → IsTree longest digest spots → spots parent.path ≡ cached home parent
    → node_of parent.value ≡ Some at → IsOf longest parent.path (values.Node at)
parent_kind longest digest spots home parent at tree was is_node =
    subst (IsOf longest parent.path) (node_is parent.value at is_node)
    (subst (IsKind longest parent.path) was (tree.kind parent.path)).1

-- Where the pointer leads nowhere, the child is untouched.
pub empty_untouched : (longest : ℕ) (digest : Digest) (shown : AllShown) (spots : Spots) (home : ℕ) (next : Shown) (parent after child : Entry)
    → IsTree longest digest spots → (j : Joining longest digest shown spots home next parent after child)
    → node_side j.added.at j.added.on ≡ None → spots child.path ≡ untouched
empty_untouched longest digest shown spots home next parent after child tree j none =
    untouched_since (spots child.path)
    (λ touched. nothing_there longest digest spots parent.path j.added.on tree (ap is_touched j.was)
    (parent_pointer spots home parent j.added.at j.added.on j.was j.added.is_node ∙ none) child.path touched j.added.below)

-- And so it is where the pointer leads below it.
pub split_untouched : (longest : ℕ) (digest : Digest) (shown : AllShown) (spots : Spots) (home : ℕ) (next : Shown) (parent after child : Entry)
    → IsTree longest digest spots → (j : Joining longest digest shown spots home next parent after child)
    → (pointer : Pointer) → node_side j.added.at j.added.on ≡ Some pointer → (which : Bool) → side child.path pointer.path ≡ Some which
    → spots child.path ≡ untouched
split_untouched longest digest shown spots home next parent after child tree j pointer there which further =
    untouched_since (spots child.path)
    (λ touched. above_no_prefix child.path pointer.path which further
    (subst (λ (o : Option Pointer). Covers o child.path) (parent_pointer spots home parent j.added.at j.added.on j.was j.added.is_node ∙ there)
    (tree.cover parent.path child.path j.added.on (ap is_touched j.was) touched j.added.below)))

-- Where the pointer led nowhere.
pub join_empty : (wide : Bool) (longest : ℕ) (digest : Digest) (shown : AllShown) (last : LastEvicted) (stored : Stored) (spots : Spots) (home : ℕ) (next : Shown) (parent after child : Entry)
    → GivesDigests digest → IsWorld wide longest digest shown last stored spots → (j : Joining longest digest shown spots home next parent after child)
    → node_side j.added.at j.added.on ≡ None → j.value ≡ initial_value child.path
    → after ≡ changed_parent parent (pointing digest j.added.at j.added.on child.path j.value) j.added.on true
    → child ≡ new_entry child.path j.value M
    → WorldAfter wide longest digest (with_shown shown home next) last stored spots
join_empty wide longest digest shown last stored spots home next parent after child digests world j none initial after_is child_is =
    join_world wide longest digest shown last stored spots home next parent child on at now (pointer_to digest child.path j.value) world j.was j.added.is_node j.added.below
    (subst (λ (a : Entry). ShowSame next (showing_both (shown home) a child.path (Some child))) after_is j.shows)
    (pointer_set at on _) refl refl (λ which other. pointer_set_other at on which _ other)
    (IsOf-after_evict longest digest parent.path child.path on at j.value digests j.added.below (parent_kind longest digest spots home parent at world.tree j.was j.added.is_node) j.kind)
    (subst (IsOf longest child.path) (sym value_is) j.kind)
    (ap (λ (e : Entry). e.hold) child_is)
    (fits_empty longest digest spots parent.path child.path on (cached home child) world.tree above bare_side j.added.below
    (λ which. ap (λ (v : Value). side_of (node_of v) which) (value_is ∙ initial) ∙ initial_bare child.path which))
    (λ other. ap (cached_in other) was_untouched)
    (ap blob_of (value_is ∙ initial) ∙ initial_blob child.path ∙ ap blob_at (sym was_untouched))
    (λ element waits. not_waiting (spots child.path) untouched element was_untouched refl waits)
  where
    on : Bool
    on = j.added.on

    at : Node
    at = j.added.at

    now : Node
    now = pointing digest at on child.path j.value

    value_is : child.value ≡ j.value
    value_is = ap (λ (e : Entry). e.value) child_is

    above : is_touched (spots parent.path) ≡ true
    above = ap is_touched j.was

    bare_side : pointer_at (spots parent.path) on ≡ None
    bare_side = parent_pointer spots home parent at on j.was j.added.is_node ∙ none

    was_untouched : spots child.path ≡ untouched
    was_untouched = empty_untouched longest digest shown spots home next parent after child world.tree j none

-- Where the pointer led below the child.
pub join_split : (wide : Bool) (longest : ℕ) (digest : Digest) (shown : AllShown) (last : LastEvicted) (stored : Stored) (spots : Spots) (home : ℕ) (next : Shown) (parent after child : Entry)
    → GivesDigests digest → IsWorld wide longest digest shown last stored spots → (j : Joining longest digest shown spots home next parent after child)
    → (pointer : Pointer) → node_side j.added.at j.added.on ≡ Some pointer → (which : Bool) → side child.path pointer.path ≡ Some which
    → j.value ≡ initial_value child.path
    → after ≡ changed_parent parent (pointing digest j.added.at j.added.on child.path (initial_value child.path)) j.added.on true
    → child ≡ set_kid (new_entry child.path (values.Node (with_side empty_node which (Some pointer))) M) which (kid_of parent j.added.on)
    → WorldAfter wide longest digest (with_shown shown home next) last stored spots
join_split wide longest digest shown last stored spots home next parent after child digests world j pointer there which further initial after_is child_is =
    join_world wide longest digest shown last stored spots home next parent child on at now (pointer_to digest child.path (initial_value child.path)) world j.was j.added.is_node j.added.below
    (subst (λ (a : Entry). ShowSame next (showing_both (shown home) a child.path (Some child))) after_is j.shows)
    (pointer_set at on _) refl refl (λ side other. pointer_set_other at on side _ other)
    (IsOf-after_evict longest digest parent.path child.path on at (initial_value child.path) digests j.added.below
    (parent_kind longest digest spots home parent at world.tree j.was j.added.is_node) (subst (IsOf longest child.path) initial j.kind))
    (subst (IsOf longest child.path) (sym value_is) taken_kind)
    (ap (λ (e : Entry). e.hold) child_is)
    (fits_split longest digest spots parent.path child.path on (cached home child) pointer which world.tree points j.added.below further
    (ap (λ (v : Value). side_of (node_of v) which) value_is ∙ pointer_set empty_node which (Some pointer))
    (λ side other. ap (λ (v : Value). side_of (node_of v) side) value_is ∙ pointer_set_other empty_node which side (Some pointer) other ∙ bare side)
    home_is)
    (λ other. ap (cached_in other) was_untouched)
    (ap blob_of value_is ∙ ap blob_at (sym was_untouched))
    (λ element waits. not_waiting (spots child.path) untouched element was_untouched refl waits)
  where
    on : Bool
    on = j.added.on

    at : Node
    at = j.added.at

    now : Node
    now = pointing digest at on child.path (initial_value child.path)

    value_is : child.value ≡ values.Node (with_side empty_node which (Some pointer))
    value_is = ap (λ (e : Entry). e.value) child_is

    points : pointer_at (spots parent.path) on ≡ Some pointer
    points = parent_pointer spots home parent at on j.was j.added.is_node ∙ there

    fits : IsPointer parent.path on pointer
    fits = pointer_kind longest parent.path (spots parent.path) on pointer (world.tree.kind parent.path) points

    taken_kind : IsOf longest child.path (values.Node (with_side empty_node which (Some pointer)))
    taken_kind =
        IsOf-with_side longest child.path empty_node which (Some pointer) (node-above child.path pointer.path which further fits.fits, tt, tt)
        (record { below = is_prefix-side child.path pointer.path which further; fits = fits.fits; digest = fits.digest })

    bare : (side : Bool) → node_side empty_node side ≡ None
    bare true = refl
    bare false = refl

    home_is : home_of (cached home child) which ≡ home_of (spots parent.path) on
    home_is =
        ap (λ (e : Entry). if kid_of e which then Some home else None) child_is
        ∙ ap (λ (b : Bool). if b then Some home else None) (kid_set (new_entry child.path (values.Node (with_side empty_node which (Some pointer))) M) which (kid_of parent on))
        ∙ ap (λ (s : Spot). home_of s on) (sym j.was)

    was_untouched : spots child.path ≡ untouched
    was_untouched = split_untouched longest digest shown spots home next parent after child world.tree j pointer there which further
