-- What the caches show of the spots, and the world once one record moves, or a parent and its child.
use Rattle.std.proofs.Common.{◌≡◌, ◌≢◌, ◌⊎◌, ℕ, Bool, true, List, Option, Some, None, refl, sym, ◌∙◌, ap, subst, inl, inr, if◌then◌else◌}
use Rattle.std.proofs.lemmas.Bool.{eq-eqb, ne_eqb, cases_eq}
use Rattle.std.proofs.lemmas.Option.{none-some, same_Some}
use Rattle.tree_keys.specs.Path.{same_path, IsIn, IsData, key_of}
use Rattle.tree_keys.proofs.PathLaws.{same_path-self, same_path-apart}
use Rattle.record_text.specs.declared.value.Value.{Value}
use Rattle.merkle_records.specs.Merkle.{Digest}
use Rattle.verifier_cache.specs.declared.entry.Entry.{Entry}
use Rattle.verifier_commands.specs.Outcome.{blob_of}
use Rattle.soundness.specs.Clash.{LastEvicted}
use Rattle.soundness.specs.Showing.{Shown, showing, ShowSame, showing_both}
use Rattle.soundness.specs.Spot.{Spot, untouched, cached, merkle, waiting, Spots, is_touched, IsTree}
use Rattle.soundness.specs.World.{cached_in, blob_at, AllShown, with_shown, Stored, AreIn, IsWorld}
use Rattle.soundness.proofs.MovedLemmas.{this_or_other}

-- ---- what a spot shows

pub cached_here : (home : ℕ) (entry : Entry) → cached_in home (cached home entry) ≡ Some entry
cached_here home entry = ap (λ (b : Bool). if b then Some entry else None) (eq-eqb home home refl)

pub cached_elsewhere : (home other : ℕ) (entry : Entry) → other ≢ home → cached_in other (cached home entry) ≡ None
cached_elsewhere home other entry apart = ap (λ (b : Bool). if b then Some entry else None) (ne_eqb home other (λ same. apart (sym same)))

-- what a cache shows is the spot
pub spot_of_shown : (home : ℕ) (spot : Spot) (entry : Entry) → cached_in home spot ≡ Some entry → spot ≡ cached home entry
spot_of_shown home untouched entry is = absurd (none-some entry is)
spot_of_shown home (cached verifier held) entry is = go (cases_eq verifier home)
  where
    go : (verifier ≡ home) ⊎ (verifier ≡ home → ⊥) → cached verifier held ≡ cached home entry
    go (inl same) =
        let held_is : held ≡ entry = same_Some held entry (sym (ap (λ (b : Bool). if b then Some held else None) (eq-eqb verifier home same)) ∙ is) in
        ap (λ (v : ℕ). cached v held) same ∙ ap (cached home) held_is
    go (inr apart) = absurd (none-some entry (sym (ap (λ (b : Bool). if b then Some held else None) (ne_eqb verifier home apart)) ∙ is))
spot_of_shown home (merkle value) entry is = absurd (none-some entry is)
spot_of_shown home (waiting element) entry is = absurd (none-some entry is)

-- ---- spots, once one changes

abbrev pub with_spot : Spots → List Bool → Spot → Spots
with_spot spots path spot = λ other. if same_path path other then spot else spots other

pub with_spot_at : (spots : Spots) (path : List Bool) (spot : Spot) → with_spot spots path spot path ≡ spot
with_spot_at spots path spot = ap (λ (b : Bool). if b then spot else spots path) (same_path-self path)

pub with_spot_other : (spots : Spots) (path other : List Bool) (spot : Spot) → path ≢ other → with_spot spots path spot other ≡ spots other
with_spot_other spots path other spot apart = ap (λ (b : Bool). if b then spot else spots other) (same_path-apart path other apart)

pub showing_at : (shown : Shown) (path : List Bool) (entry : Option Entry) → showing shown path entry path ≡ entry
showing_at shown path entry = ap (λ (b : Bool). if b then entry else shown path) (same_path-self path)

pub showing_other : (shown : Shown) (path other : List Bool) (entry : Option Entry) → path ≢ other → showing shown path entry other ≡ shown other
showing_other shown path other entry apart = ap (λ (b : Bool). if b then entry else shown other) (same_path-apart path other apart)

-- what a verifier's cache shows, or another's
shown_cases : (shown : AllShown) (home : ℕ) (next : Shown) (other : ℕ) (path : List Bool) (entry : Option Entry)
    → (other ≡ home → next path ≡ entry) → (other ≢ home → shown other path ≡ entry) → with_shown shown home next other path ≡ entry
shown_cases shown home next other path entry here elsewhere = go (cases_eq other home)
  where
    go : (other ≡ home) ⊎ (other ≡ home → ⊥) → with_shown shown home next other path ≡ entry
    go (inl same) = ap (λ (b : Bool). (if b then next else shown other) path) (eq-eqb other home same) ∙ here same
    go (inr apart) = ap (λ (b : Bool). (if b then next else shown other) path) (ne_eqb other home apart) ∙ elsewhere apart

-- all that is touched is of one tree, once a spot of that tree changes
pub within_one : (wide : Bool) (spots : Spots) (k : List Bool) (spot : Spot) → IsIn wide k → AreIn wide spots → AreIn wide (with_spot spots k spot)
within_one wide spots k spot at_k within path touched = go (this_or_other k path)
  where
    go : (k ≡ path) ⊎ (k ≢ path) → IsIn wide path
    go (inl same) = subst (IsIn wide) same at_k
    go (inr apart) = within path (subst (λ (s : Spot). is_touched s ≡ true) (with_spot_other spots k path spot apart) touched)

-- ---- the world, once one record moves

-- The record of a path moves, in or out of this verifier's cache or within it, and its data value stays or is written.
pub world_one : (wide : Bool) (longest : ℕ) (digest : Digest) (shown : AllShown) (last now_taken : LastEvicted) (stored now_stored : Stored) (spots : Spots) (home : ℕ) (next : Shown) (k : List Bool) (spot : Spot)
    → IsWorld wide longest digest shown last stored spots
    → IsTree longest digest (with_spot spots k spot) → IsIn wide k
    → ShowSame next (showing (shown home) k (cached_in home spot))
    → ((other : ℕ) → other ≢ home → cached_in other spot ≡ cached_in other (spots k))
    → ((path : List Bool) (value : Value) → with_spot spots k spot path ≡ merkle value → now_taken path ≡ Some value)
    → ((path : List Bool) → IsIn wide path → IsData path → blob_at (with_spot spots k spot path) ≡ now_stored (key_of path))
    → IsWorld wide longest digest (with_shown shown home next) now_taken now_stored (with_spot spots k spot)
world_one wide longest digest shown last now_taken stored now_stored spots home next k spot world tree at_k shows others taken_is holds =
    record { tree = tree; within = within_one wide spots k spot at_k world.within; shows = all_show; was_evicted = taken_is; holds = holds }
  where
    all_show : (other : ℕ) (path : List Bool) → with_shown shown home next other path ≡ cached_in other (with_spot spots k spot path)
    all_show other path = go (this_or_other k path)
      where
        go : (k ≡ path) ⊎ (k ≢ path) → with_shown shown home next other path ≡ cached_in other (with_spot spots k spot path)
        go (inl same) =
            subst (λ (j : List Bool). with_shown shown home next other j ≡ cached_in other (with_spot spots k spot j)) same
            (shown_cases shown home next other k (cached_in other (with_spot spots k spot k))
            (λ here. shows k ∙ showing_at (shown home) k (cached_in home spot) ∙ ap (λ (h : ℕ). cached_in h spot) (sym here) ∙ ap (cached_in other) (sym (with_spot_at spots k spot)))
            (λ apart. world.shows other k ∙ sym (others other apart) ∙ ap (cached_in other) (sym (with_spot_at spots k spot))))
        go (inr apart) =
            shown_cases shown home next other path (cached_in other (with_spot spots k spot path))
            (λ here. shows path ∙ showing_other (shown home) k path (cached_in home spot) apart ∙ ap (λ (h : ℕ). shown h path) (sym here)
            ∙ world.shows other path ∙ ap (cached_in other) (sym (with_spot_other spots k path spot apart)))
            (λ further. world.shows other path ∙ ap (cached_in other) (sym (with_spot_other spots k path spot apart)))

-- the spots with a parent and its child changed
abbrev pub with_pair : Spots → ℕ → Entry → List Bool → Spot → Spots
with_pair spots home after k spot = with_spot (with_spot spots after.path (cached home after)) k spot

pub with_pair_parent : (spots : Spots) (home : ℕ) (after : Entry) (k : List Bool) (spot : Spot) → after.path ≢ k → with_pair spots home after k spot after.path ≡ cached home after
with_pair_parent spots home after k spot apart =
    with_spot_other (with_spot spots after.path (cached home after)) k after.path spot (λ same. apart (sym same))
    ∙ with_spot_at spots after.path (cached home after)

pub with_pair_other : (spots : Spots) (home : ℕ) (after : Entry) (k j : List Bool) (spot : Spot) → after.path ≢ j → k ≢ j → with_pair spots home after k spot j ≡ spots j
with_pair_other spots home after k j spot apart further =
    with_spot_other (with_spot spots after.path (cached home after)) k j spot further
    ∙ with_spot_other spots after.path j (cached home after) apart

-- A parent in this verifier's cache and its child change, and keep their data values.
pub world_pair : (wide : Bool) (longest : ℕ) (digest : Digest) (shown : AllShown) (last now_taken : LastEvicted) (stored : Stored) (spots : Spots) (home : ℕ) (next : Shown) (before after : Entry) (k : List Bool) (spot : Spot)
    → IsWorld wide longest digest shown last stored spots
    → IsTree longest digest (with_pair spots home after k spot)
    → spots after.path ≡ cached home before → after.path ≢ k → IsIn wide k
    → ShowSame next (showing_both (shown home) after k (cached_in home spot))
    → ((other : ℕ) → other ≢ home → cached_in other spot ≡ cached_in other (spots k))
    → blob_of after.value ≡ blob_of before.value → blob_at spot ≡ blob_at (spots k)
    → ((path : List Bool) (value : Value) → with_pair spots home after k spot path ≡ merkle value → now_taken path ≡ Some value)
    → IsWorld wide longest digest (with_shown shown home next) now_taken stored (with_pair spots home after k spot)
world_pair wide longest digest shown last now_taken stored spots home next before after k spot world tree was apart at_k shows others same_blob child_blob taken_is =
    record { tree = tree; within = within; shows = all_show; was_evicted = taken_is; holds = holds }
  where
    new : Spots
    new = with_pair spots home after k spot

    within : AreIn wide new
    within =
        within_one wide (with_spot spots after.path (cached home after)) k spot at_k
        (within_one wide spots after.path (cached home after) (world.within after.path (ap is_touched was)) world.within)

    at_child : new k ≡ spot
    at_child = with_spot_at (with_spot spots after.path (cached home after)) k spot

    at_parent : new after.path ≡ cached home after
    at_parent = with_pair_parent spots home after k spot apart

    next_child : next k ≡ cached_in home spot
    next_child = shows k ∙ showing_at (showing (shown home) after.path (Some after)) k (cached_in home spot)

    next_parent : next after.path ≡ Some after
    next_parent =
        shows after.path ∙ showing_other (showing (shown home) after.path (Some after)) k after.path (cached_in home spot) (λ same. apart (sym same))
        ∙ showing_at (shown home) after.path (Some after)

    next_other : (j : List Bool) → after.path ≢ j → k ≢ j → next j ≡ shown home j
    next_other j first second =
        shows j ∙ showing_other (showing (shown home) after.path (Some after)) k j (cached_in home spot) second
        ∙ showing_other (shown home) after.path j (Some after) first

    all_show : (other : ℕ) (path : List Bool) → with_shown shown home next other path ≡ cached_in other (new path)
    all_show other path = go (this_or_other k path) (this_or_other after.path path)
      where
        child : with_shown shown home next other k ≡ cached_in other (new k)
        child =
            shown_cases shown home next other k (cached_in other (new k))
            (λ here. next_child ∙ ap (λ (h : ℕ). cached_in h spot) (sym here) ∙ ap (cached_in other) (sym at_child))
            (λ away. world.shows other k ∙ sym (others other away) ∙ ap (cached_in other) (sym at_child))

        parent : with_shown shown home next other after.path ≡ cached_in other (new after.path)
        parent =
            shown_cases shown home next other after.path (cached_in other (new after.path))
            (λ here. next_parent ∙ sym (cached_here home after) ∙ ap (λ (h : ℕ). cached_in h (cached home after)) (sym here) ∙ ap (cached_in other) (sym at_parent))
            (λ away. world.shows other after.path ∙ ap (cached_in other) was ∙ cached_elsewhere home other before away
            ∙ sym (cached_elsewhere home other after away) ∙ ap (cached_in other) (sym at_parent))

        go : (k ≡ path) ⊎ (k ≢ path) → (after.path ≡ path) ⊎ (after.path ≢ path) → with_shown shown home next other path ≡ cached_in other (new path)
        go (inl same) either = subst (λ (j : List Bool). with_shown shown home next other j ≡ cached_in other (new j)) same child
        go (inr further) (inl same) = subst (λ (j : List Bool). with_shown shown home next other j ≡ cached_in other (new j)) same parent
        go (inr further) (inr away) =
            shown_cases shown home next other path (cached_in other (new path))
            (λ here. next_other path away further ∙ ap (λ (h : ℕ). shown h path) (sym here) ∙ world.shows other path
            ∙ ap (cached_in other) (sym (with_pair_other spots home after k path spot away further)))
            (λ there. world.shows other path ∙ ap (cached_in other) (sym (with_pair_other spots home after k path spot away further)))

    holds : (path : List Bool) → IsIn wide path → IsData path → blob_at (new path) ≡ stored (key_of path)
    holds path inside whole = go (this_or_other k path) (this_or_other after.path path)
      where
        go : (k ≡ path) ⊎ (k ≢ path) → (after.path ≡ path) ⊎ (after.path ≢ path) → blob_at (new path) ≡ stored (key_of path)
        go (inl same) either =
            ap (λ (j : List Bool). blob_at (new j)) (sym same) ∙ ap blob_at at_child ∙ child_blob ∙ ap (λ (j : List Bool). blob_at (spots j)) same ∙ world.holds path inside whole
        go (inr further) (inl same) =
            ap (λ (j : List Bool). blob_at (new j)) (sym same) ∙ ap blob_at at_parent ∙ same_blob ∙ ap blob_at (sym was)
            ∙ ap (λ (j : List Bool). blob_at (spots j)) same ∙ world.holds path inside whole
        go (inr further) (inr away) = ap blob_at (with_pair_other spots home after k path spot away further) ∙ world.holds path inside whole
