-- The world before the first command: the root stands in the cache of verifier 0, and nothing else is touched.
use Rattle.std.proofs.Common.{◌≡◌, ◌≢◌, ◌⊎◌, ℕ, Bool, true, false, List, Option, Some, None, refl, sym, ◌∙◌, ap, subst, inl, inr, arith}
use Rattle.std.proofs.lemmas.Bool.{false≢true, cases_eq}
use Rattle.std.proofs.lemmas.Option.{none-some}
use Rattle.tree_keys.specs.Path.{IsIn, IsData, IsNodePath, root_of, key_of, side}
use Rattle.tree_keys.proofs.SideLaws.{above_apart}
use Rattle.lamport_clocks.specs.declared.header.Header.{Header}
use Rattle.record_text.specs.declared.value.Pointer.{Pointer}
use Rattle.record_text.specs.declared.value.Value.{Value}
use Rattle.record_text.specs.Tree.{wide_of}
use Rattle.record_text.specs.Longest.{longest_of}
use Rattle.merkle_records.specs.Merkle.{Digest}
use Rattle.verifier_cache.specs.declared.entry.Entry.{Entry}
use Rattle.verifier_commands.specs.State.{root_entry}
use Rattle.stamp_order.specs.Serial.{none_everywhere}
use Rattle.soundness.specs.Clash.{none_evicted}
use Rattle.soundness.specs.Showing.{Shown, opening_shown, showing}
use Rattle.soundness.specs.Spot.{Spot, untouched, cached, merkle, Spots, is_touched, pointer_at, home_of, Leads, Covers, IsKind, IsTree}
use Rattle.soundness.specs.World.{cached_in, blob_at, AreIn, IsWorld}
use Rattle.soundness.proofs.LawfulLemmas.{opening_shown-root, opening_shown-other}
use Rattle.soundness.proofs.MovedLemmas.{this_or_other}
use Rattle.soundness.proofs.JoinLemmas.{is_merkle}
use Rattle.soundness.proofs.WorldLemmas.{cached_elsewhere, with_spot, with_spot_at, with_spot_other, showing_at, showing_other}

-- nothing is touched
abbrev none_touched : Spots
none_touched = λ path. untouched

-- the root of a tree in the cache of verifier 0
abbrev root_spot : Bool → Spot
root_spot wide = cached 0 (root_entry wide)

-- the root stands in the cache of verifier 0, and nothing else is touched
abbrev pub opening_spots : Bool → Spots
opening_spots wide = with_spot none_touched (root_of wide) (root_spot wide)

-- what holds of the root there, and of each path that is untouched, holds of each path
pub opening_cases : (wide : Bool) (P : List Bool → Spot → Type 0) → P (root_of wide) (root_spot wide) → ((path : List Bool) → P path untouched)
    → (path : List Bool) → P path (opening_spots wide path)
opening_cases wide P root other path = go (this_or_other (root_of wide) path)
  where
    go : (root_of wide ≡ path) ⊎ (root_of wide ≢ path) → P path (opening_spots wide path)
    go (inl same) =
        subst (λ (p : List Bool). P p (opening_spots wide p)) same
        (subst (P (root_of wide)) (sym (with_spot_at none_touched (root_of wide) (root_spot wide))) root)
    go (inr apart) = subst (P path) (sym (with_spot_other none_touched (root_of wide) path (root_spot wide) apart)) (other path)

-- the root is a node's path
root-node : (wide : Bool) → IsNodePath (root_of wide)
root-node true = omega arith
root-node false = omega arith

-- what is touched is the root
touched_root : (wide : Bool) (path : List Bool) → is_touched (opening_spots wide path) ≡ true → path ≡ root_of wide
touched_root wide path =
    opening_cases wide (λ path spot. is_touched spot ≡ true → path ≡ root_of wide) (λ touched. refl) (λ path touched. absurd (false≢true touched)) path

-- it has no pointers
no_pointers : (wide : Bool) (path : List Bool) (on : Bool) → pointer_at (opening_spots wide path) on ≡ None
no_pointers wide path on = opening_cases wide (λ path spot. pointer_at spot on ≡ None) (root on) (λ path. refl) path
  where
    root : (on : Bool) → pointer_at (root_spot wide) on ≡ None
    root true = refl
    root false = refl

opening_tree : (wide : Bool) (longest : ℕ) (digest : Digest) → IsTree longest digest (opening_spots wide)
opening_tree wide longest digest = record { kind = kind; link = link; cover = cover }
  where
    kind : (path : List Bool) → IsKind longest path (opening_spots wide path)
    kind = opening_cases wide (IsKind longest) (refl, (root-node wide, tt, tt)) (λ path. tt)

    link : (path : List Bool) (on : Bool) (pointer : Pointer) → pointer_at (opening_spots wide path) on ≡ Some pointer
        → Leads digest (home_of (opening_spots wide path) on) pointer (opening_spots wide pointer.path)
    link path on pointer is = absurd (none-some pointer (sym (no_pointers wide path on) ∙ is))

    cover : (path other : List Bool) (on : Bool) → is_touched (opening_spots wide path) ≡ true → is_touched (opening_spots wide other) ≡ true
        → side path other ≡ Some on → Covers (pointer_at (opening_spots wide path) on) other
    cover path other on touched below is = absurd (above_apart path other on is (touched_root wide path touched ∙ sym (touched_root wide other below)))

pub opening_world : (digest : Digest) (header : Header)
    → IsWorld (wide_of header) (longest_of header) digest (opening_shown header) none_evicted none_everywhere (opening_spots (wide_of header))
opening_world digest header =
    record { tree = opening_tree wide (longest_of header) digest; within = within; shows = shows; was_evicted = was_evicted; holds = holds }
  where
    wide : Bool
    wide = wide_of header

    within : AreIn wide (opening_spots wide)
    within path touched = subst (IsIn wide) (sym (touched_root wide path touched)) refl

    none_shown : Shown
    none_shown = λ path. None

    some_root : Option Entry
    some_root = Some (root_entry wide)

    root_shown : (path : List Bool) → showing none_shown (root_of wide) some_root path ≡ cached_in 0 (opening_spots wide path)
    root_shown path = go (this_or_other (root_of wide) path)
      where
        go : (root_of wide ≡ path) ⊎ (root_of wide ≢ path) → showing none_shown (root_of wide) some_root path ≡ cached_in 0 (opening_spots wide path)
        go (inl same) =
            subst (λ (p : List Bool). showing none_shown (root_of wide) some_root p ≡ cached_in 0 (opening_spots wide p)) same
            (showing_at none_shown (root_of wide) some_root ∙ sym (ap (cached_in 0) (with_spot_at none_touched (root_of wide) (root_spot wide))))
        go (inr apart) =
            showing_other none_shown (root_of wide) path some_root apart
            ∙ sym (ap (cached_in 0) (with_spot_other none_touched (root_of wide) path (root_spot wide) apart))

    other_shown : (number : ℕ) → number ≢ 0 → (path : List Bool) → None ≡ cached_in number (opening_spots wide path)
    other_shown number apart =
        opening_cases wide (λ path spot. None ≡ cached_in number spot) (sym (cached_elsewhere 0 number (root_entry wide) apart)) (λ path. refl)

    shows : (home : ℕ) (path : List Bool) → opening_shown header home path ≡ cached_in home (opening_spots wide path)
    shows home path = go (cases_eq home 0)
      where
        go : (home ≡ 0) ⊎ (home ≡ 0 → ⊥) → opening_shown header home path ≡ cached_in home (opening_spots wide path)
        go (inl is) = subst (λ (n : ℕ). opening_shown header n path ≡ cached_in n (opening_spots wide path)) (sym is) (opening_shown-root header path ∙ root_shown path)
        go (inr apart) = opening_shown-other home header apart path ∙ other_shown home apart path

    was_evicted : (path : List Bool) (value : Value) → opening_spots wide path ≡ merkle value → none_evicted path ≡ Some value
    was_evicted path value is =
        absurd (false≢true (sym (opening_cases wide (λ path spot. is_merkle spot ≡ false) refl (λ path. refl) path) ∙ ap is_merkle is))

    holds : (path : List Bool) → IsIn wide path → IsData path → blob_at (opening_spots wide path) ≡ none_everywhere (key_of path)
    holds path inside whole = opening_cases wide (λ path spot. blob_at spot ≡ none_everywhere (key_of path)) refl (λ path. refl) path
