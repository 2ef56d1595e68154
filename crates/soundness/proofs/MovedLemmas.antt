-- The tree stays a tree where one spot changes, or a parent's and its child's.
use Rattle.std.proofs.Common.{◌≡◌, ◌≢◌, ◌⊎◌, ℕ, Bool, true, false, List, Option, Some, None, refl, sym, ◌∙◌, ap, subst, inl, inr}
use Rattle.std.proofs.lemmas.Bool.{true≢false}
use Rattle.std.proofs.lemmas.Option.{none-some, same_Some}
use Rattle.tree_keys.specs.Path.{side, same_path}
use Rattle.tree_keys.proofs.PathLaws.{same_path-self, same_path-true}
use Rattle.record_text.specs.declared.value.Pointer.{Pointer}
use Rattle.record_text.specs.declared.value.Value.{Value}
use Rattle.record_text.specs.declared.value.Value.TheVariants as values
use Rattle.record_text.specs.Value.{IsOf, IsPointer, IsSide}
use Rattle.merkle_records.specs.Merkle.{Digest}
use Rattle.merkle_records.proofs.KindLaws.{IsSide-node_side}
use Rattle.verifier_cache.specs.declared.entry.Entry.{Entry}
use Rattle.verifier_commands.specs.Changes.{node_of}
use Rattle.soundness.specs.Spot.{Spot, untouched, cached, merkle, waiting, Spots, is_touched, pointer_at, home_of, LeadsBy, Leads, Covers, IsKind, IsTree, side_of}
use Rattle.tree_keys.proofs.SideLaws.{side_of_prefix}

-- ---- where pointers lead

-- a pointer of a value of a path's kind is to a path below it on that side
pointer_of_value : (longest : ℕ) (path : List Bool) (value : Value) (on : Bool) (pointer : Pointer) → IsOf longest path value
    → side_of (node_of value) on ≡ Some pointer → IsPointer path on pointer
pointer_of_value longest path (values.Blob blob) on pointer kind is = absurd (none-some pointer is)
pointer_of_value longest path (values.Node of_path) on pointer kind is =
    subst (IsSide path on) is (IsSide-node_side longest path of_path on kind)

pub pointer_kind : (longest : ℕ) (path : List Bool) (spot : Spot) (on : Bool) (pointer : Pointer) → IsKind longest path spot
    → pointer_at spot on ≡ Some pointer → IsPointer path on pointer
pointer_kind longest path untouched on pointer kind is = absurd (none-some pointer is)
pointer_kind longest path (cached verifier entry) on pointer kind is = pointer_of_value longest path entry.value on pointer kind.1 is
pointer_kind longest path (merkle value) on pointer kind is = pointer_of_value longest path value on pointer kind is
pointer_kind longest path (waiting element) on pointer kind is = pointer_of_value longest path element.value on pointer kind.1 is

pub pointer_below : (longest : ℕ) (path : List Bool) (spot : Spot) (on : Bool) (pointer : Pointer) → IsKind longest path spot
    → pointer_at spot on ≡ Some pointer → side path pointer.path ≡ Some on
pointer_below longest path spot on pointer kind is =
    let fits = pointer_kind longest path spot on pointer kind is in
    side_of_prefix path pointer.path on fits.below

-- where there is a pointer there is something
pub pointer_touched : (spot : Spot) (on : Bool) (pointer : Pointer) → pointer_at spot on ≡ Some pointer → is_touched spot ≡ true
pointer_touched untouched on pointer is = absurd (none-some pointer is)
pointer_touched (cached verifier entry) on pointer is = refl
pointer_touched (merkle value) on pointer is = refl
pointer_touched (waiting element) on pointer is = refl

-- what a pointer leads to is touched
pub leads_touched : (digest : Digest) (flag : Bool) (home : Option ℕ) (kept : List ℕ) (spot : Spot)
    → LeadsBy digest flag home kept spot → is_touched spot ≡ true
leads_touched digest true home kept untouched leads = absurd leads
leads_touched digest false None kept untouched leads = absurd leads
leads_touched digest false (Some at) kept untouched leads = absurd leads
leads_touched digest flag home kept (cached verifier entry) leads = refl
leads_touched digest flag home kept (merkle value) leads = refl
leads_touched digest flag home kept (waiting element) leads = refl

-- an entry that changes but for how it came in is led to as before
pub leads_same_hold : (digest : Digest) (flag : Bool) (home : Option ℕ) (kept : List ℕ) (verifier : ℕ) (before after : Entry)
    → after.hold ≡ before.hold → LeadsBy digest flag home kept (cached verifier before) → LeadsBy digest flag home kept (cached verifier after)
leads_same_hold digest true home kept verifier before after same leads = same ∙ leads
leads_same_hold digest false None kept verifier before after same leads = leads
leads_same_hold digest false (Some at) kept verifier before after same leads = (leads.0, same ∙ leads.1)

-- a side is not two
two_sides : {P : Type 0} (p k : List Bool) (a b : Bool) → side p k ≡ Some a → side p k ≡ Some b → (a ≡ b → P) → P
two_sides p k a b first second next = next (same_Some a b (sym first ∙ second))

-- ---- one spot changes

-- The record of a path changes its spot, with its pointers and kid bits as they were, and is led to as before.
pub record OneMoves (longest : ℕ) (digest : Digest) (old new : Spots) (k : List Bool) (spot : Spot) : Type 0 where
  pub at : new k ≡ spot
  pub elsewhere : (j : List Bool) → k ≢ j → new j ≡ old j
  pub touched_before : is_touched (old k) ≡ true
  pub touched_after : is_touched spot ≡ true
  pub pointers : (on : Bool) → pointer_at spot on ≡ pointer_at (old k) on
  pub homes : (on : Bool) (pointer : Pointer) → pointer_at spot on ≡ Some pointer → home_of spot on ≡ home_of (old k) on
  pub led_to : (flag : Bool) (home : Option ℕ) (kept : List ℕ) → LeadsBy digest flag home kept (old k) → LeadsBy digest flag home kept spot
  pub of_kind : IsKind longest k spot

-- each path is the one that changes, or another
pub this_or_other : (k j : List Bool) → (k ≡ j) ⊎ (k ≢ j)
this_or_other k j = go (same_path k j) refl
  where
    go : (b : Bool) → same_path k j ≡ b → (k ≡ j) ⊎ (k ≢ j)
    go true same = inl (same_path-true k j same)
    go false apart = inr (λ same. true≢false (sym (same_path-self k) ∙ ap (same_path k) same ∙ apart))

pub one_moves : (longest : ℕ) (digest : Digest) (old new : Spots) (k : List Bool) (spot : Spot)
    → OneMoves longest digest old new k spot → IsTree longest digest old → IsTree longest digest new
one_moves longest digest old new k spot moves tree = record { kind = kind; link = link; cover = cover }
  where
    kind : (j : List Bool) → IsKind longest j (new j)
    kind j = go (this_or_other k j)
      where
        go : (k ≡ j) ⊎ (k ≢ j) → IsKind longest j (new j)
        go (inl same) = subst (λ (i : List Bool). IsKind longest i (new i)) same (subst (IsKind longest k) (sym moves.at) moves.of_kind)
        go (inr apart) = subst (IsKind longest j) (sym (moves.elsewhere j apart)) (tree.kind j)

    -- what a path leads to is led to as before
    target : (flag : Bool) (home : Option ℕ) (kept : List ℕ) (j : List Bool) → LeadsBy digest flag home kept (old j) → LeadsBy digest flag home kept (new j)
    target flag home kept j leads = go (this_or_other k j)
      where
        go : (k ≡ j) ⊎ (k ≢ j) → LeadsBy digest flag home kept (new j)
        go (inl same) =
            subst (λ (i : List Bool). LeadsBy digest flag home kept (new i)) same
            (subst (LeadsBy digest flag home kept) (sym moves.at)
            (moves.led_to flag home kept (subst (λ (i : List Bool). LeadsBy digest flag home kept (old i)) (sym same) leads)))
        go (inr apart) = subst (LeadsBy digest flag home kept) (sym (moves.elsewhere j apart)) leads

    link : (j : List Bool) (on : Bool) (pointer : Pointer) → pointer_at (new j) on ≡ Some pointer
        → Leads digest (home_of (new j) on) pointer (new pointer.path)
    link j on pointer is = target pointer.deferred (home_of (new j) on) pointer.digest pointer.path (go (this_or_other k j))
      where
        here : (i : List Bool) → i ≡ k → pointer_at (new i) on ≡ Some pointer → Leads digest (home_of (new i) on) pointer (old pointer.path)
        here i same is =
            let spot_is : new i ≡ spot = ap new same ∙ moves.at in
            let at_spot : pointer_at spot on ≡ Some pointer = subst (λ (s : Spot). pointer_at s on ≡ Some pointer) spot_is is in
            subst (λ (h : Option ℕ). Leads digest h pointer (old pointer.path))
            (sym (moves.homes on pointer at_spot) ∙ ap (λ (s : Spot). home_of s on) (sym spot_is))
            (tree.link k on pointer (sym (moves.pointers on) ∙ at_spot))

        go : (k ≡ j) ⊎ (k ≢ j) → Leads digest (home_of (new j) on) pointer (old pointer.path)
        go (inl same) = here j (sym same) is
        go (inr apart) =
            subst (λ (s : Spot). Leads digest (home_of s on) pointer (old pointer.path)) (sym (moves.elsewhere j apart))
            (tree.link j on pointer (subst (λ (s : Spot). pointer_at s on ≡ Some pointer) (moves.elsewhere j apart) is))

    -- what is touched was touched
    was_touched : (j : List Bool) → is_touched (new j) ≡ true → is_touched (old j) ≡ true
    was_touched j touched = go (this_or_other k j)
      where
        go : (k ≡ j) ⊎ (k ≢ j) → is_touched (old j) ≡ true
        go (inl same) = subst (λ (i : List Bool). is_touched (old i) ≡ true) same moves.touched_before
        go (inr apart) = subst (λ (s : Spot). is_touched s ≡ true) (moves.elsewhere j apart) touched

    cover : (path other : List Bool) (on : Bool) → is_touched (new path) ≡ true → is_touched (new other) ≡ true
        → side path other ≡ Some on → Covers (pointer_at (new path) on) other
    cover path other on touched below is =
        subst (λ (p : Option Pointer). Covers p other) (same_pointer (this_or_other k path))
        (tree.cover path other on (was_touched path touched) (was_touched other below) is)
      where
        same_pointer : (k ≡ path) ⊎ (k ≢ path) → pointer_at (old path) on ≡ pointer_at (new path) on
        same_pointer (inl same) =
            subst (λ (i : List Bool). pointer_at (old i) on ≡ pointer_at (new i) on) same
            (sym (moves.pointers on) ∙ ap (λ (s : Spot). pointer_at s on) (sym moves.at))
        same_pointer (inr apart) = ap (λ (s : Spot). pointer_at s on) (sym (moves.elsewhere path apart))
