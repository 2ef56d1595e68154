-- How a child fits under its parent: where the parent's pointer led nowhere, to the child, or below it.
use Rattle.std.proofs.Common.{◌≡◌, ◌≢◌, ◌⊎◌, ℕ, Bool, true, false, List, Option, Some, None, refl, sym, ◌∙◌, ap, subst, inl, inr, if◌then◌else◌}
use Rattle.std.proofs.lemmas.Option.{none-some, same_Some}
use Rattle.std.proofs.lemmas.Bool.{false≢true, true≢false}
use Rattle.tree_keys.specs.Path.{side, is_prefix}
use Rattle.record_text.specs.declared.value.Pointer.{Pointer}
use Rattle.record_text.specs.declared.value.Node.{Node}
use Rattle.record_text.specs.declared.value.Value.TheVariants as values
use Rattle.record_text.specs.Value.{IsOf, node_side}
use Rattle.merkle_records.specs.Merkle.{Digest}
use Rattle.verifier_cache.specs.declared.entry.Entry.{Entry}
use Rattle.verifier_cache.specs.Entry.{set_kid}
use Rattle.verifier_commands.specs.Changes.{node_of, with_node}
use Rattle.soundness.specs.Spot.{Spot, cached, Spots, is_touched, side_of, pointer_at, home_of, LeadsBy, Leads, Covers, IsKind, IsTree}
use Rattle.tree_keys.proofs.SideLaws.{is_prefix-trans, prefix_of_side, side-prefix, side-trans, above_no_prefix}
use Rattle.soundness.proofs.MovedLemmas.{leads_touched, pointer_touched}
use Rattle.soundness.proofs.PairLemmas.{two_move, one_parent}
use Rattle.soundness.proofs.FamilyLaws.{kid_set, kid_set_other}

-- A child at this spot fits under a parent on a side: all that is touched there is the child or below it, its
-- pointers lead where they are to and cover what lies below it, and no other pointer leads to it.
pub record FitsUnder (digest : Digest) (old : Spots) (p k : List Bool) (on : Bool) (spot : Spot) : Type 0 where
  pub between : (j : List Bool) → is_touched (old j) ≡ true → side p j ≡ Some on → is_prefix k j ≡ true
  pub child_link : (which : Bool) (q : Pointer) → pointer_at spot which ≡ Some q → Leads digest (home_of spot which) q (old q.path)
  pub child_cover : (which : Bool) (j : List Bool) → is_touched (old j) ≡ true → side k j ≡ Some which → Covers (pointer_at spot which) j
  pub alone : (j : List Bool) (which : Bool) (q : Pointer) → p ≢ j → pointer_at (old j) which ≡ Some q → k ≢ q.path

-- a parent with another node and kid bit
abbrev pub changed_parent : Entry → Node → Bool → Bool → Entry
changed_parent before now on kid = set_kid (with_node before now) on kid

-- The tree stays a tree where a parent's pointer and kid bit of a side change, and the child fits under it.
pub pair_moves : (longest : ℕ) (digest : Digest) (old new : Spots) (before : Entry) (k : List Bool) (on : Bool) (home : ℕ) (at now : Node) (kid : Bool) (spot : Spot) (pointer : Pointer)
    → IsTree longest digest old
    → old before.path ≡ cached home before → node_of before.value ≡ Some at → side before.path k ≡ Some on
    → node_side now on ≡ Some pointer → pointer.path ≡ k
    → ((which : Bool) → which ≢ on → node_side now which ≡ node_side at which)
    → IsOf longest before.path (values.Node now) → IsKind longest k spot → is_touched spot ≡ true
    → LeadsBy digest pointer.deferred (if kid then Some home else None) pointer.digest spot
    → FitsUnder digest old before.path k on spot
    → new before.path ≡ cached home (changed_parent before now on kid) → new k ≡ spot
    → ((j : List Bool) → before.path ≢ j → k ≢ j → new j ≡ old j)
    → IsTree longest digest new
pair_moves longest digest old new before k on home at now kid spot pointer tree was is_node below points to others kind child_kind touched leads fits parent_now child_now elsewhere =
    two_move longest digest old new before.path k on home before after spot pointer
    (record {
      parent_before = was;
      parent_now = parent_now;
      child_now = child_now;
      elsewhere = elsewhere;
      below = below;
      same_hold = refl;
      points = points;
      points_to = to;
      leads = subst (λ (b : Bool). LeadsBy digest pointer.deferred (if b then Some home else None) pointer.digest spot) (sym (kid_set (with_node before now) on kid)) leads;
      other_pointer = λ which other. others which other ∙ ap (λ (o : Option Node). side_of o which) (sym is_node);
      other_home = λ which other. ap (λ (b : Bool). if b then Some home else None) (kid_set_other (with_node before now) on kid which other);
      between = fits.between;
      child_touched = touched;
      child_link = fits.child_link;
      child_cover = fits.child_cover;
      alone = fits.alone;
      kind_parent = (refl, kind);
      kind_child = child_kind;
    }) tree
  where
    after : Entry
    after = changed_parent before now on kid

-- ---- where the pointer led nowhere

-- nothing is touched there
pub nothing_there : (longest : ℕ) (digest : Digest) (old : Spots) (p : List Bool) (on : Bool) → IsTree longest digest old → is_touched (old p) ≡ true
    → pointer_at (old p) on ≡ None → (j : List Bool) → is_touched (old j) ≡ true → side p j ≡ Some on → ⊥
nothing_there longest digest old p on tree above none j touched below =
    subst (λ (o : Option Pointer). Covers o j) none (tree.cover p j on above touched below)

pub fits_empty : (longest : ℕ) (digest : Digest) (old : Spots) (p k : List Bool) (on : Bool) (spot : Spot) → IsTree longest digest old
    → is_touched (old p) ≡ true → pointer_at (old p) on ≡ None → side p k ≡ Some on
    → ((which : Bool) → pointer_at spot which ≡ None)
    → FitsUnder digest old p k on spot
fits_empty longest digest old p k on spot tree above none below bare = record {
  between = λ j touched under. absurd (nothing_there longest digest old p on tree above none j touched under);
  child_link = λ which q is. absurd (none-some q (sym (bare which) ∙ is));
  child_cover = λ which j touched under.
      absurd (nothing_there longest digest old p on tree above none j touched (side-trans p k j on which below under));
  alone = λ j which q apart is same.
      nothing_there longest digest old p on tree above none k
      (subst (λ (i : List Bool). is_touched (old i) ≡ true) (sym same) (leads_touched digest q.deferred (home_of (old j) which) q.digest (old q.path) (tree.link j which q is))) below;
}

-- ---- where the pointer led to the child

pub fits_known : (longest : ℕ) (digest : Digest) (old : Spots) (p k : List Bool) (on : Bool) (spot : Spot) (pointer : Pointer) → IsTree longest digest old
    → pointer_at (old p) on ≡ Some pointer → pointer.path ≡ k → is_touched (old k) ≡ true
    → ((which : Bool) → pointer_at spot which ≡ pointer_at (old k) which) → ((which : Bool) → home_of spot which ≡ home_of (old k) which)
    → FitsUnder digest old p k on spot
fits_known longest digest old p k on spot pointer tree points to touched pointers homes = record {
  between = λ j there under.
      subst (λ (i : List Bool). is_prefix i j ≡ true) to
      (subst (λ (o : Option Pointer). Covers o j) points (tree.cover p j on (pointer_touched (old p) on pointer points) there under));
  child_link = λ which q is.
      subst (λ (h : Option ℕ). Leads digest h q (old q.path)) (sym (homes which)) (tree.link k which q (sym (pointers which) ∙ is));
  child_cover = λ which j there under. subst (λ (o : Option Pointer). Covers o j) (sym (pointers which)) (tree.cover k j which touched there under);
  alone = one_parent longest digest old p k on pointer tree touched points to;
}

-- ---- where the pointer led below the child

pub fits_split : (longest : ℕ) (digest : Digest) (old : Spots) (p k : List Bool) (on : Bool) (spot : Spot) (pointer : Pointer) (side_below : Bool) → IsTree longest digest old
    → pointer_at (old p) on ≡ Some pointer → side p k ≡ Some on → side k pointer.path ≡ Some side_below
    → pointer_at spot side_below ≡ Some pointer → ((which : Bool) → which ≢ side_below → pointer_at spot which ≡ None)
    → home_of spot side_below ≡ home_of (old p) on
    → FitsUnder digest old p k on spot
fits_split longest digest old p k on spot pointer side_below tree points below further last bare home = record {
  between = λ j there under. is_prefix-trans k pointer.path j (prefix_of_side k pointer.path side_below further) (covered j there under);
  child_link = link;
  child_cover = λ which j there under. covers which j there under (side-prefix k pointer.path j side_below further (covered j there (side-trans p k j on which below under)));
  alone = λ j which q apart is same.
      above_no_prefix k pointer.path side_below further
      (covered k (subst (λ (i : List Bool). is_touched (old i) ≡ true) (sym same)
      (leads_touched digest q.deferred (home_of (old j) which) q.digest (old q.path) (tree.link j which q is))) below);
}
  where
    covered : (j : List Bool) → is_touched (old j) ≡ true → side p j ≡ Some on → is_prefix pointer.path j ≡ true
    covered j there under =
        subst (λ (o : Option Pointer). Covers o j) points (tree.cover p j on (pointer_touched (old p) on pointer points) there under)

    this_side : (which : Bool) → (which ≡ side_below) ⊎ (which ≢ side_below)
    this_side which = go which side_below
      where
        go : (a b : Bool) → (a ≡ b) ⊎ (a ≢ b)
        go true true = inl refl
        go true false = inr true≢false
        go false true = inr false≢true
        go false false = inl refl

    link : (which : Bool) (q : Pointer) → pointer_at spot which ≡ Some q → Leads digest (home_of spot which) q (old q.path)
    link which q is = go (this_side which)
      where
        go : (which ≡ side_below) ⊎ (which ≢ side_below) → Leads digest (home_of spot which) q (old q.path)
        go (inl same) =
            let is_it : pointer ≡ q = same_Some pointer q (sym last ∙ ap (pointer_at spot) (sym same) ∙ is) in
            subst (λ (r : Pointer). Leads digest (home_of spot which) r (old r.path)) is_it
            (subst (λ (h : Option ℕ). Leads digest h pointer (old pointer.path)) (sym home ∙ ap (home_of spot) (sym same)) (tree.link p on pointer points))
        go (inr other) = absurd (none-some q (sym (bare which other) ∙ is))

    covers : (which : Bool) (j : List Bool) → is_touched (old j) ≡ true → side k j ≡ Some which → side k j ≡ Some side_below → Covers (pointer_at spot which) j
    covers which j there under by =
        let same : side_below ≡ which = same_Some side_below which (sym by ∙ under) in
        subst (λ (w : Bool). Covers (pointer_at spot w) j) same
        (subst (λ (o : Option Pointer). Covers o j) (sym last) (covered j there (side-trans p k j on which below under)))
