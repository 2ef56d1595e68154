-- The tree stays a tree where a parent in a cache and one child of it change together.
use Rattle.std.proofs.Common.{◌≡◌, ◌≢◌, ◌⊎◌, ℕ, Bool, true, false, List, Option, Some, None, refl, sym, ◌∙◌, ap, subst, inl, inr}
use Rattle.std.proofs.lemmas.Bool.{false≢true, true≢false}
use Rattle.std.proofs.lemmas.Option.{same_Some}
use Rattle.tree_keys.specs.Path.{side, is_prefix}
use Rattle.record_text.specs.declared.value.Pointer.{Pointer}
use Rattle.merkle_records.specs.Merkle.{Digest}
use Rattle.verifier_cache.specs.declared.entry.Entry.{Entry}
use Rattle.soundness.specs.Spot.{Spot, cached, Spots, is_touched, pointer_at, home_of, LeadsBy, Leads, Covers, IsKind, IsTree}
use Rattle.tree_keys.proofs.SideLaws.{is_prefix-self, is_prefix-trans, prefix_of_side, side-trans, side-compare, above_no_prefix, above_apart}
use Rattle.soundness.proofs.MovedLemmas.{pointer_below, pointer_touched, leads_same_hold, this_or_other}

-- A parent in a cache and its child on a side change: the parent's pointer of that side leads to the child from
-- now on, all that is touched there is the child or lies below it, and no other pointer leads to the child.
pub record TwoMove (longest : ℕ) (digest : Digest) (old new : Spots) (p k : List Bool) (on : Bool) (home : ℕ) (before after : Entry) (spot : Spot) (pointer : Pointer) : Type 0 where
  pub parent_before : old p ≡ cached home before
  pub parent_now : new p ≡ cached home after
  pub child_now : new k ≡ spot
  pub elsewhere : (j : List Bool) → p ≢ j → k ≢ j → new j ≡ old j
  pub below : side p k ≡ Some on
  pub same_hold : after.hold ≡ before.hold
  pub points : pointer_at (cached home after) on ≡ Some pointer
  pub points_to : pointer.path ≡ k
  pub leads : Leads digest (home_of (cached home after) on) pointer spot
  pub other_pointer : (which : Bool) → which ≢ on → pointer_at (cached home after) which ≡ pointer_at (cached home before) which
  pub other_home : (which : Bool) → which ≢ on → home_of (cached home after) which ≡ home_of (cached home before) which
  pub between : (j : List Bool) → is_touched (old j) ≡ true → side p j ≡ Some on → is_prefix k j ≡ true
  pub child_touched : is_touched spot ≡ true
  pub child_link : (which : Bool) (q : Pointer) → pointer_at spot which ≡ Some q → Leads digest (home_of spot which) q (old q.path)
  pub child_cover : (which : Bool) (j : List Bool) → is_touched (old j) ≡ true → side k j ≡ Some which → Covers (pointer_at spot which) j
  pub alone : (j : List Bool) (which : Bool) (q : Pointer) → p ≢ j → pointer_at (old j) which ≡ Some q → k ≢ q.path
  pub kind_parent : IsKind longest p (cached home after)
  pub kind_child : IsKind longest k spot

-- a side is that of the child, or the other
side_or_other : (which on : Bool) → (which ≡ on) ⊎ (which ≢ on)
side_or_other true true = inl refl
side_or_other true false = inr true≢false
side_or_other false true = inr false≢true
side_or_other false false = inl refl

-- a pointer that covers a path covers what has that path as a prefix
covers_below : (pointer : Option Pointer) (k j : List Bool) → Covers pointer k → is_prefix k j ≡ true → Covers pointer j
covers_below None k j covers h = absurd covers
covers_below (Some pointer) k j covers h = is_prefix-trans pointer.path k j covers h

pub two_move : (longest : ℕ) (digest : Digest) (old new : Spots) (p k : List Bool) (on : Bool) (home : ℕ) (before after : Entry) (spot : Spot) (pointer : Pointer)
    → TwoMove longest digest old new p k on home before after spot pointer → IsTree longest digest old → IsTree longest digest new
two_move longest digest old new p k on home before after spot pointer m tree = record { kind = kind; link = link; cover = cover }
  where
    kind : (j : List Bool) → IsKind longest j (new j)
    kind j = go (this_or_other p j) (this_or_other k j)
      where
        go : (p ≡ j) ⊎ (p ≢ j) → (k ≡ j) ⊎ (k ≢ j) → IsKind longest j (new j)
        go (inl same) other = subst (λ (i : List Bool). IsKind longest i (new i)) same (subst (IsKind longest p) (sym m.parent_now) m.kind_parent)
        go (inr apart) (inl same) = subst (λ (i : List Bool). IsKind longest i (new i)) same (subst (IsKind longest k) (sym m.child_now) m.kind_child)
        go (inr apart) (inr further) = subst (IsKind longest j) (sym (m.elsewhere j apart further)) (tree.kind j)

    -- what is not the child is led to as before
    target : (flag : Bool) (at : Option ℕ) (kept : List ℕ) (j : List Bool) → k ≢ j → LeadsBy digest flag at kept (old j) → LeadsBy digest flag at kept (new j)
    target flag at kept j further leads = go (this_or_other p j)
      where
        go : (p ≡ j) ⊎ (p ≢ j) → LeadsBy digest flag at kept (new j)
        go (inl same) =
            subst (λ (i : List Bool). LeadsBy digest flag at kept (new i)) same
            (subst (LeadsBy digest flag at kept) (sym m.parent_now)
            (leads_same_hold digest flag at kept home before after m.same_hold
            (subst (LeadsBy digest flag at kept) m.parent_before
            (subst (λ (i : List Bool). LeadsBy digest flag at kept (old i)) (sym same) leads))))
        go (inr apart) = subst (LeadsBy digest flag at kept) (sym (m.elsewhere j apart further)) leads

    parent_links : (which : Bool) (q : Pointer) → pointer_at (cached home after) which ≡ Some q
        → Leads digest (home_of (cached home after) which) q (new q.path)
    parent_links which q is = go (side_or_other which on)
      where
        go : (which ≡ on) ⊎ (which ≢ on) → Leads digest (home_of (cached home after) which) q (new q.path)
        go (inl same) =
            let is_it : pointer ≡ q = same_Some pointer q (sym m.points ∙ ap (pointer_at (cached home after)) (sym same) ∙ is) in
            subst (λ (r : Pointer). Leads digest (home_of (cached home after) which) r (new r.path)) is_it
            (subst (λ (w : Bool). Leads digest (home_of (cached home after) w) pointer (new pointer.path)) (sym same)
            (subst (λ (i : List Bool). Leads digest (home_of (cached home after) on) pointer (new i)) (sym m.points_to)
            (subst (Leads digest (home_of (cached home after) on) pointer) (sym m.child_now) m.leads)))
        go (inr other) =
            let was : pointer_at (cached home before) which ≡ Some q = sym (m.other_pointer which other) ∙ is in
            let was_old : pointer_at (old p) which ≡ Some q = ap (λ (s : Spot). pointer_at s which) m.parent_before ∙ was in
            let q_below : side p q.path ≡ Some which = pointer_below longest p (old p) which q (tree.kind p) was_old in
            let apart : k ≢ q.path = λ same. other (same_Some which on (sym q_below ∙ ap (side p) (sym same) ∙ m.below)) in
            target q.deferred (home_of (cached home after) which) q.digest q.path apart
            (subst (λ (h : Option ℕ). Leads digest h q (old q.path))
            (ap (λ (s : Spot). home_of s which) m.parent_before ∙ sym (m.other_home which other))
            (tree.link p which q was_old))

    child_links : (which : Bool) (q : Pointer) → pointer_at spot which ≡ Some q → Leads digest (home_of spot which) q (new q.path)
    child_links which q is =
        let q_below : side k q.path ≡ Some which = pointer_below longest k spot which q m.kind_child is in
        target q.deferred (home_of spot which) q.digest q.path (above_apart k q.path which q_below) (m.child_link which q is)

    other_links : (j : List Bool) (which : Bool) (q : Pointer) → p ≢ j → pointer_at (old j) which ≡ Some q
        → Leads digest (home_of (old j) which) q (new q.path)
    other_links j which q apart is = target q.deferred (home_of (old j) which) q.digest q.path (m.alone j which q apart is) (tree.link j which q is)

    link : (j : List Bool) (which : Bool) (q : Pointer) → pointer_at (new j) which ≡ Some q → Leads digest (home_of (new j) which) q (new q.path)
    link j which q is = go (this_or_other p j) (this_or_other k j)
      where
        moved_link : (s : Spot) → new j ≡ s → (pointer_at s which ≡ Some q → Leads digest (home_of s which) q (new q.path))
            → Leads digest (home_of (new j) which) q (new q.path)
        moved_link s at links =
            subst (λ (t : Spot). Leads digest (home_of t which) q (new q.path)) (sym at)
            (links (subst (λ (t : Spot). pointer_at t which ≡ Some q) at is))

        go : (p ≡ j) ⊎ (p ≢ j) → (k ≡ j) ⊎ (k ≢ j) → Leads digest (home_of (new j) which) q (new q.path)
        go (inl same) other = moved_link (cached home after) (ap new (sym same) ∙ m.parent_now) (parent_links which q)
        go (inr apart) (inl same) = moved_link spot (ap new (sym same) ∙ m.child_now) (child_links which q)
        go (inr apart) (inr further) = moved_link (old j) (m.elsewhere j apart further) (other_links j which q apart)

    parent_touched : is_touched (old p) ≡ true
    parent_touched = ap is_touched m.parent_before

    -- what was touched, seen from the parent
    parent_cover : (which : Bool) (other : List Bool) → is_touched (new other) ≡ true → side p other ≡ Some which → Covers (pointer_at (cached home after) which) other
    parent_cover which other touched is = go (this_or_other k other) (side_or_other which on)
      where
        was : k ≢ other → is_touched (old other) ≡ true
        was further = subst (λ (s : Spot). is_touched s ≡ true) (m.elsewhere other (above_apart p other which is) further) touched

        covers_child : k ≡ other → which ≡ on → Covers (pointer_at (cached home after) which) other
        covers_child same side_same =
            subst (λ (w : Bool). Covers (pointer_at (cached home after) w) other) (sym side_same)
            (subst (λ (q : Option Pointer). Covers q other) (sym m.points)
            (subst (λ (i : List Bool). is_prefix i other ≡ true) (sym m.points_to) (subst (λ (i : List Bool). is_prefix k i ≡ true) same (is_prefix-self k))))

        go : (k ≡ other) ⊎ (k ≢ other) → (which ≡ on) ⊎ (which ≢ on) → Covers (pointer_at (cached home after) which) other
        go (inl same) (inl side_same) = covers_child same side_same
        go (inl same) (inr apart) = absurd (apart (same_Some which on (sym is ∙ ap (side p) (sym same) ∙ m.below)))
        go (inr further) (inl side_same) =
            subst (λ (w : Bool). Covers (pointer_at (cached home after) w) other) (sym side_same)
            (subst (λ (q : Option Pointer). Covers q other) (sym m.points)
            (subst (λ (i : List Bool). is_prefix i other ≡ true) (sym m.points_to)
            (m.between other (was further) (subst (λ (w : Bool). side p other ≡ Some w) side_same is))))
        go (inr further) (inr apart) =
            subst (λ (q : Option Pointer). Covers q other)
            (ap (λ (s : Spot). pointer_at s which) m.parent_before ∙ sym (m.other_pointer which apart))
            (tree.cover p other which parent_touched (was further) is)

    child_covers : (which : Bool) (other : List Bool) → is_touched (new other) ≡ true → side k other ≡ Some which → Covers (pointer_at spot which) other
    child_covers which other touched is =
        m.child_cover which other (subst (λ (s : Spot). is_touched s ≡ true) (m.elsewhere other apart (above_apart k other which is)) touched) is
      where
        apart : p ≢ other
        apart = above_apart p other on (side-trans p k other on which m.below is)

    -- a path above the child covers it, if it isn't the parent
    above_child : (path : List Bool) (which : Bool) → p ≢ path → is_touched (old path) ≡ true → side path k ≡ Some which → Covers (pointer_at (old path) which) k
    above_child path which apart touched is = go (side-compare path p k which on is m.below)
      where
        go : (path ≡ p) ⊎ ((side path p ≡ Some which) ⊎ (side p path ≡ Some on)) → Covers (pointer_at (old path) which) k
        go (inl same) = absurd (apart (sym same))
        go (inr (inl above)) = covers_below (pointer_at (old path) which) p k (tree.cover path p which touched parent_touched above) (prefix_of_side p k on m.below)
        go (inr (inr under)) = absurd (above_no_prefix path k which is (m.between path touched under))

    other_cover : (path other : List Bool) (which : Bool) → p ≢ path → is_touched (old path) ≡ true → is_touched (new other) ≡ true → side path other ≡ Some which
        → Covers (pointer_at (old path) which) other
    other_cover path other which apart touched below is = go (this_or_other p other) (this_or_other k other)
      where
        go : (p ≡ other) ⊎ (p ≢ other) → (k ≡ other) ⊎ (k ≢ other) → Covers (pointer_at (old path) which) other
        go (inl same) further =
            tree.cover path other which touched (subst (λ (i : List Bool). is_touched (old i) ≡ true) same parent_touched) is
        go (inr at_other) (inl same) =
            subst (Covers (pointer_at (old path) which)) same
            (above_child path which apart touched (subst (λ (i : List Bool). side path i ≡ Some which) (sym same) is))
        go (inr at_other) (inr further) =
            tree.cover path other which touched (subst (λ (s : Spot). is_touched s ≡ true) (m.elsewhere other at_other further) below) is

    cover : (path other : List Bool) (which : Bool) → is_touched (new path) ≡ true → is_touched (new other) ≡ true → side path other ≡ Some which
        → Covers (pointer_at (new path) which) other
    cover path other which touched below is = go (this_or_other p path) (this_or_other k path)
      where
        covers_as : (s : Spot) → new path ≡ s → Covers (pointer_at s which) other → Covers (pointer_at (new path) which) other
        covers_as s at covers = subst (λ (t : Spot). Covers (pointer_at t which) other) (sym at) covers

        go : (p ≡ path) ⊎ (p ≢ path) → (k ≡ path) ⊎ (k ≢ path) → Covers (pointer_at (new path) which) other
        go (inl same) further =
            covers_as (cached home after) (ap new (sym same) ∙ m.parent_now)
            (parent_cover which other below (subst (λ (i : List Bool). side i other ≡ Some which) (sym same) is))
        go (inr apart) (inl same) =
            covers_as spot (ap new (sym same) ∙ m.child_now)
            (child_covers which other below (subst (λ (i : List Bool). side i other ≡ Some which) (sym same) is))
        go (inr apart) (inr further) =
            covers_as (old path) (m.elsewhere path apart further)
            (other_cover path other which apart (subst (λ (s : Spot). is_touched s ≡ true) (m.elsewhere path apart further) touched) below is)

-- ---- one parent

-- Where a touched path's pointer leads to a touched path, no other path's does.
pub one_parent : (longest : ℕ) (digest : Digest) (spots : Spots) (p k : List Bool) (on : Bool) (pointer : Pointer) → IsTree longest digest spots
    → is_touched (spots k) ≡ true → pointer_at (spots p) on ≡ Some pointer → pointer.path ≡ k
    → (j : List Bool) (which : Bool) (q : Pointer) → p ≢ j → pointer_at (spots j) which ≡ Some q → k ≢ q.path
one_parent longest digest spots p k on pointer tree touched points to j which q apart is same =
    go (side-compare p j k on which p_below j_below)
  where
    p_below : side p k ≡ Some on
    p_below = subst (λ (i : List Bool). side p i ≡ Some on) to (pointer_below longest p (spots p) on pointer (tree.kind p) points)

    j_below : side j k ≡ Some which
    j_below = subst (λ (i : List Bool). side j i ≡ Some which) (sym same) (pointer_below longest j (spots j) which q (tree.kind j) is)

    go : (p ≡ j) ⊎ ((side p j ≡ Some on) ⊎ (side j p ≡ Some which)) → ⊥
    go (inl one) = apart one
    go (inr (inl above)) =
        above_no_prefix j k which j_below
        (subst (λ (i : List Bool). is_prefix i j ≡ true) to
        (subst (λ (r : Option Pointer). Covers r j) points (tree.cover p j on (pointer_touched (spots p) on pointer points) (pointer_touched (spots j) which q is) above)))
    go (inr (inr under)) =
        above_no_prefix p k on p_below
        (subst (λ (i : List Bool). is_prefix i p ≡ true) (sym same)
        (subst (λ (r : Option Pointer). Covers r p) is (tree.cover j p which (pointer_touched (spots j) which q is) (pointer_touched (spots p) on pointer points) under)))
