-- A child that leaves its parent, by its digest or with an element, keeps the world.
use Rattle.std.proofs.Common.{◌≡◌, ◌≢◌, ◌⊎◌, ℕ, Bool, true, false, List, Option, Some, None, refl, sym, ◌∙◌, ap, subst, inl, inr, if◌then◌else◌}
use Rattle.std.proofs.lemmas.Bool.{false≢true}
use Rattle.std.specs.Option.{option_map}
use Rattle.tree_keys.specs.Path.{same_path}
use Rattle.tree_keys.proofs.PathLaws.{same_path-self, same_path-apart}
use Rattle.record_text.specs.declared.value.Pointer.{Pointer}
use Rattle.record_text.specs.declared.value.Node.{Node}
use Rattle.record_text.specs.declared.value.Value.{Value}
use Rattle.record_text.specs.declared.value.Value.TheVariants as values
use Rattle.record_text.specs.declared.element.Element.{Element}
use Rattle.record_text.specs.Value.{IsOf, node_side, with_side}
use Rattle.merkle_records.specs.Merkle.{Digest, GivesDigests, pointer_to, deferred_pointer}
use Rattle.merkle_records.proofs.KindLaws.{IsOf-after_evict, IsOf-after_defer}
use Rattle.verifier_cache.specs.declared.entry.Entry.{Entry}
use Rattle.soundness.specs.Clash.{LastEvicted, with_last_evicted}
use Rattle.soundness.specs.Showing.{Shown, ShowSame, showing_both, DidEvictM, DidEvictBM}
use Rattle.soundness.specs.Spot.{Spot, untouched, cached, merkle, waiting, Spots, value_at, is_touched, pointer_in, pointer_at, home_of, LeadsBy, IsKind, IsTree}
use Rattle.soundness.specs.World.{cached_in, blob_in, blob_at, AllShown, with_shown, Stored, IsWorld}
use Rattle.tree_keys.proofs.SideLaws.{above_apart}
use Rattle.soundness.proofs.MovedLemmas.{this_or_other}
use Rattle.soundness.proofs.FamilyLaws.{IsLeft, evicted_into, evicted_how, deferred_in, deferred_how, pointer_set, pointer_set_other, no_kids}
use Rattle.soundness.proofs.UnderLemmas.{changed_parent, pair_moves, fits_known}
use Rattle.soundness.proofs.WorldLemmas.{cached_elsewhere, spot_of_shown, with_spot, with_spot_at, with_pair, with_pair_parent, with_pair_other, world_pair}
use Rattle.soundness.proofs.JoinLemmas.{is_merkle, KeepsWaiting, KeepsElsewhere, not_waiting, pair_keeps, pair_since, none_since, taken_pair, WorldAfter, node_blob, parent_pointer, parent_kind}

-- What a child leaves: its spot has its value, and no cache shows it.
pub record IsOut (child : Entry) (spot : Spot) : Type 0 where
  pub value : value_at spot ≡ Some child.value
  pub touched : is_touched spot ≡ true
  pub homeless : (which : Bool) → home_of spot which ≡ None
  pub hidden : (home : ℕ) → cached_in home spot ≡ None

-- the world behind a step that left a record at this spot, where nothing else waits that didn't
abbrev pub LeftAt : Bool → ℕ → Digest → AllShown → LastEvicted → Stored → Spots → List Bool → Spot → Type 0
LeftAt wide longest digest shown last stored old path spot =
    (spots : Spots) × IsWorld wide longest digest shown last stored spots × KeepsWaiting old spots × (spots path ≡ spot)
    × KeepsElsewhere path spots old

-- What an evict and a deferral have in common: the parent's node changes, its kid bit is cleared, and its pointer
-- leads where the child is now.
leave_world : (wide : Bool) (longest : ℕ) (digest : Digest) (shown : AllShown) (last now_taken : LastEvicted) (stored : Stored) (spots : Spots) (home : ℕ) (next : Shown) (parent child after : Entry)
    → (changed : Node → Bool → Pointer → Node) (spot : Spot) (pointer : Pointer)
    → IsWorld wide longest digest shown last stored spots
    → (left : IsLeft parent child after changed)
    → shown home parent.path ≡ Some parent → shown home child.path ≡ Some child
    → ShowSame next (showing_both (shown home) after child.path None)
    → IsOut child spot → IsKind longest child.path spot
    → node_side (changed left.at left.on left.pointer) left.on ≡ Some pointer → pointer.path ≡ child.path
    → ((which : Bool) → which ≢ left.on → node_side (changed left.at left.on left.pointer) which ≡ node_side left.at which)
    → (IsOf longest parent.path (values.Node left.at) → IsOf longest parent.path (values.Node (changed left.at left.on left.pointer)))
    → LeadsBy digest pointer.deferred None pointer.digest spot
    → ((path : List Bool) (value : Value) → with_pair spots home (changed_parent parent (changed left.at left.on left.pointer) left.on false) child.path spot path ≡ merkle value → now_taken path ≡ Some value)
    → LeftAt wide longest digest (with_shown shown home next) now_taken stored spots child.path spot
leave_world wide longest digest shown last now_taken stored spots home next parent child after changed spot pointer world left had_parent had_child shows out child_kind points to others kind leads taken_is = (
  new,
  world_pair wide longest digest shown last now_taken stored spots home next parent now_parent child.path spot world tree was apart
      (world.within child.path (ap is_touched was_child))
      (subst (λ (e : Option Entry). ShowSame next (showing_both (shown home) now_parent child.path e)) (sym (out.hidden home))
      (subst (λ (a : Entry). ShowSame next (showing_both (shown home) a child.path None)) left.after_is shows))
      (λ other away. out.hidden other ∙ sym (ap (cached_in other) was_child ∙ cached_elsewhere home other child away))
      (sym (node_blob parent.value left.at left.is_node))
      (ap blob_in out.value ∙ ap blob_at (sym was_child))
      taken_is,
  pair_keeps spots home parent now_parent child.path spot was (λ element waits. not_waiting (spots child.path) (cached home child) element was_child refl waits),
  with_spot_at (with_spot spots now_parent.path (cached home now_parent)) child.path spot,
  pair_since spots home now_parent child.path spot apart,
)
  where
    now : Node
    now = changed left.at left.on left.pointer

    now_parent : Entry
    now_parent = changed_parent parent now left.on false

    new : Spots
    new = with_pair spots home now_parent child.path spot

    was : spots parent.path ≡ cached home parent
    was = spot_of_shown home (spots parent.path) parent (sym (world.shows home parent.path) ∙ had_parent)

    was_child : spots child.path ≡ cached home child
    was_child = spot_of_shown home (spots child.path) child (sym (world.shows home child.path) ∙ had_child)

    apart : parent.path ≢ child.path
    apart = above_apart parent.path child.path left.on left.below

    no_home : (which : Bool) → home_of (cached home child) which ≡ None
    no_home which = ap (λ (b : Bool). if b then Some home else None) (no_kids child which left.kids)

    tree : IsTree longest digest new
    tree =
        pair_moves longest digest spots new parent child.path left.on home left.at now false spot pointer world.tree was left.is_node left.below points to others
        (kind (parent_kind longest digest spots home parent left.at world.tree was left.is_node)) child_kind out.touched leads
        (fits_known longest digest spots parent.path child.path left.on spot left.pointer world.tree
        (parent_pointer spots home parent left.at left.on was left.is_node ∙ left.points) left.leads
        (ap is_touched was_child)
        (λ which. pointers which)
        (λ which. out.homeless which ∙ sym (ap (λ (s : Spot). home_of s which) was_child ∙ no_home which)))
        (with_pair_parent spots home now_parent child.path spot apart)
        (with_spot_at (with_spot spots now_parent.path (cached home now_parent)) child.path spot)
        (λ j first second. with_pair_other spots home now_parent child.path j spot first second)
      where
        pointers : (which : Bool) → pointer_at spot which ≡ pointer_at (spots child.path) which
        pointers which = ap (λ (v : Option Value). pointer_in v which) out.value ∙ ap (λ (s : Spot). pointer_at s which) (sym was_child)

-- what the child is, is of its path's kind
child_kind : (longest : ℕ) (digest : Digest) (spots : Spots) (home : ℕ) (child : Entry) → IsTree longest digest spots → spots child.path ≡ cached home child → IsOf longest child.path child.value
child_kind longest digest spots home child tree was = (subst (IsKind longest child.path) was (tree.kind child.path)).1

-- what was last evicted, once an evictM took the child's value
taken_now : (last : LastEvicted) (spots : Spots) (home : ℕ) (after : Entry) (k : List Bool) (kept : Value) → after.path ≢ k
    → ((path : List Bool) (value : Value) → spots path ≡ merkle value → last path ≡ Some value)
    → (path : List Bool) (value : Value) → with_pair spots home after k (merkle kept) path ≡ merkle value → with_last_evicted last k kept path ≡ Some value
taken_now last spots home after k kept apart was path value is = go (this_or_other k path) (this_or_other after.path path)
  where
    value_or : Value → Spot → Value
    value_or other untouched = other
    value_or other (cached verifier entry) = other
    value_or other (merkle held) = held
    value_or other (waiting element) = other

    go : (k ≡ path) ⊎ (k ≢ path) → (after.path ≡ path) ⊎ (after.path ≢ path) → with_last_evicted last k kept path ≡ Some value
    go (inl same) either =
        ap (λ (b : Bool). if b then Some kept else last path) (sym (ap (same_path k) same) ∙ same_path-self k)
        ∙ ap Some (ap (value_or kept) (sym (with_spot_at (with_spot spots after.path (cached home after)) k (merkle kept))
        ∙ ap (with_pair spots home after k (merkle kept)) same ∙ is))
    go (inr further) (inl same) =
        absurd (false≢true (ap is_merkle (sym (with_pair_parent spots home after k (merkle kept) apart) ∙ ap (with_pair spots home after k (merkle kept)) same ∙ is)))
    go (inr further) (inr away) =
        ap (λ (b : Bool). if b then Some kept else last path) (same_path-apart k path further)
        ∙ was path value (sym (with_pair_other spots home after k path (merkle kept) away further) ∙ is)

-- A child is evicted into its parent.
pub leave_step : (wide : Bool) (longest : ℕ) (digest : Digest) (shown : AllShown) (last : LastEvicted) (stored : Stored) (spots : Spots) (home : ℕ) (next : Shown) (parent after child : Entry)
    → GivesDigests digest → IsWorld wide longest digest shown last stored spots → DidEvictM digest (shown home) next parent after child
    → WorldAfter wide longest digest (with_shown shown home next) (with_last_evicted last child.path child.value) stored spots
leave_step wide longest digest shown last stored spots home next parent after child digests world did =
    (out.0, out.1, out.2, none_since spots out.0 child.path (merkle child.value) out.3 refl out.4)
  where
    left : IsLeft parent child after (evicted_into digest child)
    left = evicted_how digest parent child after did.evicted

    of_kind : IsOf longest child.path child.value
    of_kind =
        child_kind longest digest spots home child world.tree
        (spot_of_shown home (spots child.path) child (sym (world.shows home child.path) ∙ did.had_child))

    out : LeftAt wide longest digest (with_shown shown home next) (with_last_evicted last child.path child.value) stored spots child.path (merkle child.value)
    out = leave_world wide longest digest shown last (with_last_evicted last child.path child.value) stored spots home next parent child after (evicted_into digest child)
        (merkle child.value) (pointer_to digest child.path child.value) world left did.had_parent did.had_child did.shown
        (record { value = refl; touched = refl; homeless = λ which. refl; hidden = λ home. refl })
        of_kind
        (pointer_set left.at left.on _) refl (λ which other. pointer_set_other left.at left.on which _ other)
        (λ above. IsOf-after_evict longest digest parent.path child.path left.on left.at child.value digests left.below above of_kind)
        refl
        (taken_now last spots home (changed_parent parent (evicted_into digest child left.at left.on left.pointer) left.on false) child.path child.value
        (above_apart parent.path child.path left.on left.below) world.was_evicted)

-- A child is evicted out of its parent with an element.
pub defer_step : (wide : Bool) (longest : ℕ) (digest : Digest) (shown : AllShown) (last : LastEvicted) (stored : Stored) (spots : Spots) (home : ℕ) (next : Shown) (parent after child : Entry) (element : Element)
    → IsWorld wide longest digest shown last stored spots → DidEvictBM (shown home) next parent after child element
    → LeftAt wide longest digest (with_shown shown home next) last stored spots element.path (waiting element)
defer_step wide longest digest shown last stored spots home next parent after child element world did =
    subst (λ (i : List Bool). LeftAt wide longest digest (with_shown shown home next) last stored spots i (waiting element)) (sym did.path)
    (leave_world wide longest digest shown last last stored spots home next parent child after deferred_in
    (waiting element) (deferred_pointer left.pointer) world left did.had_parent did.had_child did.shown
    (record { value = ap Some did.value; touched = refl; homeless = λ which. refl; hidden = λ home. refl })
    (did.path, subst (IsOf longest child.path) (sym did.value) of_kind)
    (pointer_set left.at left.on _) left.leads (λ which other. pointer_set_other left.at left.on which _ other)
    (λ above. subst (λ (o : Option Pointer). IsOf longest parent.path (values.Node (with_side left.at left.on (option_map deferred_pointer o)))) left.points
    (IsOf-after_defer longest parent.path left.on left.at above))
    tt
    (taken_pair last spots home (changed_parent parent (deferred_in left.at left.on left.pointer) left.on false) child.path (waiting element)
    (above_apart parent.path child.path left.on left.below) refl world.was_evicted))
  where
    left : IsLeft parent child after deferred_in
    left = deferred_how parent child after did.deferred

    of_kind : IsOf longest child.path child.value
    of_kind =
        child_kind longest digest spots home child world.tree
        (spot_of_shown home (spots child.path) child (sym (world.shows home child.path) ∙ did.had_child))
