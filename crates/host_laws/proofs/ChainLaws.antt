-- Each link of a chain to a key fits under the one before.
use Rattle.std.proofs.Common.{ℕ, ◌≡◌, ◌⊎◌, Bool, true, false, not, List, Option, Some, None, if◌then◌else◌, refl, sym, ◌∙◌, ap, subst, inl, inr}
use Rattle.std.specs.Option.{unwrap_or}
use Rattle.std.proofs.lemmas.Bool.{false≢true}
use Rattle.std.proofs.lemmas.Option.{none-some, same_Some}
use Rattle.tree_keys.specs.Path.{side, is_prefix, common, IsData, is_data, IsNodePath}
use Rattle.tree_keys.proofs.PathLaws.{same_path-apart}
use Rattle.tree_keys.proofs.SideLaws.{is_prefix-self, prefix_of_side, side_of_prefix}
use Rattle.tree_keys.proofs.TreeLaws.{data-path, data-is, node-is, data-no_node, node-above}
use Rattle.record_text.specs.declared.value.Pointer.{Pointer}
use Rattle.record_text.specs.declared.value.Node.{Node}
use Rattle.record_text.specs.declared.value.Value.{Value}
use Rattle.record_text.specs.declared.value.Value.TheVariants as values
use Rattle.record_text.specs.Value.{IsPointer, IsSide, IsOf, node_side, empty_node, initial_value}
use Rattle.merkle_records.specs.Merkle.{Digest, taken_over}
use Rattle.merkle_records.proofs.KindLaws.{is_prefix-side, IsSide-node_side, IsOf-with_side}
use Rattle.verifier_commands.specs.Changes.{leads_to}
use Rattle.verifier_commands.proofs.BelowLaws.{below_apart}
use Rattle.host_shard.specs.declared.link.Link.{Link}
use Rattle.host_shard.specs.Tree.{Tree, pointer_of, IsPointerIn}
use Rattle.host_shard.specs.Chain.{new_link, known_link, fork_link, next_link, IsNextLink}
use Rattle.host_shard.specs.Mirrors.{IsKept}
use Rattle.host_laws.proofs.ForkLaws.{Parts, parts}
use Rattle.host_laws.proofs.FamilyLemmas.{Fits, fits_new, fits_known, fits_fork}

-- Records on the way to a whole key: each value is of its path's kind, and each pointer to a path that begins the key
-- leads to a record with its digest.
pub record LeadTo (longest : ℕ) (digest : Digest) (tree : Tree) (key : List Bool) : Type 0 where
  pub whole : IsData key
  pub kinds : (path : List Bool) (value : Value) → tree path ≡ Some value → IsOf longest path value
  pub fresh : (path : List Bool) (on : Bool) (pointer : Pointer) → IsPointerIn tree path on pointer → is_prefix pointer.path key ≡ true → pointer.deferred ≡ false
  pub kept : (path : List Bool) (on : Bool) (pointer : Pointer) → IsPointerIn tree path on pointer → is_prefix pointer.path key ≡ true → IsKept digest tree pointer

-- the pointers of a value are of some record
abbrev pub AreOf : Tree → Value → Type 0
AreOf tree value = (on : Bool) (pointer : Pointer) → pointer_of value on ≡ Some pointer → (path : List Bool) × (which : Bool) × IsPointerIn tree path which pointer

-- Where a pointer of the path before leads on the key's side: to the link's path, or the link has it on the other side.
abbrev pub Leads : List Bool → Link → Pointer → Type 0
Leads key link pointer =
    (pointer.path ≡ link.path) ⊎ ((which : Bool) × (pointer_of link.taken which ≡ Some pointer) × (side link.path key ≡ Some (not which)))

-- how the link that comes next stands under the path before
pub record IsNext (longest : ℕ) (digest : Digest) (tree : Tree) (key at : List Bool) (value : Value) (link : Link) : Type 0 where
  pub node : Node
  pub is_node : value ≡ values.Node node
  pub on : Bool
  pub fits : Fits digest at node on link.path link.value link.taken
  pub on_side : side at key ≡ Some on
  pub begins : is_prefix link.path key ≡ true
  pub added : IsOf longest link.path link.value
  pub kind : IsOf longest link.path link.taken
  pub known : AreOf tree link.taken
  pub brought : leads_to (node_side node on) link.path ≡ true → tree link.path ≡ Some link.taken
  pub leads : (pointer : Pointer) → node_side node on ≡ Some pointer → Leads key link pointer
  pub straight : (pointer : Pointer) → node_side node on ≡ Some pointer → is_prefix pointer.path key ≡ true
      → (pointer.path ≡ link.path) × (tree link.path ≡ Some link.taken)

-- a path that has no record yet has no pointer
pub initial_none : (path : List Bool) (on : Bool) (pointer : Pointer) → pointer_of (initial_value path) on ≡ Some pointer → ⊥
initial_none path on pointer is = go (is_data path) is
  where
    side_none : (which : Bool) → node_side empty_node which ≡ Some pointer → ⊥
    side_none true found = none-some pointer found
    side_none false found = none-some pointer found

    go : (b : Bool) → pointer_of (if b then values.Blob None else values.Node empty_node) on ≡ Some pointer → ⊥
    go true found = none-some pointer found
    go false found = side_none on found

-- a data path starts with none
initial_data : (longest : ℕ) (path : List Bool) → IsData path → IsOf longest path (initial_value path)
initial_data longest path whole =
    subst (λ (b : Bool). IsOf longest path (if b then values.Blob None else values.Node empty_node)) (sym (data-is path whole)) (whole, tt)

-- and a shorter one with no pointers
pub initial_node : (longest : ℕ) (path : List Bool) → IsNodePath path → IsOf longest path (initial_value path)
initial_node longest path short =
    subst (λ (b : Bool). IsOf longest path (if b then values.Blob None else values.Node empty_node)) (sym (node-is path short)) (short, tt, tt)

-- what takes a pointer over has that pointer alone
taken_pointer : (which side' : Bool) (pointer found : Pointer) → node_side (taken_over (Some which) pointer) side' ≡ Some found → (side' ≡ which) × (pointer ≡ found)
taken_pointer true true pointer found is = (refl, same_Some pointer found is)
taken_pointer true false pointer found is = absurd (none-some found is)
taken_pointer false true pointer found is = absurd (none-some found is)
taken_pointer false false pointer found is = (refl, same_Some pointer found is)

taken_there : (which : Bool) (pointer : Pointer) → node_side (taken_over (Some which) pointer) which ≡ Some pointer
taken_there true pointer = refl
taken_there false pointer = refl

not_not : (b : Bool) → not (not b) ≡ b
not_not true = refl
not_not false = refl

module _ (longest : ℕ) (digest : Digest) (tree : Tree) (key : List Bool) (lead : LeadTo longest digest tree key) where
  -- where the pointer leads nowhere
  next_new : (at : List Bool) (node : Node) (on : Bool) → side at key ≡ Some on → node_side node on ≡ None
      → IsNext longest digest tree key at (values.Node node) (new_link key)
  next_new at node on below none = record {
    node = node;
    is_node = refl;
    on = on;
    fits = fits_new digest at key node on below none;
    on_side = below;
    begins = is_prefix-self key;
    added = initial_data longest key lead.whole;
    kind = initial_data longest key lead.whole;
    known = λ which pointer is. absurd (initial_none key which pointer is);
    brought = λ is. absurd (false≢true (ap (λ (o : Option Pointer). leads_to o key) (sym none) ∙ is));
    leads = λ pointer is. absurd (none-some pointer (sym none ∙ is));
    straight = λ pointer is begins. absurd (none-some pointer (sym none ∙ is));
  }

  -- where it leads to the key or above it
  next_known : (at : List Bool) (node : Node) (on : Bool) (pointer : Pointer) → side at key ≡ Some on → node_side node on ≡ Some pointer
      → IsOf longest at (values.Node node) → AreOf tree (values.Node node) → is_prefix pointer.path key ≡ true
      → IsNext longest digest tree key at (values.Node node) (known_link tree pointer.path)
  next_known at node on pointer below points kind known begins =
      subst (λ (o : Option Value). IsNext longest digest tree key at (values.Node node) (link_of (unwrap_or o (initial_value pointer.path)))) (sym kept.there)
      (record {
        node = node;
        is_node = refl;
        on = on;
        fits = fits_known digest at node on pointer kept.value there points (lead.fresh origin.0 origin.1 pointer origin.2 begins) kept.digest_of;
        on_side = below;
        begins = begins;
        added = lead.kinds pointer.path kept.value kept.there;
        kind = lead.kinds pointer.path kept.value kept.there;
        known = λ which other is. (pointer.path, which, record { value = kept.value; there = kept.there; leads = is });
        brought = λ is. kept.there;
        leads = λ other is. inl (ap (λ (p : Pointer). p.path) (same_Some other pointer (sym is ∙ points)));
        straight = λ other is other_begins. (ap (λ (p : Pointer). p.path) (same_Some other pointer (sym is ∙ points)), kept.there);
      })
    where
      link_of : Value → Link
      link_of value = record { path = pointer.path; value = value; taken = value }

      origin : (path : List Bool) × (which : Bool) × IsPointerIn tree path which pointer
      origin = known on pointer points

      kept : IsKept digest tree pointer
      kept = lead.kept origin.0 origin.1 pointer origin.2 begins

      there : side at pointer.path ≡ Some on
      there = side_of_prefix at pointer.path on (subst (IsSide at on) points (IsSide-node_side longest at node on kind)).below

  -- where it leads past the key
  next_fork : (at : List Bool) (node : Node) (on : Bool) (pointer : Pointer) → side at key ≡ Some on → node_side node on ≡ Some pointer
      → IsOf longest at (values.Node node) → AreOf tree (values.Node node) → is_prefix pointer.path key ≡ false
      → IsNext longest digest tree key at (values.Node node) (fork_link key pointer)
  next_fork at node on pointer below points kind known apart = record {
    node = node;
    is_node = refl;
    on = on;
    fits = fits_fork digest at fork node on where_to.which pointer where_to.below points where_to.path_side;
    on_side = below;
    begins = prefix_of_side fork key (not where_to.which) where_to.key_side;
    added = initial_node longest fork node_fork;
    kind = subst (λ (s : Option Bool). IsOf longest fork (values.Node (taken_over s pointer))) (sym where_to.path_side)
        (IsOf-with_side longest fork empty_node where_to.which (Some pointer) (node_fork, tt, tt)
        (record { below = is_prefix-side fork pointer.path where_to.which where_to.path_side; fits = of_side.fits; digest = of_side.digest }));
    known = λ which other is. known_over which other (subst (λ (s : Option Bool). node_side (taken_over s pointer) which ≡ Some other) where_to.path_side is);
    brought = λ is. absurd (false≢true (sym (same_path-apart pointer.path fork (below_apart fork pointer.path where_to.which where_to.path_side)) ∙ (ap (λ (o : Option Pointer). leads_to o fork) (sym points) ∙ is)));
    leads = λ other is. inr (where_to.which, over other is, where_to.key_side);
    straight = λ other is begins. absurd (false≢true (sym apart ∙ subst (λ (p : Pointer). is_prefix p.path key ≡ true) (same_Some other pointer (sym is ∙ points)) begins));
  }
    where
      fork : List Bool
      fork = common pointer.path key

      of_side : IsPointer at on pointer
      of_side = subst (IsSide at on) points (IsSide-node_side longest at node on kind)

      where_to : Parts at pointer.path key on
      where_to = parts at pointer.path key on (side_of_prefix at pointer.path on of_side.below) below apart of_side.fits lead.whole

      node_fork : IsNodePath fork
      node_fork = node-above fork pointer.path where_to.which where_to.path_side of_side.fits

      over : (other : Pointer) → node_side node on ≡ Some other → node_side (taken_over (side fork pointer.path) pointer) where_to.which ≡ Some other
      over other is =
          ap (λ (s : Option Bool). node_side (taken_over s pointer) where_to.which) where_to.path_side
          ∙ (taken_there where_to.which pointer ∙ (sym points ∙ is))

      known_over : (which : Bool) (other : Pointer) → node_side (taken_over (Some where_to.which) pointer) which ≡ Some other
          → (path : List Bool) × (at_side : Bool) × IsPointerIn tree path at_side other
      known_over which other is =
          subst (λ (p : Pointer). (path : List Bool) × (at_side : Bool) × IsPointerIn tree path at_side p)
          (taken_pointer where_to.which which pointer other is).1 (known on pointer points)

  -- The link that comes next fits.
  pub next_fits : (at : List Bool) (value : Value) (link : Link) → IsOf longest at value → AreOf tree value
      → IsNextLink tree key at value link → IsNext longest digest tree key at value link
  next_fits at (values.Blob blob) link kind known next =
      absurd (data-no_node at kind.0 (node-above at key next.on next.on_side (data-path key lead.whole)))
  next_fits at (values.Node node) link kind known next =
      subst (IsNext longest digest tree key at (values.Node node)) (sym next.next) (branch (node_side node next.on) refl)
    where
      tested : (pointer : Pointer) → node_side node next.on ≡ Some pointer → (b : Bool) → is_prefix pointer.path key ≡ b
          → IsNext longest digest tree key at (values.Node node) (if b then known_link tree pointer.path else fork_link key pointer)
      tested pointer points true begins = next_known at node next.on pointer next.on_side points kind known begins
      tested pointer points false apart = next_fork at node next.on pointer next.on_side points kind known apart

      branch : (o : Option Pointer) → node_side node next.on ≡ o → IsNext longest digest tree key at (values.Node node) (next_link tree key o)
      branch None none = next_new at node next.on next.on_side none
      branch (Some pointer) points = tested pointer points (is_prefix pointer.path key) refl
