-- The way to a record that is there: a chain that follows the pointers to it.
use Rattle.std.proofs.Common.{ℕ, ◌≡◌, ◌≢◌, ◌⊎◌, ◌+◌, ◌≤◌, Bool, true, List, [], ◌∷◌, length, Option, Some, if◌then◌else◌, refl, sym, ◌∙◌, ap, subst, inl, inr, arith}
use Rattle.std.specs.Option.{unwrap_or}
use Rattle.std.proofs.lemmas.Option.{none-some, same_Some}
use Rattle.tree_keys.specs.Path.{side, is_prefix}
use Rattle.tree_keys.proofs.SideLaws.{side-self, is_prefix-self, is_prefix-trans, prefix_of_side, side_of_prefix, side-prefix, above_no_prefix}
use Rattle.record_text.specs.declared.value.Pointer.{Pointer}
use Rattle.record_text.specs.declared.value.Node.{Node}
use Rattle.record_text.specs.declared.value.Value.{Value}
use Rattle.record_text.specs.declared.value.Value.TheVariants as values
use Rattle.record_text.specs.Value.{IsOf, IsSide, node_side, initial_value}
use Rattle.merkle_records.proofs.KindLaws.{length-side, IsSide-node_side}
use Rattle.host_shard.specs.declared.link.Link.{Link}
use Rattle.host_shard.specs.Tree.{Tree, pointer_of, IsPointerIn, IsReached, at_start, by_pointer}
use Rattle.host_shard.specs.Chain.{known_link, fork_link, next_link, IsNextLink, IsChain, last_value}

-- ---- pointers

-- a value with a pointer is a node's
pub node_with : (value : Value) (on : Bool) (pointer : Pointer) → pointer_of value on ≡ Some pointer
    → (node : Node) × ((value ≡ values.Node node) × (node_side node on ≡ Some pointer))
node_with (values.Blob blob) on pointer is = absurd (none-some pointer is)
node_with (values.Node node) on pointer is = (node, (refl, is))

-- the pointer of a value of a path's kind leads below it on its side
pub pointer_side : (longest : ℕ) (path : List Bool) (value : Value) (on : Bool) (pointer : Pointer) → IsOf longest path value
    → pointer_of value on ≡ Some pointer → side path pointer.path ≡ Some on
pointer_side longest path (values.Blob blob) on pointer kind is = absurd (none-some pointer is)
pointer_side longest path (values.Node node) on pointer kind is =
    side_of_prefix path pointer.path on (subst (IsSide path on) is (IsSide-node_side longest path node on kind)).below

-- ---- what is reached

-- what is reached from a path is that path, or is reached from where one of its pointers leads
pub first_pointer : (tree : Tree) (at path : List Bool) → IsReached tree at path
    → (at ≡ path) ⊎ ((on : Bool) × (pointer : Pointer) × (IsPointerIn tree at on pointer) × (IsReached tree pointer.path path))
first_pointer tree at path at_start = inl refl
first_pointer tree at path (by_pointer from on pointer reached is) = go (first_pointer tree at from reached)
  where
    go : (at ≡ from) ⊎ ((on' : Bool) × (first : Pointer) × (IsPointerIn tree at on' first) × (IsReached tree first.path from))
        → (at ≡ pointer.path) ⊎ ((on' : Bool) × (first : Pointer) × (IsPointerIn tree at on' first) × (IsReached tree first.path pointer.path))
    go (inl same) = inr (on, pointer, subst (λ (k : List Bool). IsPointerIn tree k on pointer) (sym same) is, at_start)
    go (inr first) = inr (first.0, first.1, first.2, by_pointer from on pointer first.3 is)

-- and some pointer leads to it, if it isn't that path
pub last_pointer : (tree : Tree) (at path : List Bool) → IsReached tree at path → at ≢ path
    → (from : List Bool) × (on : Bool) × (pointer : Pointer) × (IsReached tree at from) × (IsPointerIn tree from on pointer) × (pointer.path ≡ path)
last_pointer tree at path at_start apart = absurd (apart refl)
last_pointer tree at path (by_pointer from on pointer reached is) apart = (from, on, pointer, reached, is, refl)

-- each value is of its path's kind
abbrev pub AreOf : ℕ → Tree → Type 0
AreOf longest tree = (path : List Bool) (value : Value) → tree path ≡ Some value → IsOf longest path value

pub side_in : (longest : ℕ) (tree : Tree) (path : List Bool) (on : Bool) (pointer : Pointer) → AreOf longest tree → IsPointerIn tree path on pointer
    → side path pointer.path ≡ Some on
side_in longest tree path on pointer kinds is = pointer_side longest path is.value on pointer (kinds path is.value is.there) is.leads

-- what is reached lies at the path or below it
pub reached_below : (longest : ℕ) (tree : Tree) (at path : List Bool) → AreOf longest tree → IsReached tree at path → is_prefix at path ≡ true
reached_below longest tree at path kinds at_start = is_prefix-self at
reached_below longest tree at path kinds (by_pointer from on pointer reached is) =
    is_prefix-trans at from pointer.path (reached_below longest tree at from kinds reached)
    (prefix_of_side from pointer.path on (side_in longest tree from on pointer kinds is))

-- ---- the way

-- A step down: the pointer on the key's side leads to the record that the link takes as it is. The pointer to the key
-- itself is deferred, or is not.
pub record IsStep (longest : ℕ) (tree : Tree) (key : List Bool) (late : Bool) (at : List Bool) (value : Value) (link : Link) : Type 0 where
  pub node : Node
  pub is_node : value ≡ values.Node node
  pub on : Bool
  pub on_side : side at key ≡ Some on
  pub pointer : Pointer
  pub points : node_side node on ≡ Some pointer
  pub is_in : IsPointerIn tree at on pointer
  pub to : pointer.path ≡ link.path
  pub late_if_last : link.path ≡ key → pointer.deferred ≡ late
  pub as_it_is : link.value ≡ link.taken
  pub there : tree link.path ≡ Some link.taken
  pub begins : is_prefix link.path key ≡ true
  pub below : side at link.path ≡ Some on
  pub kind : IsOf longest link.path link.taken

-- Step by step to the key.
abbrev pub IsWay : ℕ → Tree → List Bool → Bool → List Bool → Value → List Link → Type 0
IsWay longest tree key late at value [] = at ≡ key
IsWay longest tree key late at value (link ∷ links) =
    IsStep longest tree key late at value link × IsWay longest tree key late link.path link.taken links

-- a pointer to the key, which is deferred or not
pub record IsLast (tree : Tree) (key : List Bool) (late : Bool) (from : List Bool) (on : Bool) (pointer : Pointer) : Type 0 where
  pub is : IsPointerIn tree from on pointer
  pub to : pointer.path ≡ key
  pub deferred : pointer.deferred ≡ late

module _ (longest : ℕ) (tree : Tree) (key : List Bool) (late : Bool) (kinds : AreOf longest tree) (end : Value) (there : tree key ≡ Some end)
    (from : List Bool) (last_on : Bool) (last : Pointer) (is_last : IsLast tree key late from last_on last) where
  last_below : side from key ≡ Some last_on
  last_below = ap (side from) (sym is_last.to) ∙ side_in longest tree from last_on last kinds is_last.is

  -- what is above the last pointer has a record
  above_there : (at : List Bool) → IsReached tree at from → (value : Value) × (tree at ≡ Some value)
  above_there at reached = go (first_pointer tree at from reached)
    where
      go : (at ≡ from) ⊎ ((on : Bool) × (pointer : Pointer) × (IsPointerIn tree at on pointer) × (IsReached tree pointer.path from))
          → (value : Value) × (tree at ≡ Some value)
      go (inl same) = (is_last.is.value, ap tree same ∙ is_last.is.there)
      go (inr first) = (first.2.value, first.2.there)

  -- a step along a pointer
  step_by : (at : List Bool) (value : Value) (link : Link) (on : Bool) (pointer : Pointer) → tree at ≡ Some value → IsPointerIn tree at on pointer
      → is_prefix pointer.path key ≡ true → (here : Value) → tree pointer.path ≡ Some here → (pointer.path ≡ key → pointer.deferred ≡ late)
      → IsNextLink tree key at value link
      → IsStep longest tree key late at value link × (link.path ≡ pointer.path)
  step_by at value link on pointer known is begins here found late_if next =
      subst (λ (l : Link). IsStep longest tree key late at value l × (l.path ≡ pointer.path)) (sym link_is) (
        record {
          node = node.0;
          is_node = node.1.0;
          on = on;
          on_side = toward;
          pointer = pointer;
          points = node.1.1;
          is_in = is;
          to = refl;
          late_if_last = late_if;
          as_it_is = refl;
          there = found;
          begins = begins;
          below = below;
          kind = kinds pointer.path here found;
        },
        refl,
      )
    where
      leads : pointer_of value on ≡ Some pointer
      leads = ap (λ (v : Value). pointer_of v on) (same_Some value is.value (sym known ∙ is.there)) ∙ is.leads

      node : (n : Node) × ((value ≡ values.Node n) × (node_side n on ≡ Some pointer))
      node = node_with value on pointer leads

      below : side at pointer.path ≡ Some on
      below = side_in longest tree at on pointer kinds is

      toward : side at key ≡ Some on
      toward = side-prefix at pointer.path key on below begins

      link_is : link ≡ record { path = pointer.path; value = here; taken = here }
      link_is =
          next.next
          ∙ (ap (λ (o : Option Pointer). next_link tree key o)
          (ap (λ (s : Bool). pointer_of value s) (same_Some next.on on (sym next.on_side ∙ toward)) ∙ leads)
          ∙ (ap (λ (b : Bool). if b then known_link tree pointer.path else fork_link key pointer) begins
          ∙ ap (λ (o : Option Value). record { path = pointer.path; value = unwrap_or o (initial_value pointer.path); taken = unwrap_or o (initial_value pointer.path) }) found))

  -- one step, to the key or to what is above the last pointer
  step_of : (at : List Bool) (value : Value) (link : Link) → tree at ≡ Some value → IsReached tree at from → IsNextLink tree key at value link
      → IsStep longest tree key late at value link × ((link.path ≡ key) ⊎ IsReached tree link.path from)
  step_of at value link known reached next = go (first_pointer tree at from reached)
    where
      go : (at ≡ from) ⊎ ((on : Bool) × (pointer : Pointer) × (IsPointerIn tree at on pointer) × (IsReached tree pointer.path from))
          → IsStep longest tree key late at value link × ((link.path ≡ key) ⊎ IsReached tree link.path from)
      go (inl same) =
          let one = step_by at value link last_on last known (subst (λ (k : List Bool). IsPointerIn tree k last_on last) (sym same) is_last.is)
          (subst (λ (k : List Bool). is_prefix k key ≡ true) (sym is_last.to) (is_prefix-self key)) end (ap tree is_last.to ∙ there) (λ is. is_last.deferred) next in
          (one.0, inl (one.1 ∙ is_last.to))
      go (inr first) =
          let above = reached_below longest tree first.1.path from kinds first.3 in
          let here = above_there first.1.path first.3 in
          let one = step_by at value link first.0 first.1 known first.2
          (is_prefix-trans first.1.path from key above (prefix_of_side from key last_on last_below)) here.0 here.1
          (λ is. absurd (above_no_prefix from key last_on last_below (subst (λ (k : List Bool). is_prefix k from ≡ true) is above))) next in
          (one.0, inr (subst (λ (k : List Bool). IsReached tree k from) (sym one.1) first.3))

  -- A chain to a record to which this pointer leads is the way to it.
  pub way_of : (at : List Bool) (value : Value) (links : List Link) → tree at ≡ Some value → IsReached tree at from → IsChain tree key at value links
      → IsWay longest tree key late at value links
  way_of at value [] known reached chain = chain
  way_of at value (link ∷ links) known reached chain =
      let one = step_of at value link known reached chain.0 in
      (one.0, further links one.0.there one.1 chain.1 (λ is. way_of link.path link.taken links one.0.there is chain.1))
    where
      further : (more : List Link) → tree link.path ≡ Some link.taken → (link.path ≡ key) ⊎ IsReached tree link.path from
          → IsChain tree key link.path link.taken more
          → (IsReached tree link.path from → IsWay longest tree key late link.path link.taken more)
          → IsWay longest tree key late link.path link.taken more
      further more is (inr reached) rest way = way reached
      further [] is (inl same) rest way = same
      further (next ∷ more) is (inl same) rest way =
          absurd (none-some rest.0.on (sym (ap (λ (k : List Bool). side k key) same ∙ side-self key) ∙ rest.0.on_side))

-- the value at its end is the key's record
pub way_end : (longest : ℕ) (tree : Tree) (key : List Bool) (late : Bool) (at : List Bool) (value : Value) (links : List Link) → tree at ≡ Some value
    → IsWay longest tree key late at value links → tree key ≡ Some (last_value value links)
way_end longest tree key late at value [] there way = subst (λ (k : List Bool). tree k ≡ Some value) way there
way_end longest tree key late at value (link ∷ links) there way = way_end longest tree key late link.path link.taken links way.0.there way.1

-- it has no more links than the key has bits behind its head
pub way_length : (longest : ℕ) (tree : Tree) (key : List Bool) (late : Bool) (at : List Bool) (value : Value) (links : List Link)
    → IsWay longest tree key late at value links → length links + length at ≤ length key
way_length longest tree key late at value [] way = omega (arith, ap (λ (k : List Bool). length k) way)
way_length longest tree key late at value (link ∷ links) way =
    let longer = length-side at link.path way.0.on way.0.below in
    let rest = way_length longest tree key late link.path link.taken links way.1 in
    omega arith
