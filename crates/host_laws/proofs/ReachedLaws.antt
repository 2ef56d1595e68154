-- The chain to a key that has a record leads from record to record, and finds the key's.
use Rattle.std.proofs.Common.{ℕ, ◌≡◌, ◌⊎◌, Bool, true, List, [], ◌∷◌, Option, Some, if◌then◌else◌, refl, sym, ◌∙◌, ap, subst, inl, inr}
use Rattle.std.specs.Option.{unwrap_or}
use Rattle.std.proofs.lemmas.Option.{none-some, same_Some}
use Rattle.tree_keys.specs.Path.{side, is_prefix}
use Rattle.tree_keys.proofs.SideLaws.{is_prefix-self, is_prefix-trans, prefix_of_side, side_of_prefix, side-prefix, above_apart}
use Rattle.record_text.specs.declared.value.Pointer.{Pointer}
use Rattle.record_text.specs.declared.value.Value.{Value}
use Rattle.record_text.specs.declared.value.Value.TheVariants as values
use Rattle.record_text.specs.Value.{IsOf, IsSide, initial_value}
use Rattle.merkle_records.specs.Merkle.{leads_over}
use Rattle.merkle_records.proofs.KindLaws.{IsSide-node_side}
use Rattle.host_shard.specs.declared.link.Link.{Link}
use Rattle.host_shard.specs.Tree.{Tree, pointer_of, IsPointerIn, IsReached, at_start, by_pointer}
use Rattle.host_shard.specs.Chain.{known_link, fork_link, next_link, IsNextLink, IsChain, pointer_toward, last_value, known_links}

module _ (tree : Tree) (key : List Bool) where
  -- the first pointer on the way from a path to another that is reached from it
  record Onward (start path : List Bool) : Type 0 where
    on : Bool
    pointer : Pointer
    is : IsPointerIn tree start on pointer
    reached : IsReached tree pointer.path path

  onward : (start path : List Bool) → IsReached tree start path → (start ≡ path) ⊎ Onward start path
  onward start path at_start = inl refl
  onward start path (by_pointer from on pointer reached is) = go (onward start from reached)
    where
      go : (start ≡ from) ⊎ Onward start from → (start ≡ pointer.path) ⊎ Onward start pointer.path
      go (inl same) = inr (record { on = on; pointer = pointer; is = subst (λ (p : List Bool). IsPointerIn tree p on pointer) (sym same) is; reached = at_start })
      go (inr way) = inr (record { on = way.on; pointer = way.pointer; is = way.is; reached = by_pointer from on pointer way.reached is })

  -- where a path is reached that has a record, there is one where the way to it begins
  there : (start path : List Bool) (value : Value) → tree path ≡ Some value → IsReached tree start path → (found : Value) × (tree start ≡ Some found)
  there start path value is reached = go (onward start path reached)
    where
      go : (start ≡ path) ⊎ Onward start path → (found : Value) × (tree start ≡ Some found)
      go (inl same) = (value, ap tree same ∙ is)
      go (inr way) = (way.is.value, way.is.there)

  module _ (longest : ℕ) (kinds : (path : List Bool) (value : Value) → tree path ≡ Some value → IsOf longest path value) where
    -- a pointer leads below, on its side
    leads_below : (path : List Bool) (on : Bool) (pointer : Pointer) → IsPointerIn tree path on pointer → side path pointer.path ≡ Some on
    leads_below path on pointer is = go is.value is.leads (kinds path is.value is.there)
      where
        go : (value : Value) → pointer_of value on ≡ Some pointer → IsOf longest path value → side path pointer.path ≡ Some on
        go (values.Blob blob) leads kind = absurd (none-some pointer leads)
        go (values.Node node) leads kind =
            side_of_prefix path pointer.path on (subst (IsSide path on) leads (IsSide-node_side longest path node on kind)).below

    reached_begins : (start path : List Bool) → IsReached tree start path → is_prefix start path ≡ true
    reached_begins start path at_start = is_prefix-self start
    reached_begins start path (by_pointer from on pointer reached is) =
        is_prefix-trans start from pointer.path (reached_begins start from reached) (prefix_of_side from pointer.path on (leads_below from on pointer is))

    -- the next link on the way to a key that is reached is the record to which the pointer leads, and the key is reached from it
    record IsFurther (at : List Bool) (value : Value) (link : Link) : Type 0 where
      over : leads_over (pointer_toward value (side at key)) key ≡ true
      here : tree link.path ≡ Some link.taken
      reached : IsReached tree link.path key

    further : (at : List Bool) (value : Value) (link : Link) (of_key : Value) → tree at ≡ Some value → IsNextLink tree key at value link
        → IsReached tree at key → tree key ≡ Some of_key → IsFurther at value link
    further at value link of_key here next reached is = go (onward at key reached)
      where
        go : (at ≡ key) ⊎ Onward at key → IsFurther at value link
        go (inl same) = absurd (above_apart at key next.on next.on_side same)
        go (inr way) = record {
          over = ap (λ (s : Option Bool). leads_over (pointer_toward value s) key) next.on_side ∙ (ap (λ (o : Option Pointer). leads_over o key) leads ∙ front);
          here = ap tree path_is ∙ record_there.1 ∙ ap Some (sym taken_is);
          reached = subst (λ (p : List Bool). IsReached tree p key) (sym path_is) way.reached;
        }
          where
            front : is_prefix way.pointer.path key ≡ true
            front = reached_begins way.pointer.path key way.reached

            own_side : way.on ≡ next.on
            own_side =
                same_Some way.on next.on
                (sym (side-prefix at way.pointer.path key way.on (leads_below at way.on way.pointer way.is) front) ∙ next.on_side)

            leads : pointer_of value next.on ≡ Some way.pointer
            leads =
                ap (λ (b : Bool). pointer_of value b) (sym own_side)
                ∙ (ap (λ (v : Value). pointer_of v way.on) (same_Some value way.is.value (sym here ∙ way.is.there)) ∙ way.is.leads)

            record_there : (v : Value) × (tree way.pointer.path ≡ Some v)
            record_there = there way.pointer.path key of_key is way.reached

            link_is : link ≡ known_link tree way.pointer.path
            link_is =
                next.next
                ∙ (ap (λ (o : Option Pointer). next_link tree key o) leads
                ∙ ap (λ (b : Bool). if b then known_link tree way.pointer.path else fork_link key way.pointer) front)

            path_is : link.path ≡ way.pointer.path
            path_is = ap (λ (l : Link). l.path) link_is

            taken_is : link.taken ≡ record_there.0
            taken_is = ap (λ (l : Link). l.taken) link_is ∙ ap (λ (o : Option Value). unwrap_or o (initial_value way.pointer.path)) record_there.1

    -- The chain comes to the record of a key that has one, and finds its value.
    pub found : (at : List Bool) (value : Value) (links : List Link) (of_key : Value) → tree at ≡ Some value → IsChain tree key at value links
        → IsReached tree at key → tree key ≡ Some of_key → last_value value links ≡ of_key
    found at value [] of_key here chain reached is = same_Some value of_key (sym here ∙ (ap tree chain ∙ is))
    found at value (link ∷ links) of_key here chain reached is =
        let next = further at value link of_key here chain.0 reached is in
        found link.path link.taken links of_key next.here chain.1 next.reached is

    -- And each of its links has a record.
    pub known_all : (at : List Bool) (value : Value) (links : List Link) (of_key : Value) → tree at ≡ Some value → IsChain tree key at value links
        → IsReached tree at key → tree key ≡ Some of_key → known_links key at value links ≡ links
    known_all at value [] of_key here chain reached is = refl
    known_all at value (link ∷ links) of_key here chain reached is =
        let next = further at value link of_key here chain.0 reached is in
        ap (λ (b : Bool). if b then link ∷ known_links key link.path link.taken links else []) next.over
        ∙ ap (λ (more : List Link). link ∷ more) (known_all link.path link.taken links of_key next.here chain.1 next.reached is)
