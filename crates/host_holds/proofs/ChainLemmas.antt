-- The records along the chain to a key: that of the key is what the chain ends with, and those of other keys stay.
use Rattle.std.proofs.Common.{◌≡◌, ◌≢◌, ℕ, Bool, true, false, List, [], ◌∷◌, Option, Some, None, IsSome, refl, sym, ◌∙◌, ap, subst, if◌then◌else◌}
use Rattle.std.specs.Option.{unwrap_or}
use Rattle.tree_keys.specs.Path.{is_prefix, same_path, is_data, IsData, IsNodePath}
use Rattle.tree_keys.proofs.PathLaws.{same_path-self, same_path-apart}
use Rattle.tree_keys.proofs.SideLaws.{is_prefix-self, above_apart}
use Rattle.tree_keys.proofs.TreeLaws.{data-path, data-no_node}
use Rattle.record_text.specs.declared.value.Pointer.{Pointer}
use Rattle.record_text.specs.declared.value.Value.{Value}
use Rattle.record_text.specs.declared.value.Value.TheVariants as values
use Rattle.record_text.specs.Value.{empty_node, initial_value}
use Rattle.merkle_records.specs.Merkle.{Digest}
use Rattle.verifier_commands.specs.Outcome.{blob_of}
use Rattle.soundness.specs.World.{blob_in}
use Rattle.host_shard.specs.declared.link.Link.{Link}
use Rattle.host_shard.specs.Tree.{Tree, pointer_of, IsReached}
use Rattle.host_shard.specs.Chain.{known_link, fork_link, next_link, IsChain, last_value, closed_value, closed_records}
use Rattle.host_shard.specs.Shard.{Shard, tree_of}
use Rattle.host_shard.specs.Mirrors.{IsShard}
use Rattle.host_laws.proofs.DepthLaws.{data_whole}
use Rattle.host_laws.proofs.ReachedLaws.{found}
use Rattle.host_laws.proofs.ForkLaws.{common-second}

module _ (tree : Tree) (key : List Bool) where
  -- each link's path begins the key
  begins : (o : Option Pointer) → is_prefix (next_link tree key o).path key ≡ true
  begins None = is_prefix-self key
  begins (Some pointer) = go (is_prefix pointer.path key) refl
    where
      go : (b : Bool) → is_prefix pointer.path key ≡ b → is_prefix (if b then known_link tree pointer.path else fork_link key pointer).path key ≡ true
      go true is = is
      go false is = common-second pointer.path key

  -- The records of other keys stay along a chain.
  pub others_stay : (digest : Digest) (lent : Bool) (records : Tree) (at : List Bool) (value : Value) (links : List Link) (last : Value) (other : List Bool)
      → IsData key → IsData other → other ≢ key → IsChain tree key at value links → closed_records digest lent records links last other ≡ records other
  others_stay digest lent records at value [] last other whole other_whole apart chain = refl
  others_stay digest lent records at value (link ∷ links) last other whole other_whole apart chain =
      ap (λ (b : Bool). if b then Some (closed_value digest lent link.path link.taken links last) else closed_records digest lent records links last other)
      (same_path-apart other link.path (λ same. apart (data_whole other key (subst (λ (p : List Bool). is_prefix p key ≡ true) (sym same) front) other_whole (data-path key whole))))
      ∙ others_stay digest lent records link.path link.taken links last other whole other_whole apart chain.1
    where
      front : is_prefix link.path key ≡ true
      front = subst (λ (l : Link). is_prefix l.path key ≡ true) (sym chain.0.next) (begins (pointer_of value chain.0.on))

  -- And the key has the value with which the chain ends.
  pub ends_with : (digest : Digest) (lent : Bool) (records : Tree) (at : List Bool) (value : Value) (link : Link) (links : List Link) (last : Value)
      → IsChain tree key at value (link ∷ links) → closed_records digest lent records (link ∷ links) last key ≡ Some last
  ends_with digest lent records at value link [] last chain =
      ap (λ (b : Bool). if b then Some last else records key)
      (ap (same_path key) chain.1 ∙ same_path-self key)
  ends_with digest lent records at value link (next ∷ links) last chain =
      ap (λ (b : Bool). if b then Some (closed_value digest lent link.path link.taken (next ∷ links) last) else closed_records digest lent records (next ∷ links) last key)
      (same_path-apart key link.path (λ same. above_apart link.path key chain.1.0.on chain.1.0.on_side (sym same)))
      ∙ ends_with digest lent records link.path link.taken next links last chain.1

  -- ---- the value that is found

  initial_blob : (path : List Bool) → blob_of (initial_value path) ≡ None
  initial_blob path = go (is_data path)
    where
      go : (b : Bool) → blob_of (if b then values.Blob None else values.Node empty_node) ≡ None
      go true = refl
      go false = refl

  -- a link to the key finds no data value where the key has no record
  new_found : (o : Option Pointer) → (next_link tree key o).path ≡ key → tree key ≡ None → blob_of (next_link tree key o).taken ≡ None
  new_found None is none = initial_blob key
  new_found (Some pointer) is none = go (is_prefix pointer.path key) is
    where
      go : (b : Bool) → (if b then known_link tree pointer.path else fork_link key pointer).path ≡ key
          → blob_of (if b then known_link tree pointer.path else fork_link key pointer).taken ≡ None
      go true same =
          ap (λ (o : Option Value). blob_of (unwrap_or o (initial_value pointer.path))) (ap tree same ∙ none)
          ∙ initial_blob pointer.path
      go false same = refl

  none_found : (at : List Bool) (value : Value) (link : Link) (links : List Link) → IsChain tree key at value (link ∷ links) → tree key ≡ None
      → blob_of (last_value value (link ∷ links)) ≡ None
  none_found at value link [] chain none =
      ap (λ (l : Link). blob_of l.taken) chain.0.next
      ∙ new_found (pointer_of value chain.0.on) (ap (λ (l : Link). l.path) (sym chain.0.next) ∙ chain.1) none
  none_found at value link (next ∷ links) chain none = none_found link.path link.taken next links chain.1 none

-- ---- in a shard

-- the records of a shard are its tree but for the frontier
pub own_record : (longest : ℕ) (shard : Shard) (key : List Bool) → IsShard longest shard → IsData key → tree_of shard key ≡ shard.records key
own_record longest shard key fits whole =
    ap (λ (b : Bool). if b then Some shard.value else shard.records key)
    (same_path-apart key shard.frontier (λ same. data-no_node key whole (subst IsNodePath (sym same) fits.no_data)))

-- a chain to a key has a link
pub some_link : (longest : ℕ) (shard : Shard) (tree : Tree) (key : List Bool) (value : Value) (links : List Link) (P : List Link → Type 0) → IsShard longest shard → IsData key
    → IsChain tree key shard.frontier value links
    → ((link : Link) (rest : List Link) → IsChain tree key shard.frontier value (link ∷ rest) → P (link ∷ rest)) → P links
some_link longest shard tree key value [] P fits whole chain each = absurd (data-no_node key whole (subst IsNodePath chain fits.no_data))
some_link longest shard tree key value (link ∷ links) P fits whole chain each = each link links chain

-- The data value that the chain to a key finds is that of the key's record, and none where it has none.
pub finds : (longest : ℕ) (shard : Shard) (key : List Bool) (links : List Link) → IsShard longest shard → IsData key
    → ((path : List Bool) → IsSome (tree_of shard path) → IsReached (tree_of shard) shard.frontier path)
    → IsChain (tree_of shard) key shard.frontier shard.value links
    → blob_of (last_value shard.value links) ≡ blob_in (shard.records key)
finds longest shard key links fits whole reached chain =
    go (tree_of shard key) refl ∙ ap blob_in (own_record longest shard key fits whole)
  where
    frontier_there : tree_of shard shard.frontier ≡ Some shard.value
    frontier_there = ap (λ (b : Bool). if b then Some shard.value else shard.records shard.frontier) (same_path-self shard.frontier)

    go : (o : Option Value) → tree_of shard key ≡ o → blob_of (last_value shard.value links) ≡ blob_in (tree_of shard key)
    go None is =
        some_link longest shard (tree_of shard) key shard.value links (λ all. blob_of (last_value shard.value all) ≡ None) fits whole chain
        (λ link rest way. none_found (tree_of shard) key shard.frontier shard.value link rest way is)
        ∙ sym (ap blob_in is)
    go (Some value) is =
        ap blob_of (found (tree_of shard) key longest fits.kinds shard.frontier shard.value links value frontier_there chain
        (reached key (subst IsSome (sym is) refl)) is)
        ∙ sym (ap blob_in is)
