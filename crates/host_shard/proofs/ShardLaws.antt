-- A shard stays a shard: its values are of their paths' kinds, also behind a chain that was rehashed.
use Rattle.std.proofs.Common.{◌≡◌, ℕ, ◌<◌, Bool, true, false, List, [], ◌∷◌, Option, Some, None, if◌then◌else◌, refl, sym, ◌∙◌, ap, subst}
use Rattle.std.proofs.lemmas.Option.{none-some, same_Some}
use Rattle.tree_keys.specs.Path.{depth, side, same_path, IsData, IsPath, IsNodePath}
use Rattle.tree_keys.proofs.PathLaws.{same_path-true}
use Rattle.tree_keys.proofs.TreeLaws.{data-path, node-path}
use Rattle.lamport_clocks.specs.declared.stamp.Stamp.{Stamp}
use Rattle.record_text.specs.declared.value.Value.{Value}
use Rattle.record_text.specs.declared.value.Value.TheVariants as values
use Rattle.record_text.specs.Value.{IsOf}
use Rattle.record_text.proofs.ValueTextLaws.{initial_value-kind}
use Rattle.merkle_records.specs.Merkle.{Digest, GivesDigests, pointer_to}
use Rattle.merkle_records.proofs.KindLaws.{is_prefix-side, IsOf-with_side}
use Rattle.host_shard.specs.declared.link.Link.{Link}
use Rattle.host_shard.specs.Tree.{Tree}
use Rattle.host_shard.specs.Chain.{IsChain, aimed, aimed_on, closed_value, closed_records}
use Rattle.host_shard.specs.Shard.{Shard, tree_of, rehashed, new_shard}
use Rattle.host_shard.specs.Mirrors.{IsShard, IsKeyOf}
use Rattle.host_shard.proofs.ChainLaws.{AreOf, frontier_kind, next_of}

-- the path of a value isn't longer than the keys of its tree
length-IsOf : (longest : ℕ) (path : List Bool) (value : Value) → IsOf longest path value → IsPath path
length-IsOf longest path (values.Blob blob) kind = data-path path kind.0
length-IsOf longest path (values.Node node) kind = node-path path kind.0

-- a value whose pointer leads to a path below it
aimed_kind : (longest : ℕ) (digest : Digest) (at path : List Bool) (on : Bool) (value became : Value) → GivesDigests digest → side at path ≡ Some on
    → IsOf longest at value → IsOf longest path became → IsOf longest at (aimed at value (pointer_to digest path became))
aimed_kind longest digest at path on (values.Blob blob) became digests below kind other = kind
aimed_kind longest digest at path on (values.Node node) became digests below kind other =
    subst (λ (s : Option Bool). IsOf longest at (aimed_on node (pointer_to digest path became) s)) (sym below)
    (IsOf-with_side longest at node on (Some (pointer_to digest path became)) kind
    (record { below = is_prefix-side at path on below; fits = length-IsOf longest path became other; digest = digests _ }))

-- what a path of a chain is in the end
closed_kind : (longest : ℕ) (digest : Digest) (tree : Tree) (key at : List Bool) (value : Value) (links : List Link) (last : Value)
    → GivesDigests digest → IsData key → AreOf longest tree → IsOf longest at value → IsOf longest key last → IsChain tree key at value links
    → IsOf longest at (closed_value digest false at value links last)
closed_kind longest digest tree key at value [] last digests whole kinds kind end chain = subst (λ (p : List Bool). IsOf longest p last) (sym chain) end
closed_kind longest digest tree key at value (link ∷ links) last digests whole kinds kind end chain =
    let next = next_of longest tree key at value link whole kinds kind chain.0 in
    aimed_kind longest digest at link.path chain.0.on value (closed_value digest false link.path link.taken links last) digests next.below kind
    (closed_kind longest digest tree key link.path link.taken links last digests whole kinds next.taken end chain.1)

-- a record with its value, where another path's is written over
kind_with : (longest : ℕ) (tree : Tree) (at path : List Bool) (value : Value) → IsOf longest at value → ((found : Value) → tree path ≡ Some found → IsOf longest path found)
    → (found : Value) → (if same_path path at then Some value else tree path) ≡ Some found → IsOf longest path found
kind_with longest tree at path value kind rest found is = go (same_path path at) refl is
  where
    go : (b : Bool) → same_path path at ≡ b → (if b then Some value else tree path) ≡ Some found → IsOf longest path found
    go true same this =
        subst (λ (v : Value). IsOf longest path v) (same_Some value found this)
        (subst (λ (p : List Bool). IsOf longest p value) (sym (same_path-true path at same)) kind)
    go false apart other = rest found other

-- what the records are in the end
closed_kinds : (longest : ℕ) (digest : Digest) (tree kept : Tree) (key at : List Bool) (value : Value) (links : List Link) (last : Value) (path : List Bool)
    → GivesDigests digest → IsData key → AreOf longest tree → IsOf longest at value → IsOf longest key last → IsChain tree key at value links
    → ((found : Value) → kept path ≡ Some found → IsOf longest path found)
    → (found : Value) → closed_records digest false kept links last path ≡ Some found → IsOf longest path found
closed_kinds longest digest tree kept key at value [] last path digests whole kinds kind end chain rest = rest
closed_kinds longest digest tree kept key at value (link ∷ links) last path digests whole kinds kind end chain rest =
    let next = next_of longest tree key at value link whole kinds kind chain.0 in
    kind_with longest (closed_records digest false kept links last) link.path path (closed_value digest false link.path link.taken links last)
    (closed_kind longest digest tree key link.path link.taken links last digests whole kinds next.taken end chain.1)
    (closed_kinds longest digest tree kept key link.path link.taken links last path digests whole kinds next.taken end chain.1 rest)

-- A shard behind a rehashed chain is a shard.
pub rehashed_is : (longest : ℕ) (digest : Digest) (shard : Shard) (key : List Bool) (links : List Link) (last : Value)
    → GivesDigests digest → IsShard longest shard → IsKeyOf shard key → IsOf longest key last → IsChain (tree_of shard) key shard.frontier shard.value links
    → IsShard longest (rehashed digest shard links last)
rehashed_is longest digest shard key links last digests fits own end chain = record {
  below_root = fits.below_root;
  no_data = fits.no_data;
  kinds = λ path found is. go path found (same_path path shard.frontier) refl is;
}
  where
    top : IsOf longest shard.frontier (closed_value digest false shard.frontier shard.value links last)
    top = closed_kind longest digest (tree_of shard) key shard.frontier shard.value links last digests own.whole fits.kinds (frontier_kind longest shard fits.kinds) end chain

    go : (path : List Bool) (found : Value) (b : Bool) → same_path path shard.frontier ≡ b
        → (if b then Some (closed_value digest false shard.frontier shard.value links last) else closed_records digest false shard.records links last path) ≡ Some found
        → IsOf longest path found
    go path found true same this =
        subst (λ (v : Value). IsOf longest path v) (same_Some _ found this)
        (subst (λ (p : List Bool). IsOf longest p (closed_value digest false shard.frontier shard.value links last)) (sym (same_path-true path shard.frontier same)) top)
    go path found false apart other =
        closed_kinds longest digest (tree_of shard) shard.records key shard.frontier shard.value links last path digests own.whole fits.kinds (frontier_kind longest shard fits.kinds) end chain
        (λ value is. fits.kinds path value (ap (λ (b : Bool). if b then Some shard.value else shard.records path) apart ∙ is)) found other

-- A new shard is a shard.
pub new_is : (longest : ℕ) (frontier : List Bool) (stamp : Stamp) (evictor : ℕ) → 0 < depth frontier → IsNodePath frontier → IsShard longest (new_shard frontier stamp evictor)
new_is longest frontier stamp evictor some short = record {
  below_root = some;
  no_data = short;
  kinds = λ path found is. kind_with longest (λ k. None) frontier path _ (initial_value-kind longest frontier (node-path frontier short)) (λ value no. absurd (none-some value no)) found is;
}
