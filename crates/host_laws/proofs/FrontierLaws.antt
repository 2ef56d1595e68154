-- The head of a chain: the frontier of a shard that can serve a key.
use Rattle.std.proofs.Common.{ℕ, ◌≡◌, ◌+◌, ◌≤◌, Bool, true, false, List, [], ◌∷◌, length, Option, Some, None, IsSome, if◌then◌else◌, refl, ap, subst, arith}
use Rattle.std.specs.List.{IsAmong}
use Rattle.std.proofs.lemmas.Bool.{false≢true}
use Rattle.tree_keys.specs.Path.{side, is_prefix, IsIn, IsData}
use Rattle.tree_keys.proofs.PathLaws.{same_path-self, same_path-apart}
use Rattle.tree_keys.proofs.SideLaws.{prefix_of_side}
use Rattle.tree_keys.proofs.TreeLaws.{in-below, data-path}
use Rattle.verifier_commands.proofs.BelowLaws.{below_apart}
use Rattle.record_text.specs.declared.value.Pointer.{Pointer}
use Rattle.record_text.specs.declared.value.Value.{Value}
use Rattle.record_text.specs.Value.{IsOf}
use Rattle.merkle_records.specs.Merkle.{Digest}
use Rattle.merkle_records.proofs.KindLaws.{length-side}
use Rattle.host_shard.specs.declared.link.Link.{Link}
use Rattle.host_shard.specs.Tree.{Tree, IsPointerIn}
use Rattle.host_shard.specs.Chain.{IsChain}
use Rattle.host_shard.specs.Shard.{Shard, tree_of}
use Rattle.host_shard.specs.Mirrors.{IsShard, IsKeyOf}
use Rattle.host_plan.specs.Plan.{IsServable}
use Rattle.host_laws.proofs.DepthLaws.{some_path, data_whole, in-above}
use Rattle.host_laws.proofs.ChainLaws.{LeadTo, AreOf, next_fits}

-- its records lead to the key
pub leads : (longest : ℕ) (digest : Digest) (shard : Shard) (key : List Bool) → IsServable longest digest shard key → LeadTo longest digest (tree_of shard) key
leads longest digest shard key can = record {
  whole = can.own.whole;
  kinds = can.fits.kinds;
  fresh = fresh;
  kept = λ path on pointer is begins. can.mirrors.kept path on pointer is (fresh path on pointer is begins);
}
  where
    fresh : (path : List Bool) (on : Bool) (pointer : Pointer) → IsPointerIn (tree_of shard) path on pointer → is_prefix pointer.path key ≡ true → pointer.deferred ≡ false
    fresh path on pointer is begins = go pointer.deferred refl
      where
        go : (b : Bool) → pointer.deferred ≡ b → pointer.deferred ≡ false
        go false not_so = not_so
        go true deferred =
            let among = can.mirrors.waits path on pointer is deferred in
            let whole : IsData pointer.path = can.mirrors.hot_keys.whole pointer.path among in
            absurd (can.cold (subst (IsAmong can.hot) (data_whole pointer.path key begins whole (data-path key can.own.whole)) among))

-- the frontier is of the tree of its keys
pub frontier_in : (wide : Bool) (longest : ℕ) (shard : Shard) (key : List Bool) → IsShard longest shard → IsKeyOf shard key → IsIn wide key → IsIn wide shard.frontier
frontier_in wide longest shard key fits own within = go (side shard.frontier key) refl own.below
  where
    go : (s : Option Bool) → side shard.frontier key ≡ s → IsSome s → IsIn wide shard.frontier
    go None none is = absurd (false≢true is)
    go (Some on) below is = in-above wide shard.frontier key (some_path shard.frontier fits.below_root) (prefix_of_side shard.frontier key on below) within

-- and they of its
pub key_in : (wide : Bool) (shard : Shard) (key : List Bool) → IsKeyOf shard key → IsIn wide shard.frontier → IsIn wide key
key_in wide shard key own within = go (side shard.frontier key) refl own.below
  where
    go : (s : Option Bool) → side shard.frontier key ≡ s → IsSome s → IsIn wide key
    go None none is = absurd (false≢true is)
    go (Some on) below is = in-below wide shard.frontier key on within below

-- the frontier's own record
pub frontier_there : (shard : Shard) → tree_of shard shard.frontier ≡ Some shard.value
frontier_there shard = ap (λ (b : Bool). if b then Some shard.value else shard.records shard.frontier) (same_path-self shard.frontier)

pub frontier_of : (shard : Shard) → AreOf (tree_of shard) shard.value
frontier_of shard on pointer is = (shard.frontier, on, record { value = shard.value; there = frontier_there shard; leads = is })

pub frontier_based : (shard : Shard) (k : List Bool) (on : Bool) → side shard.frontier k ≡ Some on → tree_of shard k ≡ shard.records k
frontier_based shard k on below =
    ap (λ (b : Bool). if b then Some shard.value else shard.records k) (same_path-apart k shard.frontier (below_apart shard.frontier k on below))

-- a chain has no more links than the key has bits behind its head
pub chain_length : (longest : ℕ) (digest : Digest) (tree : Tree) (key : List Bool) → LeadTo longest digest tree key
    → (at : List Bool) (value : Value) (links : List Link) → IsOf longest at value → AreOf tree value → IsChain tree key at value links
    → length links + length at ≤ length key
chain_length longest digest tree key lead at value [] kind known chain = omega (arith, ap (λ (k : List Bool). length k) chain)
chain_length longest digest tree key lead at value (link ∷ links) kind known chain =
    let next = next_fits longest digest tree key lead at value link kind known chain.0 in
    let longer = length-side at link.path next.on next.fits.below in
    let rest = chain_length longest digest tree key lead link.path link.taken links next.kind next.known chain.1 in
    omega arith
