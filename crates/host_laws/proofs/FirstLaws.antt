-- Shards without records mirror.
use Rattle.std.proofs.Common.{◌≡◌, ℕ, zero, suc, ◌+◌, ◌<◌, Bool, true, false, List, [], Some, None, is_some, if◌then◌else◌, refl, sym, ◌∙◌, ap, subst, arith}
use Rattle.std.specs.List.{AllByRecursion, IsAmong}
use Rattle.std.proofs.lemmas.Bool.{false≢true}
use Rattle.std.proofs.lemmas.Option.{none-some, same_Some}
use Rattle.tree_keys.specs.Path.{key_bits, depth, root_of, same_path, IsIn, IsNodePath}
use Rattle.tree_keys.proofs.TreeLaws.{in-child, depth-child}
use Rattle.tree_keys.proofs.PathLaws.{same_path-true}
use Rattle.lamport_clocks.specs.declared.stamp.Stamp.{Stamp}
use Rattle.record_text.specs.declared.value.Pointer.{Pointer}
use Rattle.record_text.specs.declared.value.Value.{Value}
use Rattle.record_text.specs.Value.{IsOf, initial_value}
use Rattle.merkle_records.specs.Merkle.{Digest}
use Rattle.host_shard.specs.Tree.{IsPointerIn, IsReached, at_start, pointer_of}
use Rattle.host_shard.specs.Shard.{tree_of, new_shard}
use Rattle.host_plan.specs.Setup.{child, paths_below, first_stamp, first_contents, setup_contents}
use Rattle.host_laws.proofs.DepthLaws.{node_in}
use Rattle.host_laws.proofs.ContentsLaws.{first_contents-append}
use Rattle.host_laws.specs.Mirroring.{IsMirrored, ContentMirrors}
use Rattle.host_laws.proofs.ToldLaws.{all-append}
use Rattle.host_laws.proofs.ChainLaws.{initial_node, initial_none}

-- nothing is among no keys
pub among_none : {X : Type 0} (x : X) → IsAmong [] x → ⊥
among_none x is = omega (arith, is.1)

-- A shard without records mirrors.
pub new_mirrors : (longest : ℕ) (digest : Digest) (frontier : List Bool) (stamp : Stamp) (evictor : ℕ) → 0 < depth frontier → IsNodePath frontier
    → IsMirrored longest digest (new_shard frontier stamp evictor) []
new_mirrors longest digest frontier stamp evictor below_root short = record {
  fits = record {
    below_root = below_root;
    no_data = short;
    kinds = λ path value there. let is = only path value there in
        subst (λ (k : List Bool). IsOf longest k value) (sym is.0) (subst (IsOf longest frontier) is.1 (initial_node longest frontier short));
  };
  mirrors = record {
    kept = λ path on pointer is fresh. absurd (no_pointer path on pointer is);
    waits = λ path on pointer is deferred. absurd (no_pointer path on pointer is);
    reached = reached;
    hot_waits = λ path among. absurd (among_none path among);
    hot_keys = record { whole = λ path among. absurd (among_none path among); once = λ i j d below within. absurd (omega arith) };
    touched = λ path some. absurd (omega arith);
  };
}
  where
    only : (path : List Bool) (value : Value) → tree_of (new_shard frontier stamp evictor) path ≡ Some value → (path ≡ frontier) × (initial_value frontier ≡ value)
    only path value there = go (same_path path frontier) refl there
      where
        go : (b : Bool) → same_path path frontier ≡ b → (if b then Some (initial_value frontier) else None) ≡ Some value → (path ≡ frontier) × (initial_value frontier ≡ value)
        go true same is = (same_path-true path frontier same, same_Some (initial_value frontier) value is)
        go false apart is = absurd (none-some value is)

    no_pointer : (path : List Bool) (on : Bool) (pointer : Pointer) → IsPointerIn (tree_of (new_shard frontier stamp evictor)) path on pointer → ⊥
    no_pointer path on pointer is =
        initial_none frontier on pointer (ap (λ (v : Value). pointer_of v on) (only path is.value is.there).1 ∙ is.leads)

    reached : (path : List Bool) → is_some (tree_of (new_shard frontier stamp evictor) path) ≡ true → IsReached (tree_of (new_shard frontier stamp evictor)) frontier path
    reached path there = go (same_path path frontier) refl there
      where
        go : (b : Bool) → same_path path frontier ≡ b → is_some (if b then Some (initial_value frontier) else None) ≡ true
            → IsReached (tree_of (new_shard frontier stamp evictor)) frontier path
        go true same is =
            subst (IsReached (tree_of (new_shard frontier stamp evictor)) frontier) (sym (same_path-true path frontier same)) at_start
        go false apart is = absurd (false≢true is)

-- the shards of a setup mirror
pub first_mirror : (wide : Bool) (longest : ℕ) (digest : Digest) (first levels : ℕ) (path : List Bool) → IsIn wide path → 0 < depth path
    → depth path + levels < key_bits wide → AllByRecursion (ContentMirrors longest digest []) (first_contents first (paths_below levels path))
first_mirror wide longest digest first zero path within below short =
    (new_mirrors longest digest path (first_stamp first path) 0 below (node_in wide path within (omega (arith, short))), tt)
first_mirror wide longest digest first (suc levels) path within below short =
    let near = depth-child wide path false within in
    let far = depth-child wide path true within in
    subst (AllByRecursion (ContentMirrors longest digest []))
    (sym (first_contents-append first (paths_below levels (child path false)) (paths_below levels (child path true))))
    (all-append (ContentMirrors longest digest []) (first_contents first (paths_below levels (child path false))) _
    (first_mirror wide longest digest first levels (child path false) (in-child wide path false within) (omega (arith, near)) (omega (arith, near, short)))
    (first_mirror wide longest digest first levels (child path true) (in-child wide path true within) (omega (arith, far)) (omega (arith, far, short))))

-- all shards of a setup mirror
pub contents_mirror : (longest : ℕ) (digest : Digest) (wide : Bool) (first bits : ℕ) → 0 < bits → bits < key_bits wide
    → AllByRecursion (ContentMirrors longest digest []) (setup_contents wide first bits)
contents_mirror longest digest wide first zero some short = absurd (omega arith)
contents_mirror longest digest wide first (suc levels) some short =
    subst (AllByRecursion (ContentMirrors longest digest []))
    (sym (first_contents-append first (paths_below levels (child (root_of wide) false)) (paths_below levels (child (root_of wide) true))))
    (all-append (ContentMirrors longest digest []) (first_contents first (paths_below levels (child (root_of wide) false))) _
    (first_mirror wide longest digest first levels (child (root_of wide) false) refl (omega arith) (omega (arith, short)))
    (first_mirror wide longest digest first levels (child (root_of wide) true) refl (omega arith) (omega (arith, short))))
