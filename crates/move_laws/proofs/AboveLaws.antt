-- The pointers of a stage that mirrors, on the way to a whole key.
use Rattle.std.proofs.Common.{ℕ, ◌≡◌, ◌≢◌, ◌⊎◌, Bool, true, false, List, [], ◌∷◌, map, Some, IsSome, if◌then◌else◌, refl, sym, ◌∙◌, ap, subst, inl, inr}
use Rattle.tree_keys.specs.Path.{side, is_prefix, same_path, IsData}
use Rattle.tree_keys.proofs.SideLaws.{prefix_cases, side-trans}
use Rattle.tree_keys.proofs.TreeLaws.{data-path, data-no_node}
use Rattle.record_text.specs.declared.value.Pointer.{Pointer}
use Rattle.record_text.specs.declared.value.Value.{Value}
use Rattle.merkle_records.specs.Merkle.{Digest}
use Rattle.host_shard.specs.declared.link.Link.{Link}
use Rattle.host_shard.specs.declared.content.HotRecord.{HotRecord}
use Rattle.host_shard.specs.Tree.{Tree, IsPointerIn}
use Rattle.host_shard.specs.Chain.{closed_value, closed_records}
use Rattle.host_shard.specs.Shard.{Shard, tree_of}
use Rattle.host_shard.specs.Mirrors.{IsKept}
use Rattle.host_laws.proofs.DepthLaws.{data_whole}
use Rattle.protection_moves.specs.Stage.{Stage}
use Rattle.move_laws.specs.Stages.{StageMirrors, IsOne}
use Rattle.move_laws.proofs.PlaceLaws.{one_of-all}
use Rattle.move_laws.proofs.VacantLaws.{all-images, AreDifferent}

-- a path that had a record has one behind a chain
pub closed_some : (digest : Digest) (lent : Bool) (base : Tree) (links : List Link) (last : Value) (path : List Bool) → IsSome (base path)
    → IsSome (closed_records digest lent base links last path)
closed_some digest lent base [] last path there = there
closed_some digest lent base (link ∷ links) last path there = go (same_path path link.path) (closed_some digest lent base links last path there)
  where
    go : (b : Bool) → IsSome (closed_records digest lent base links last path)
        → IsSome (if b then Some (closed_value digest lent link.path link.taken links last) else closed_records digest lent base links last path)
    go true rest = refl
    go false rest = rest

-- two records are one, or apart
pub different_one : {A : Type 0} (of : HotRecord → A) (records : List HotRecord) (r found : HotRecord) → AreDifferent (map of records)
    → IsOne records r → IsOne records found → (r ≡ found) ⊎ (of r ≢ of found)
different_one of [] r found different is also = absurd is
different_one of (first ∷ records) r found different (inl one) (inl other) = inl (one ∙ sym other)
different_one of (first ∷ records) r found different (inl one) (inr other) =
    inr (λ same. one_of-all (λ h. of first ≢ of h) records found (all-images of (λ y. of first ≢ y) records different.0) other (ap of (sym one) ∙ same))
different_one of (first ∷ records) r found different (inr one) (inl other) =
    inr (λ same. one_of-all (λ h. of first ≢ of h) records r (all-images of (λ y. of first ≢ y) records different.0) one (ap of (sym other) ∙ sym same))
different_one of (first ∷ records) r found different (inr one) (inr other) = different_one of records r found different.1 one other

-- what lies below a path that has another as a front lies below that one
pub side-prefix-of : (front at path : List Bool) (on : Bool) → is_prefix front at ≡ true → side at path ≡ Some on → (which : Bool) × (side front path ≡ Some which)
side-prefix-of front at path on begins below = go (prefix_cases front at begins)
  where
    go : (front ≡ at) ⊎ ((which : Bool) × (side front at ≡ Some which)) → (which : Bool) × (side front path ≡ Some which)
    go (inl same) = (on, ap (λ (k : List Bool). side k path) same ∙ below)
    go (inr above) = (above.0, side-trans front at path above.0 on above.1 below)

module _ (longest : ℕ) (digest : Digest) (stage : Stage) (mirrors : StageMirrors longest digest stage) where
  abbrev shard : Shard
  shard = stage.shard

  abbrev old : Tree
  old = tree_of stage.shard

  -- the pointers on the way to a whole key, but for one to the key itself: each is kept
  pub above_is_kept : (key : List Bool) (at : List Bool) (on : Bool) (pointer : Pointer) → IsData key → IsPointerIn old at on pointer
      → is_prefix pointer.path key ≡ true → pointer.path ≢ key → (pointer.deferred ≡ false) × IsKept digest old pointer
  above_is_kept key at on pointer whole is begins apart =
      let fresh = go pointer.deferred refl in (fresh, mirrors.shard.mirrors.kept at on pointer is fresh)
    where
      go : (b : Bool) → pointer.deferred ≡ b → pointer.deferred ≡ false
      go false not_so = not_so
      go true deferred =
          let hot_whole : IsData pointer.path =
          mirrors.shard.mirrors.hot_keys.whole pointer.path (mirrors.shard.mirrors.waits at on pointer is deferred) in
          absurd (apart (data_whole pointer.path key begins hot_whole (data-path key whole)))

  pub apart_from : (key : List Bool) → IsData key → shard.frontier ≢ key
  apart_from key whole same = data-no_node shard.frontier (subst IsData (sym same) whole) mirrors.shard.fits.no_data
