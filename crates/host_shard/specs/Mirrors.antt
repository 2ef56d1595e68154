-- When a shard mirrors what the verifiers hold of it.
use Rattle.std.specs.Prelude.{ℕ, ◌≡◌, ◌≢◌, ◌<◌, ◌^◌, Bool, true, false, List, Some, IsSome, AllPairs}
use Rattle.std.specs.List.{IsAmong}
use Rattle.tree_keys.specs.Path.{key_bits, depth, is_prefix, IsBelow, IsData, IsNodePath}
use Rattle.record_text.specs.declared.value.Pointer.{Pointer}
use Rattle.record_text.specs.declared.value.Value.{Value}
use Rattle.record_text.specs.Value.{IsOf}
use Rattle.record_text.specs.Texts.{value_text}
use Rattle.merkle_records.specs.Merkle.{Digest}
use Rattle.host_shard.specs.Tree.{Tree, IsPointerIn, IsReached}
use Rattle.host_shard.specs.declared.content.HotRecord.{HotRecord}
use Rattle.host_shard.specs.Shard.{Shard, wide_in, tree_of}

-- What every shard is: its frontier is neither the root nor a data path, and each value is of its path's kind.
pub record IsShard (longest : ℕ) (shard : Shard) : Type 0 where
  pub below_root : 0 < depth shard.frontier
  pub no_data : IsNodePath shard.frontier
  pub kinds : (path : List Bool) (value : Value) → tree_of shard path ≡ Some value → IsOf longest path value

-- a key below the shard's frontier
pub record IsKeyOf (shard : Shard) (key : List Bool) : Type 0 where
  pub whole : IsData key
  pub below : IsBelow shard.frontier key

-- the key of a hot record is one of the shard's tree
pub record HasKeyOf (shard : Shard) (record' : HotRecord) : Type 0 where
  pub tree : record'.wide ≡ wide_in shard
  pub range : record'.key < 2 ^ key_bits record'.wide

-- each pointer to a node leads to a record
abbrev pub HasNodes : Tree → Type 0
HasNodes tree = (path : List Bool) (on : Bool) (pointer : Pointer) → IsPointerIn tree path on pointer
    → IsNodePath pointer.path → IsSome (tree pointer.path)

-- the record to which a pointer leads has the pointer's digest
pub record IsKept (digest : Digest) (tree : Tree) (pointer : Pointer) : Type 0 where
  pub value : Value
  pub there : tree pointer.path ≡ Some value
  pub digest_of : pointer.digest ≡ digest (value_text value)

-- a deferred pointer of some record is to the path
pub record IsWaiting (tree : Tree) (path : List Bool) : Type 0 where
  pub at : List Bool
  pub on : Bool
  pub pointer : Pointer
  pub is : IsPointerIn tree at on pointer
  pub to : pointer.path ≡ path
  pub deferred : pointer.deferred ≡ true

-- Hot keys are whole keys, and none is hot twice.
pub record AreHotKeys (hot : List (List Bool)) : Type 0 where
  pub whole : (path : List Bool) → IsAmong hot path → IsData path
  pub once : AllPairs (λ a b. a ≢ b) hot

-- Each pointer that isn't deferred leads to a record whose value has its digest, and each deferred one to a hot key.
-- Every record is reached from the frontier, and every hot key by a deferred pointer. Each key with a touch has a record.
pub record Mirrors (digest : Digest) (shard : Shard) (hot : List (List Bool)) : Type 0 where
  pub kept : (path : List Bool) (on : Bool) (pointer : Pointer) → IsPointerIn (tree_of shard) path on pointer
      → pointer.deferred ≡ false → IsKept digest (tree_of shard) pointer
  pub waits : (path : List Bool) (on : Bool) (pointer : Pointer) → IsPointerIn (tree_of shard) path on pointer
      → pointer.deferred ≡ true → IsAmong hot pointer.path
  pub reached : (path : List Bool) → IsSome (tree_of shard path) → IsReached (tree_of shard) shard.frontier path
  pub hot_waits : (path : List Bool) → IsAmong hot path → IsWaiting (tree_of shard) path
  pub hot_keys : AreHotKeys hot
  pub touched : (path : List Bool) → 0 < shard.touches path → IsSome (shard.records path)

-- The same but for the pointers to paths that begin a key: these lead to records, whatever they keep of them. So it is
-- while the paths on the way to the key stand in a cache.
pub record MirrorsBut (digest : Digest) (shard : Shard) (hot : List (List Bool)) (key : List Bool) : Type 0 where
  pub there : (path : List Bool) (on : Bool) (pointer : Pointer) → IsPointerIn (tree_of shard) path on pointer
      → is_prefix pointer.path key ≡ true → IsSome (tree_of shard pointer.path)
  pub kept : (path : List Bool) (on : Bool) (pointer : Pointer) → IsPointerIn (tree_of shard) path on pointer
      → is_prefix pointer.path key ≡ false → pointer.deferred ≡ false → IsKept digest (tree_of shard) pointer
  pub waits : (path : List Bool) (on : Bool) (pointer : Pointer) → IsPointerIn (tree_of shard) path on pointer
      → is_prefix pointer.path key ≡ false → pointer.deferred ≡ true → IsAmong hot pointer.path
  pub reached : (path : List Bool) → IsSome (tree_of shard path) → IsReached (tree_of shard) shard.frontier path
  pub hot_waits : (path : List Bool) → IsAmong hot path → IsWaiting (tree_of shard) path
  pub hot_keys : AreHotKeys hot
  pub touched : (path : List Bool) → 0 < shard.touches path → IsSome (shard.records path)
