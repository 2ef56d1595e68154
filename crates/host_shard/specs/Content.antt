-- What a place of the host's table holds.
use Rattle.std.specs.Prelude.{Bool, false, List, Option, Some, None}
use Rattle.record_text.specs.declared.value.Value.TheVariants as values
use Rattle.tree_keys.specs.Path.{key_path}
use Rattle.record_text.specs.declared.element.Element.{Element}
use Rattle.host_shard.specs.declared.content.HotRecord.{HotRecord}
use Rattle.host_shard.specs.Shard.{Shard, wide_in, pending_shard}

-- a shard, a record that waits by itself, or nothing
pub data Content : Type 0 where
  cold : Shard → Content
  hot : HotRecord → Content
  vacant : Content

-- of which tree the keys of a content are; nothing has no tree of its own
abbrev pub wide_at : Content → Bool
wide_at (cold shard) = wide_in shard
wide_at (hot record') = record'.wide
wide_at vacant = false

-- the path of a hot record's key
abbrev pub hot_path : HotRecord → List Bool
hot_path record' = key_path record'.wide record'.key

-- the element with which a hot record waits
abbrev pub pending_hot : HotRecord → Element
pending_hot record' = record {
  path = hot_path record';
  value = values.Blob record'.value;
  stamp = record'.stamp;
  verifier = record'.evictor;
}

-- the element with which a content waits
abbrev pub pending : Content → Option Element
pending (cold shard) = Some (pending_shard shard)
pending (hot record') = Some (pending_hot record')
pending vacant = None
