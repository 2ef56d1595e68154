-- The data values that the contents of a shard's places hold.
use Rattle.std.specs.Prelude.{ℕ, nat_eq, ◌==◌, List, [], ◌∷◌, Option, Some, None, if◌then◌else◌}
use Rattle.std.specs.Map.{update}
use Rattle.lamport_clocks.specs.declared.stamp.Stamp.{Stamp}
use Rattle.record_text.specs.declared.request.Request.{Request}
use Rattle.record_text.specs.declared.value.Value.{Value}
use Rattle.soundness.specs.World.{Stored, blob_in}
use Rattle.host_shard.specs.declared.content.HotRecord.{HotRecord}
use Rattle.host_shard.specs.Content.{Content, cold, hot, vacant}
use Rattle.host_shard.specs.Shard.{key_path_in}

-- the hot record of a key, if it has one
abbrev pub hot_record_of : ℕ → List Content → Option HotRecord
hot_record_of key [] = None
hot_record_of key (cold shard ∷ contents) = hot_record_of key contents
hot_record_of key (hot found ∷ contents) = if found.key == key then Some found else hot_record_of key contents
hot_record_of key (vacant ∷ contents) = hot_record_of key contents

-- the record of a key in the shard, if it has one
abbrev pub record_in : ℕ → List Content → Option Value
record_in key [] = None
record_in key (cold shard ∷ contents) = shard.records (key_path_in shard key)
record_in key (hot found ∷ contents) = record_in key contents
record_in key (vacant ∷ contents) = record_in key contents

-- the stamp with which the shard waits
abbrev pub shard_stamp : List Content → Stamp
shard_stamp [] = record { epoch = 0; counter = 0 }
shard_stamp (cold shard ∷ contents) = shard.stamp
shard_stamp (hot found ∷ contents) = shard_stamp contents
shard_stamp (vacant ∷ contents) = shard_stamp contents

-- the data value of a hot record, and where there is none that of another record
abbrev pub value_or : Option HotRecord → Option Value → Option (List ℕ)
value_or None kept = blob_in kept
value_or (Some found) kept = found.value

-- the stamp of a hot record, and where there is none another
abbrev pub stamp_or : Option HotRecord → Stamp → Stamp
stamp_or None stamp = stamp
stamp_or (Some found) stamp = found.stamp

-- The data value that contents hold of a key: that of its hot record, and where it has none that of its record in the shard; and none
-- where it has neither.
abbrev pub held_value : List Content → ℕ → Option (List ℕ)
held_value contents key = value_or (hot_record_of key contents) (record_in key contents)

-- the stamp with which it waits
abbrev pub held_since : List Content → ℕ → Stamp
held_since contents key = stamp_or (hot_record_of key contents) (shard_stamp contents)

-- data values behind a request: a put sets that of its key
abbrev pub stored_after : Request → Stored → Stored
stored_after request stored = if request.put then update nat_eq stored request.key request.value else stored
