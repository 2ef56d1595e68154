-- What the shipped host holds of the data.
use Rattle.std.specs.Prelude.{◌≡◌, ℕ, suc, ◌^◌, ◌<◌, nat_lt, take, Some, None, if◌then◌else◌}
use Rattle.tree_keys.specs.Path.{key_of, key_bits, key_path}
use Rattle.record_text.specs.Tree.{wide_of}
use Rattle.soundness.specs.World.{Stored}
use Rattle.host_shard.specs.Content.{Content}
use Rattle.host_core.specs.World.{World, shard_at}
use Rattle.host_core.specs.Storing.{Storing}
use Rattle.host_holds.specs.Holding.{held_value, held_since}
use Rattle.shipped_host.specs.declared.settings.Settings.{Settings}
use Rattle.shipped_host.specs.Settings.{frontier_bits}

-- the shard of a key: its number is what the first bits of the key spell
abbrev pub shard_of : Settings → ℕ → ℕ
shard_of settings key = key_of (take (suc (frontier_bits settings.shards)) (key_path (wide_of settings.header) key))

-- what the shipped host holds, as the machine sees it: each key of its tree has a shard
abbrev pub storing_of : Settings → Storing Content
storing_of settings = record {
  home = λ key. if nat_lt key (2 ^ key_bits (wide_of settings.header)) then Some (shard_of settings key) else None;
  held = held_value;
  since = held_since;
}

-- The contents of a world hold a map: of each key of its tree the contents of its shard have the map's data value.
abbrev pub ContentsHold : Settings → World Content → Stored → Type 0
ContentsHold settings world stored = (key : ℕ) → key < 2 ^ key_bits (wide_of settings.header) → held_value (shard_at world (shard_of settings key)).contents key ≡ stored key
