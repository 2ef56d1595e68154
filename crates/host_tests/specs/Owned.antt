-- Shards that the tests serve requests on.
use Rattle.std.specs.Prelude.{ℕ, Bool, List}
use Rattle.tree_keys.specs.Path.{tree_of, key_path, IsBelow}
use Rattle.record_text.specs.Longest.{longest_blob}
use Rattle.host_shard.specs.Content.{Content, cold, hot, vacant}
use Rattle.host_shard.specs.Mirrors.{IsShard}
use Rattle.host_plan.specs.Plan.{Owns}

-- the content owns each key of the frontier's tree below it
abbrev pub OwnsBelow : List Bool → Content → Type 0
OwnsBelow frontier content = (key : ℕ) → IsBelow frontier (key_path (tree_of frontier) key) → Owns longest_blob content key

-- the content is a shard, or a hot record of some key, or nothing
abbrev pub IsFit : Content → Type 0
IsFit (cold shard) = IsShard longest_blob shard
IsFit (hot found) = Unit {0}
IsFit vacant = Unit {0}
