-- The chain to a key as a function of the records.
use Rattle.std.specs.Prelude.{ℕ, zero, suc, Bool, List, [], ◌∷◌, if◌then◌else◌}
use Rattle.tree_keys.specs.Path.{side, same_path, depth}
use Rattle.record_text.specs.declared.value.Value.{Value}
use Rattle.host_shard.specs.declared.link.Link.{Link}
use Rattle.host_shard.specs.Tree.{Tree}
use Rattle.host_shard.specs.Chain.{next_link, pointer_toward}
use Rattle.host_shard.specs.Shard.{key_path_in, Shard, tree_of}
use Rattle.host_shard.specs.Content.{Content, cold, hot, vacant}

-- the link that comes behind a path with its value, on the way to a key
abbrev pub link_behind : Tree → List Bool → List Bool → Value → Link
link_behind tree key at value = next_link tree key (pointer_toward value (side at key))

-- The links from a path with its value to the key, so many at most.
abbrev pub links_within : ℕ → Tree → List Bool → List Bool → Value → List Link
links_within zero tree key at value = []
links_within (suc steps) tree key at value =
    if same_path at key then []
    else link_behind tree key at value
    ∷ links_within steps tree key (link_behind tree key at value).path (link_behind tree key at value).taken

-- The links from a shard's frontier to a path: no chain has more than bits lead to the path.
abbrev pub links_in : Shard → List Bool → List Link
links_in shard path = links_within (depth path) (tree_of shard) path shard.frontier shard.value

-- the links from what a content waits with to a key
abbrev pub links_of : Content → ℕ → List Link
links_of (cold shard) key = links_in shard (key_path_in shard key)
links_of (hot record') key = []
links_of vacant key = []
