-- The setup of the shards: the commands of worker 0, and the contents behind them.
use Rattle.std.specs.Prelude.{◌≡◌, ℕ, zero, suc, ◌+◌, ◌^◌, ◌≤◌, ◌<◌, Bool, true, false, List, [], ◌∷◌, ◌++◌, map}
use Rattle.tree_keys.specs.Path.{key_of, root_of}
use Rattle.lamport_clocks.specs.declared.stamp.Stamp.{Stamp}
use Rattle.record_text.specs.Value.{initial_value}
use Rattle.log_codec.specs.declared.command.Command.{Command}
use Rattle.log_codec.specs.declared.command.Command.TheVariants.{AddM, EvictM, EvictBM}
use Rattle.host_shard.specs.Shard.{new_shard}
use Rattle.host_shard.specs.Content.{Content, cold}

-- so many shards can be set up: a power of two from 2 to 1,024
pub record IsShardCount (shards : ℕ) : Type 0 where
  pub bits : ℕ
  pub some : 0 < bits
  pub most : bits ≤ 10
  pub power : shards ≡ 2 ^ bits

-- the child of a path on a side
abbrev pub child : List Bool → Bool → List Bool
child path on = path ++ on ∷ []

-- the first stamp of a shard: the number that the bits of its frontier behind the first spell and 1, in the first epoch
abbrev pub first_stamp : ℕ → List Bool → Stamp
first_stamp first frontier = record { epoch = first; counter = 1 + key_of frontier }

-- The visit of a path under its parent. With no level below it, it is a shard's frontier, and is deferred. Else its two
-- children are visited, side 0 before side 1, and it is evicted.
abbrev pub set_up : ℕ → ℕ → List Bool → List Bool → List Command
set_up first zero path parent =
    AddM path (initial_value path) parent ∷ EvictBM path parent (first_stamp first path) ∷ []
set_up first (suc levels) path parent =
    AddM path (initial_value path) parent
    ∷ (set_up first levels (child path false) path ++ (set_up first levels (child path true) path ++ EvictM path parent ∷ []))

-- The commands of the setup of 2^bits shards of a tree: each path to which 1 to so many bits lead from its root is visited.
abbrev pub setup_commands : Bool → ℕ → ℕ → List Command
setup_commands wide first zero = []
setup_commands wide first (suc levels) =
    set_up first levels (child (root_of wide) false) (root_of wide)
    ++ set_up first levels (child (root_of wide) true) (root_of wide)

-- the paths so many levels below a path, in their order
abbrev pub paths_below : ℕ → List Bool → List (List Bool)
paths_below zero path = path ∷ []
paths_below (suc levels) path = paths_below levels (child path false) ++ paths_below levels (child path true)

-- a shard as the setup leaves it
abbrev pub first_content : ℕ → List Bool → Content
first_content first frontier = cold (new_shard frontier (first_stamp first frontier) 0)

-- the same of each frontier of a list
abbrev pub first_contents : ℕ → List (List Bool) → List Content
first_contents first frontiers = map (first_content first) frontiers

-- The contents of the 2^bits shards of a tree behind the setup, in the order of the shards.
abbrev pub setup_contents : Bool → ℕ → ℕ → List Content
setup_contents wide first bits = first_contents first (paths_below bits (root_of wide))
