-- What the places of a shard of the shipped host have.
use Rattle.std.specs.Prelude.{◌≡◌, ℕ, suc, ◌≤◌, Bool, List, [], ◌∷◌, length}
use Rattle.tree_keys.specs.Path.{IsIn, key_of}
use Rattle.lamport_clocks.specs.declared.stamp.Stamp.{Stamp}
use Rattle.record_hash.specs.Functions.{DigestFunctions}
use Rattle.record_text.specs.Longest.{longest_of}
use Rattle.record_text.specs.Tree.{wide_of}
use Rattle.host_shard.specs.Content.{Content, cold, hot, vacant}
use Rattle.shipped_host.specs.declared.settings.Settings.{Settings}
use Rattle.shipped_host.specs.Seated.{SeatsMirror}
use Rattle.shipped_host.specs.Settings.{frontier_bits}

-- the stamp with which a shard waits, which stands at the first place
abbrev pub front_of : List Content → Stamp
front_of [] = record { epoch = 0; counter = 0 }
front_of (cold shard ∷ rest) = shard.stamp
front_of (hot record' ∷ rest) = record { epoch = 0; counter = 0 }
front_of (vacant ∷ rest) = record { epoch = 0; counter = 0 }

-- and its path
abbrev pub frontier_in : List Content → List Bool
frontier_in [] = []
frontier_in (cold shard ∷ rest) = shard.frontier
frontier_in (hot record' ∷ rest) = []
frontier_in (vacant ∷ rest) = []

-- The contents of a shard's places mirror; its frontier is a path of the header's tree, and its bits behind the first spell the
-- shard's number; and it waits since the first epoch or later.
pub record PlacesMirror (functions : DigestFunctions) (settings : Settings) (s : ℕ) (contents : List Content) : Type 0 where
  pub mirrors : SeatsMirror (longest_of settings.header) functions.digest contents
  pub tree : IsIn (wide_of settings.header) (frontier_in contents)
  pub levels : length (frontier_in contents) ≡ suc (frontier_bits settings.shards)
  pub number : key_of (frontier_in contents) ≡ s
  pub from_first : settings.header.first ≤ (front_of contents).epoch
