-- Which keys become hot or cease to be at a close.
use Rattle.std.specs.Prelude.{◌↔◌, ℕ, ◌+◌, ◌<◌, ◌≤◌, ◌^◌, List, [], ◌∷◌, ◌++◌, Option, Some, None, map, take, length, AllPairs}
use Rattle.std.specs.List.{IsAmong}
use Rattle.tree_keys.specs.Path.{key_bits}
use Rattle.lamport_clocks.specs.Reading.{Reading}
use Rattle.host_shard.specs.declared.content.HotRecord.{HotRecord}
use Rattle.host_shard.specs.Mirrors.{IsKeyOf}
use Rattle.host_shard.specs.Shard.{key_path_in, wide_in}
use Rattle.host_plan.specs.Moments.{taking, giving}
use Rattle.protection_moves.specs.Stage.{Stage, hot_paths, vacancies, touched_in, untouched_in}
use Rattle.protection_moves.specs.Renewing.{renewing_each}

-- A hot record comes back to its shard, or the record of a key of the shard becomes hot.
pub data Transfer : Type 0 where
  demotes : HotRecord → Transfer
  promotes : ℕ → Transfer

-- a key of the shard that isn't hot was touched this often at least in the epoch that closes
pub record IsTouchedOften (stage : Stage) (threshold key : ℕ) : Type 0 where
  pub in_range : key < 2 ^ key_bits (wide_in stage.shard)
  pub own : IsKeyOf stage.shard (key_path_in stage.shard key)
  pub cold : IsAmong (hot_paths stage.places) (key_path_in stage.shard key) → ⊥
  pub often : threshold ≤ stage.shard.touches (key_path_in stage.shard key)

-- where a threshold is given, the key is to become hot if there is room
abbrev pub IsPromotable : Stage → Option ℕ → ℕ → Type 0
IsPromotable stage None key = ⊥
IsPromotable stage (Some threshold) key = IsTouchedOften stage threshold key

-- these keys are promotable, and no other, in their order
pub record ArePromotable (stage : Stage) (threshold : Option ℕ) (keys : List ℕ) : Type 0 where
  pub rising : AllPairs (λ a b. a < b) keys
  pub promotable : (key : ℕ) → IsAmong keys key ↔ IsPromotable stage threshold key

-- The transfers of a move: each hot record that was not touched comes back, by key; and so many of the promotable keys become hot
-- as hot places are vacant then.
abbrev pub transfers_of : Stage → List ℕ → List Transfer
transfers_of stage promotable =
    let back = untouched_in stage.places in
    map demotes back ++ map promotes (take (vacancies stage.places + length back) promotable)

-- the clock once a transfer is done: what comes back is taken in, what becomes hot is handed out
abbrev pub clock_by : Reading → Transfer → Reading
clock_by clock (demotes found) = taking clock found.stamp
clock_by clock (promotes key) = giving clock

abbrev pub clock_by_each : Reading → List Transfer → Reading
clock_by_each clock [] = clock
clock_by_each clock (transfer ∷ transfers) = clock_by_each (clock_by clock transfer) transfers

-- The clock behind a move, counted from stamps alone: the touched hot records are taken in and handed out, then the
-- frontier is taken in, the transfers are done, and the frontier is handed out.
abbrev pub clock_needed : Stage → List ℕ → Reading
clock_needed stage promotable =
    giving (clock_by_each (taking (renewing_each stage.clock (touched_in stage.places)) stage.shard.stamp) (transfers_of stage promotable))
