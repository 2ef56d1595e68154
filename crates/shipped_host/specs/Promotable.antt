-- Which keys of a shard are promotable to become hot, as a function of the stage.
use Rattle.std.specs.Prelude.{ℕ, zero, suc, ◌^◌, ◌&&◌, Bool, not, List, [], ◌∷◌, filter, nat_le, Option, Some, None, is_some}
use Rattle.std.specs.List.{list_any}
use Rattle.tree_keys.specs.Path.{side, same_path, key_bits}
use Rattle.host_shard.specs.Shard.{key_path_in, wide_in}
use Rattle.protection_moves.specs.Stage.{Stage, hot_paths}

-- so many numbers, from this one on
abbrev pub numbers_from : ℕ → ℕ → List ℕ
numbers_from first zero = []
numbers_from first (suc count) = first ∷ numbers_from (suc first) count

-- the key lies below the frontier, isn't hot, and was touched so often
abbrev pub is_promotable : Stage → ℕ → ℕ → Bool
is_promotable stage least key =
    is_some (side stage.shard.frontier (key_path_in stage.shard key))
    && (not (list_any (λ path. same_path path (key_path_in stage.shard key)) (hot_paths stage.places))
    && nat_le least (stage.shard.touches (key_path_in stage.shard key)))

-- Of all keys of the shard's tree, those that are promotable.
unfoldable pub promotable_keys : Stage → ℕ → List ℕ
promotable_keys stage least = filter (is_promotable stage least) (numbers_from 0 (2 ^ key_bits (wide_in stage.shard)))

-- the same for a threshold, if there is one
abbrev pub promotable_in : Stage → Option ℕ → List ℕ
promotable_in stage None = []
promotable_in stage (Some least) = promotable_keys stage least
