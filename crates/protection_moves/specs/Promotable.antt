-- The keys that are promotable, read off the records one by one.
use Rattle.std.specs.Prelude.{◌≡◌, ℕ, ◌<◌, ◌≤◌, ◌&&◌, ◌||◌, Bool, true, false, List, [], ◌∷◌, ◌++◌, take, Option, Some, None, is_none, nat_lt, if◌then◌else◌}
use Rattle.std.specs.List.{AllByRecursion, IsAmong, list_any}
use Rattle.tree_keys.specs.Path.{tree_of, is_data, key_of, key_path, same_bit, same_path, side}
use Rattle.host_shard.specs.declared.record.Record.{Record}
use Rattle.host_shard.specs.Content.{hot_path, Content, cold, hot, vacant}
use Rattle.host_shard.specs.Records.{Listed}
use Rattle.protection_moves.specs.Stage.{Stage}
use Rattle.protection_moves.specs.Transfer.{ArePromotable}

-- the key of this path has a hot place
abbrev pub is_hot : List Bool → List Content → Bool
is_hot path [] = false
is_hot path (cold shard ∷ places) = is_hot path places
is_hot path (hot found ∷ places) = same_path (hot_path found) path || is_hot path places
is_hot path (vacant ∷ places) = is_hot path places

-- the key of a data path of this tree
abbrev pub key_in : Bool → List Bool → Option ℕ
key_in wide path = if same_bit (tree_of path) wide && is_data path then Some (key_of path) else None

-- the key of a record, if it is promotable: it was touched so often, lies below the frontier, isn't hot, and is a whole key
abbrev pub promotable_key : ℕ → List Bool → List Content → List Bool → Record → Option ℕ
promotable_key least frontier places path kept =
    if nat_lt kept.touches least then None
    else if is_none (side frontier path) || is_hot path places then None
    else key_in (tree_of frontier) path

abbrev pub listed_key : Option ℕ → List ℕ
listed_key None = []
listed_key (Some key) = key ∷ []

-- the keys of these records that are promotable, in the order of the records
abbrev pub promotable_among : ℕ → List Bool → List Content → Listed → List ℕ
promotable_among least frontier places [] = []
promotable_among least frontier places (entry ∷ listed) =
    listed_key (promotable_key least frontier places entry.0 entry.1) ++ promotable_among least frontier places listed

-- each key is below those behind it
abbrev pub AreRising : List ℕ → Type 0
AreRising [] = Unit {0}
AreRising (key ∷ keys) = AllByRecursion (λ other. key < other) keys × AreRising keys

-- the first of the keys that are promotable, at most so many
pub record AreFirstPromotable (stage : Stage) (threshold : Option ℕ) (room : ℕ) (keys : List ℕ) : Type 0 where
  pub promotable : List ℕ
  pub are_promotable : ArePromotable stage threshold promotable
  pub first : keys ≡ take room promotable

-- ---- where few were touched

-- a key is above another, if there is one
abbrev pub IsAbove : Option ℕ → ℕ → Type 0
IsAbove None key = Unit {0}
IsAbove (Some other) key = other < key

-- the path of a key of a tree is one of these
abbrev pub IsAt : Bool → List (List Bool) → ℕ → Type 0
IsAt wide paths key = list_any (same_path (key_path wide key)) paths ≡ true

-- the lower of two keys
abbrev pub lower_of : Option ℕ → ℕ → Option ℕ
lower_of None key = Some key
lower_of (Some other) key = if nat_lt key other then Some key else Some other

-- It is the lowest of the keys that is above another, of those whose paths are among these; or there is none.
abbrev pub IsLowest : List ℕ → Bool → Option ℕ → List (List Bool) → Option ℕ → Type 0
IsLowest keys wide above paths None = (key : ℕ) → IsAmong keys key → IsAbove above key → IsAt wide paths key → ⊥
IsLowest keys wide above paths (Some lowest) =
    IsAmong keys lowest × IsAbove above lowest
    × ((key : ℕ) → IsAmong keys key → IsAbove above key → IsAt wide paths key → lowest ≤ key)
