-- A shard with its hot places, as it stands before, within and after a move.
use Rattle.std.specs.Prelude.{ℕ, suc, ◌==◌, Bool, false, not, List, [], ◌∷◌, map, filter, nat_lt, if◌then◌else◌}
use Rattle.lamport_clocks.specs.Reading.{Reading}
use Rattle.stamp_order.specs.InOrder.{in_order}
use Rattle.host_shard.specs.declared.content.HotRecord.{HotRecord}
use Rattle.host_shard.specs.Shard.{Shard}
use Rattle.host_shard.specs.Content.{hot_path, Content, cold, hot, vacant}

-- a shard, what its hot places hold, and the clock of the worker that moves it
pub record Stage : Type 0 where
  pub shard : Shard
  pub places : List Content
  pub clock : Reading

-- the records in hot places
abbrev pub hot_records : List Content → List HotRecord
hot_records [] = []
hot_records (cold shard ∷ places) = hot_records places
hot_records (hot found ∷ places) = found ∷ hot_records places
hot_records (vacant ∷ places) = hot_records places

-- the paths of their keys
abbrev pub hot_paths : List Content → List (List Bool)
hot_paths places = map hot_path (hot_records places)

-- how many hot places are vacant
abbrev pub vacancies : List Content → ℕ
vacancies [] = 0
vacancies (cold shard ∷ places) = vacancies places
vacancies (hot found ∷ places) = vacancies places
vacancies (vacant ∷ places) = suc (vacancies places)

-- the content is the record of this hot key
abbrev pub is_hot_at : ℕ → Content → Bool
is_hot_at key (cold shard) = false
is_hot_at key (hot found) = found.key == key
is_hot_at key vacant = false

-- the places, with this content in the place of a hot key
abbrev pub replaced : ℕ → Content → List Content → List Content
replaced key now places = map (λ content. if is_hot_at key content then now else content) places

-- the places, with this record in the lowest vacant one
abbrev pub placed : HotRecord → List Content → List Content
placed new [] = []
placed new (cold shard ∷ places) = cold shard ∷ placed new places
placed new (hot found ∷ places) = hot found ∷ placed new places
placed new (vacant ∷ places) = hot new ∷ places

-- hot records in the order of their keys
abbrev pub by_key : List HotRecord → List HotRecord
by_key records = in_order (λ a b. nat_lt a.key b.key) records

-- the record was touched in the epoch that closes
abbrev pub is_touched : HotRecord → Bool
is_touched found = nat_lt 0 found.touches

-- the hot records that were touched, and those that were not, each by key
abbrev pub touched_in : List Content → List HotRecord
touched_in places = by_key (filter is_touched (hot_records places))

abbrev pub untouched_in : List Content → List HotRecord
untouched_in places = by_key (filter (λ found. not (is_touched found)) (hot_records places))
