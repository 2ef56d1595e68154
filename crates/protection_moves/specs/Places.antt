-- What becomes of hot places, one after another.
use Rattle.std.specs.Prelude.{ℕ, List, [], ◌∷◌, Bool, true, false, Option, Some, None, if◌then◌else◌}
use Rattle.host_shard.specs.declared.content.HotRecord.{HotRecord}
use Rattle.host_shard.specs.Content.{Content, cold, hot, vacant}
use Rattle.protection_moves.specs.Stage.{is_hot_at, replaced, placed}

-- a place with this record, or none
abbrev pub content_of : Option HotRecord → Content
content_of None = vacant
content_of (Some found) = hot found

-- a place, with this content if it is that of a hot key
abbrev pub replaced_at : ℕ → Content → Content → Content
replaced_at key now content = if is_hot_at key content then now else content

-- the place has none
abbrev pub is_vacant : Content → Bool
is_vacant (cold shard) = false
is_vacant (hot found) = false
is_vacant vacant = true

-- the places, where those of these records become vacant
abbrev pub vacated : List HotRecord → List Content → List Content
vacated [] places = places
vacated (found ∷ more) places = vacated more (replaced found.key vacant places)

-- the places, where each of these records takes the lowest vacant one
abbrev pub placed_each : List HotRecord → List Content → List Content
placed_each [] places = places
placed_each (new ∷ more) places = placed_each more (placed new places)
