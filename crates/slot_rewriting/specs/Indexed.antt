-- How an index of paths and the free numbers tell which path stands in each slot.
use Rattle.std.specs.Prelude.{◌≡◌, ℕ, zero, suc, ◌<◌, ◌≤◌, Bool, true, false, List, [], ◌∷◌, length, map, get_or, Option, Some, None}
use Rattle.path_index.specs.declared.index.Index.{Index}
use Rattle.path_index.specs.declared.index.Mark.{Mark}
use Rattle.path_index.specs.Index.{mark_at, count_of, most_of, IsSound, Rises}
use Rattle.slot_rewriting.specs.Rewriting.{SlotPaths}

-- the path that stands in a slot
abbrev pub path_in : SlotPaths → ℕ → Option (List Bool)
path_in paths slot = get_or paths slot None

-- the slot is empty
abbrev pub is_empty : Option (List Bool) → Bool
is_empty None = true
is_empty (Some path) = false

-- how many slots aren't empty
abbrev pub taken : SlotPaths → ℕ
taken [] = zero
taken (None ∷ paths) = taken paths
taken (Some path ∷ paths) = suc (taken paths)

-- the index has this mark
abbrev pub HasMark : Index → Mark → Type 0
HasMark index mark = (i : ℕ) × (i < count_of index) × (mark_at index i ≡ mark)

-- the index has a mark for each path that stands in a slot, and no other; the free numbers are those of empty slots
pub record IsIndexed (paths : SlotPaths) (index : Index) (free : List Bool) : Type 0 where
  pub sound : IsSound index
  pub rises : Rises index
  pub leads : (mark : Mark) → HasMark index mark → path_in paths mark.at ≡ Some mark.path
  pub covers : (slot : ℕ) (path : List Bool) → path_in paths slot ≡ Some path → HasMark index (record { path = path; at = slot })
  pub count : count_of index ≡ taken paths
  pub room : length paths ≤ most_of index
  pub few : length paths ≤ 65536
  pub empty : free ≡ map is_empty paths
