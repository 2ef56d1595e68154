-- An index of paths: a mark for each, by the order of their paths.
use Rattle.std.specs.Prelude.{◌≡◌, ℕ, ◌+◌, ◌*◌, ◌/◌, ◌%◌, ◌<◌, ◌≤◌, Bool, List, [], length, slice_index, slice_index_or}
use Rattle.path_index.specs.declared.index.Mark.{Mark}
use Rattle.path_index.specs.declared.index.Index.{Index}
use Rattle.path_index.specs.Order.{order_of}

-- where the mark of a rank lies: in its block of 256, so far behind the block's head, and round
unfoldable pub lies : List ℕ → ℕ → ℕ
lies heads rank = rank / 256 * 256 + (slice_index heads (rank / 256) + rank % 256) % 256

-- the mark of a rank, or one of the empty path where none lies
unfoldable pub seen : List Mark → List ℕ → ℕ → Mark
seen marks heads rank = slice_index_or marks (lies heads rank) (record { path = []; at = 0 })

-- the mark of a rank
unfoldable pub mark_at : Index → ℕ → Mark
mark_at index rank = seen index.marks.items index.heads.items rank

-- how many marks there are
abbrev pub count_of : Index → ℕ
count_of index = index.len

-- how many there may be
abbrev pub most_of : Index → ℕ
most_of index = length index.marks.items

-- each block has its head, and there is room for the marks
abbrev pub IsSound : Index → Type 0
IsSound index = (length index.marks.items ≡ length index.heads.items * 256) × (index.len ≤ length index.marks.items)

-- The marks come in the order of their paths, no path twice.
abbrev pub Rises : Index → Type 0
Rises index = (i j : ℕ) → i < j → j < count_of index → order_of (mark_at index i).path < order_of (mark_at index j).path

-- the path's mark has this rank
pub record IsRankOf (path : List Bool) (index : Index) (rank : ℕ) : Type 0 where
  pub within : rank < count_of index
  pub path_there : (mark_at index rank).path ≡ path

-- the path has no mark, and would have one of this rank
pub record IsGapFor (path : List Bool) (index : Index) (rank : ℕ) : Type 0 where
  pub within : rank ≤ count_of index
  pub before : (i : ℕ) → i < rank → order_of (mark_at index i).path < order_of path
  pub behind : (i : ℕ) → rank ≤ i → i < count_of index → order_of path < order_of (mark_at index i).path
