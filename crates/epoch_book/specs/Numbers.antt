-- Parts as numbers, one for each word of a book.
use Rattle.std.specs.Prelude.{ℕ, List, [], ◌∷◌, ◌++◌, Option, Some, None, slice_index}
use Rattle.multiset_sum.specs.declared.part.Part.{Part}
use Rattle.multiset_sum.specs.Tally.{Tally}
use Rattle.multiset_sum.specs.Sum.{eight}

-- the lanes of a sum, and its count
abbrev pub numbers_of_sum : Tally → List ℕ
numbers_of_sum sum = eight (slice_index sum.lanes) ++ sum.count ∷ []

-- those of two sums
abbrev pub numbers_of_sums : Tally → Tally → List ℕ
numbers_of_sums added evicted = numbers_of_sum added ++ numbers_of_sum evicted

-- the numbers of a part: of what was added, then of what was evicted
abbrev pub numbers_of : Part → List ℕ
numbers_of part = numbers_of_sums part.added part.evicted

-- what a pass with this part, or with none, has added to the words, from the first on
abbrev pub row_of : Option Part → List ℕ
row_of None = []
row_of (Some part) = numbers_of part
