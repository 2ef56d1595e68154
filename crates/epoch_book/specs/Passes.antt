-- The passes of a book.
use Rattle.std.specs.Prelude.{◌≡◌, ℕ, List, length, map, slice_get, Option, Some}
use Rattle.std.specs.List.{filter_map}
use Rattle.atomic_table.specs.Seated.{TableId}
use Rattle.multiset_sum.specs.declared.part.Part.{Part}
use Rattle.epoch_book.specs.declared.pass.Pass.{Pass}
use Rattle.epoch_book.specs.declared.book.EpochBook.{EpochBook}
use Rattle.epoch_book.specs.Numbers.{row_of}

-- what no other book has
abbrev pub id_of : EpochBook → TableId
id_of book = book.table.shared.table_id

-- for how many verifiers the book is
abbrev pub verifiers_of : EpochBook → ℕ
verifiers_of book = book.table.shared.key

-- the pass is one of this book's
abbrev pub IsPassOf : EpochBook → Pass → Type 0
IsPassOf book pass = pass.ticket.table_id ≡ id_of book

-- the number of its verifier
abbrev pub number_of : Pass → ℕ
number_of pass = pass.number

-- the part that was handed in by it, if it was
abbrev pub part_of : Pass → Option Part
part_of pass = pass.part

-- the parts that were handed in by these
abbrev pub parts_of : List Pass → List Part
parts_of passes = filter_map part_of passes

-- what these have added to the words, each from the first word on
abbrev pub rows_of : List Pass → List (List ℕ)
rows_of passes = map (λ pass. row_of (part_of pass)) passes

-- these are all passes of the book, in the order of the verifiers
pub record AreAllPassesOf (book : EpochBook) (passes : List Pass) : Type 0 where
  pub count : length passes ≡ verifiers_of book
  pub each : (verifier : ℕ) (pass : Pass) → slice_get passes verifier ≡ Some pass → (number_of pass ≡ verifier) × IsPassOf book pass
