-- The lines of operations, in pieces.
use Rattle.std.specs.Prelude.{◌≡◌, ℕ, ◌*◌, true, List, take, drop}
use Rattle.std.specs.List.{flat_map}
use Rattle.record_hash.specs.Functions.{DigestFunctions}
use Rattle.record_text.specs.declared.operation.Operation.{Operation}
use Rattle.certified_epochs.specs.declared.pieces.Piece.{Piece}
use Rattle.certified_epochs.specs.declared.telling.Telling.{Telling}
use Rattle.certified_epochs.specs.Telling.{line_by}

-- so many members, behind so many parts of as many
abbrev pub part_at : {X : Type 0} → ℕ → ℕ → List X → List X
part_at size number xs = take size (drop (number * size) xs)

-- the lines of operations, one after another
abbrev pub lines_of : {D : Type 0} → (D → DigestFunctions) → Telling D → List Operation → List ℕ
lines_of functions telling operations = flat_map (line_by functions telling) operations

-- the piece of this number has the lines of the operations at its place, unless memory was wanting
abbrev pub HasLines : {D : Type 0} → (D → DigestFunctions) → Telling D → List Operation → ℕ → Piece → Type 0
HasLines functions telling operations number piece =
    piece.is_whole ≡ true → piece.text.items ≡ lines_of functions telling (part_at 1024 number operations)
