-- The lines of a script, and the words of a line.
use Rattle.std.specs.Prelude.{ℕ, ◌==◌, List, [], ◌∷◌, Option, Some, None, if◌then◌else◌}
use Rattle.std.specs.List.{slice_split, onto_first}

-- the byte that ends a line
abbrev pub line_feed : ℕ
line_feed = 10

-- the byte at which a line is split
abbrev pub blank : ℕ
blank = 32

-- The lines of a script: each ends with a line feed, which the last one may lack. No bytes are no line.
unfoldable pub lines_of : List ℕ → List (List ℕ)
lines_of [] = []
lines_of (byte ∷ bytes) = if byte == line_feed then [] ∷ lines_of bytes else onto_first byte (lines_of bytes)

-- the words of a line: what stands between its blanks
unfoldable pub words_of : List ℕ → List (List ℕ)
words_of line = slice_split (λ byte. byte == blank) line

-- the words behind a blank, if there is one
abbrev pub words_behind : Option (List ℕ) → List (List ℕ)
words_behind None = []
words_behind (Some behind) = words_of behind
