-- The lines of a map, as bytes: of each key that has a value, by key in rising order.
use Rattle.std.specs.Prelude.{ℕ, zero, suc, ◌+◌, ◌^◌, List, [], ◌++◌, Option, Some, None, codes}
use Rattle.std.specs.Fmt.{decimal}
use Rattle.report_text.specs.Lines.{blob_words, line_end}

-- the line of a key and its value, and nothing of a key without one
abbrev pub key_line : ℕ → Option (List ℕ) → List ℕ
key_line key None = []
key_line key (Some bytes) = decimal key ++ codes " " ++ blob_words (Some bytes) ++ line_end

-- those of so many keys, from this one on
unfoldable pub key_lines : ℕ → ℕ → (ℕ → Option (List ℕ)) → List ℕ
key_lines from zero map = []
key_lines from (suc count) map = key_line from (map from) ++ key_lines (from + 1) count map

-- those of all keys
abbrev pub map_text : (ℕ → Option (List ℕ)) → List ℕ
map_text map = key_lines 0 (2 ^ 128) map
