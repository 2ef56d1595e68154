-- The first line of a script and the first word of a line, where the bytes are taken apart at one of them.
use Rattle.std.proofs.Common.{◌≡◌, ℕ, ◌<◌, ◌==◌, false, true, Bool, List, [], ◌∷◌, ◌++◌, length, if◌then◌else◌, refl, ap, arith}
use Rattle.std.specs.List.{All, onto_first, slice_split}
use Rattle.std.proofs.lemmas.List.Elements.{All-head, All-tail}
use Rattle.std.proofs.lemmas.List.Splits.{slice_split_none, slice_split_at}
use Rattle.script_text.specs.Lines.{line_feed, blank, lines_of, words_of}

-- one byte is another
abbrev pub IsOther : ℕ → ℕ → Type 0
IsOther byte b = (b == byte) ≡ false

-- each byte is another one
abbrev pub IsWithout : ℕ → List ℕ → Type 0
IsWithout byte bytes = All (IsOther byte) bytes

-- a line and its end in front of other bytes
pub lines_of-at : (line rest : List ℕ) → IsWithout line_feed line → lines_of (line ++ line_feed ∷ rest) ≡ line ∷ lines_of rest
unfolding lines_of
lines_of-at [] rest without = refl
lines_of-at (byte ∷ line) rest without =
    let other : (byte == line_feed) ≡ false = All-head (IsOther line_feed) byte line without in
    rw other (ap (onto_first byte) (lines_of-at line rest (All-tail (IsOther line_feed) byte line without)))

-- a last line that lacks its end
pub lines_of-last : (byte : ℕ) (line : List ℕ) → IsWithout line_feed (byte ∷ line) → lines_of (byte ∷ line) ≡ (byte ∷ line) ∷ []
unfolding lines_of
lines_of-last byte [] without =
    let other : (byte == line_feed) ≡ false = All-head (IsOther line_feed) byte [] without in
    rw other refl
lines_of-last byte (next ∷ line) without =
    let other : (byte == line_feed) ≡ false = All-head (IsOther line_feed) byte (next ∷ line) without in
    rw other (ap (onto_first byte) (lines_of-last next line (All-tail (IsOther line_feed) byte (next ∷ line) without)))

-- the same of any bytes
pub lines_of-whole : (line : List ℕ) → 0 < length line → IsWithout line_feed line → lines_of line ≡ line ∷ lines_of []
unfolding lines_of
lines_of-whole [] some without = absurd (omega arith)
lines_of-whole (byte ∷ line) some without = lines_of-last byte line without

-- a word and the blank behind it
pub words_of-at : (word rest : List ℕ) → IsWithout blank word → words_of (word ++ blank ∷ rest) ≡ word ∷ words_of rest
unfolding words_of
words_of-at word rest without = slice_split_at (λ byte. byte == blank) word blank rest without refl

-- a word with no blank behind it
pub words_of-last : (word : List ℕ) → IsWithout blank word → words_of word ≡ word ∷ []
unfolding words_of
words_of-last word without = slice_split_none (λ byte. byte == blank) word without

-- there is a word, if only one of no bytes
pub words_of-some : (line : List ℕ) → (word : List ℕ) × (words : List (List ℕ)) × (words_of line ≡ word ∷ words)
unfolding words_of
words_of-some [] = ([], [], refl)
words_of-some (byte ∷ line) = go (byte == blank) (slice_split (λ b. b == blank) line) where
  go : (test : Bool) (words : List (List ℕ))
      → (word : List ℕ) × (more : List (List ℕ)) × (if test then [] ∷ words else onto_first byte words) ≡ word ∷ more
  go true words = ([], words, refl)
  go false [] = (byte ∷ [], [], refl)
  go false (word ∷ words) = (byte ∷ word, words, refl)
