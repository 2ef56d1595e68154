-- The first line of a text and the words of a line, where the bytes are taken apart at one of them.
use Rattle.std.proofs.Common.{◌≡◌, ℕ, ◌==◌, false, true, Bool, List, [], ◌∷◌, ◌++◌, length, Some, None, if◌then◌else◌, refl, ap, ◌∙◌, arith}
use Rattle.std.specs.Str.{bytes_eq}
use Rattle.std.proofs.lemmas.Bool.{eqb-true}
use Rattle.script_text.specs.Lines.{line_feed, blank, lines_of, words_of}
use Rattle.script_text.proofs.SplittingLaws.{IsWithout, lines_of-last, words_of-at, words_of-last, words_of-some}
use Rattle.receipt_lines.specs.Evidence.{second_word}

-- ---- lines

-- no bytes are no line
pub lines_of-none : (text : List ℕ) → (length text == 0) ≡ true → lines_of text ≡ []
unfolding lines_of
lines_of-none [] empty = refl
lines_of-none (byte ∷ text) empty = absurd (omega (arith, eqb-true (length (byte ∷ text)) 0 empty))

-- a last line that lacks its end
pub lines_of-whole : (line : List ℕ) → (length line == 0) ≡ false → IsWithout line_feed line → lines_of line ≡ line ∷ []
lines_of-whole [] some without = cc
lines_of-whole (byte ∷ line) some without = lines_of-last byte line without

pub lines_of-nil : lines_of [] ≡ []
unfolding lines_of
lines_of-nil = refl

-- ---- words

-- another word is the first
second-other : (word first : List ℕ) (words : List (List ℕ)) → bytes_eq first word ≡ false → second_word word (first ∷ words) ≡ None
second-other word first [] other = refl
second-other word first (second ∷ []) other = rw other refl
second-other word first (second ∷ third ∷ words) other = refl

-- ---- what a line's second word is

module _ (word line : List ℕ) where
  -- a line of one word
  pub second-lacks : IsWithout blank line → second_word word (words_of line) ≡ None
  second-lacks without = ap (second_word word) (words_of-last line without)

  module _ (first behind : List ℕ) (is : line ≡ first ++ blank ∷ behind) (without : IsWithout blank first) where
    words_are : words_of line ≡ first ∷ words_of behind
    words_are = ap words_of is ∙ words_of-at first behind without

    -- a line that begins with another word
    pub second-behind_other : bytes_eq first word ≡ false → second_word word (words_of line) ≡ None
    second-behind_other other = ap (second_word word) words_are ∙ second-other word first (words_of behind) other

    -- a line of three words or more
    pub second-and_more : (second rest : List ℕ) → behind ≡ second ++ blank ∷ rest → IsWithout blank second → second_word word (words_of line) ≡ None
    second-and_more second rest more clear =
        let some = words_of-some rest in
        ap (second_word word) (words_are ∙ ap (λ words. first ∷ words) (ap words_of more ∙ words_of-at second rest clear ∙ ap (λ words. second ∷ words) some.2))

    -- a line of two words
    pub second-is : bytes_eq first word ≡ true → IsWithout blank behind → second_word word (words_of line) ≡ Some behind
    second-is same clear =
        ap (second_word word) (words_are ∙ ap (λ words. first ∷ words) (words_of-last behind clear))
        ∙ ap (λ (test : Bool). if test then Some behind else None) same
