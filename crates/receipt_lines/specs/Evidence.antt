-- What a text means as evidence: a line with a receipt, and a line with a certificate.
use Rattle.std.specs.Prelude.{ℕ, List, [], ◌∷◌, Option, Some, None, Result, Ok, Err, is_some, codes, slice_get, if◌then◌else◌}
use Rattle.std.specs.List.{list_all}
use Rattle.std.specs.Option.{option_and_then}
use Rattle.std.specs.Result.{result_ok}
use Rattle.std.specs.Str.{bytes_eq}
use Rattle.hex.specs.Hex.{decode_of}
use Rattle.base_words.specs.Steps.{test, need, and_then}
use Rattle.record_text.specs.declared.cause.Cause.{Cause}
use Rattle.record_text.specs.declared.cause.Cause.TheVariants.{Shape, Hex}
use Rattle.script_text.specs.Lines.{lines_of, words_of}
use Rattle.script_text.specs.Words.{is_lower_digit}
use Rattle.receipts.specs.declared.tagged_texts.Receipt.{Receipt}
use Rattle.receipts.specs.declared.tagged_texts.Certificate.{Certificate}
use Rattle.receipt_lines.specs.declared.evidence.Evidence.{Evidence}
use Rattle.receipt_lines.specs.declared.evidence.BadLine.{BadLine}
use Rattle.receipt_lines.specs.Tagged.{receipt_at, certificate_at, whole}

-- ---- one word

-- the bytes that an even number of hexadecimal digits in lower case spells
unfoldable pub bytes_in : List ℕ → Option (List ℕ)
bytes_in digits = if list_all is_lower_digit digits then result_ok (decode_of digits) else None

-- the receipt of which these are the digits, all of them
unfoldable pub receipt_in : List ℕ → Option Receipt
receipt_in digits = option_and_then (λ bytes. whole (receipt_at bytes)) (bytes_in digits)

-- the certificate of which they are
unfoldable pub certificate_in : List ℕ → Option Certificate
certificate_in digits = option_and_then (λ bytes. whole (certificate_at bytes)) (bytes_in digits)

-- ---- one line

-- the second of two words, of which the first is this one
abbrev pub second_word : List ℕ → List (List ℕ) → Option (List ℕ)
second_word word (first ∷ second ∷ []) = if bytes_eq first word then Some second else None
second_word word words = None

-- What a line says that is this word, a blank and the digits of something, or the first cause for which it is refused. No
-- line says nothing.
unfoldable pub line_says : {A : Type 0} → List ℕ → (List ℕ → Option A) → Option (List ℕ) → Result A Cause
line_says word found_in line =
    need (option_and_then (λ l. second_word word (words_of l)) line) Shape (λ digits.
    need (found_in digits) Hex (λ found.
    Ok found))

-- ---- the text

-- a refused line by its number
abbrev pub at_line : {A : Type 0} → ℕ → Result A Cause → Result A BadLine
at_line number (Ok found) = Ok found
at_line number (Err cause) = Err (record { line = number; cause = cause })

-- What lines say: the first has a receipt, the second a certificate, and there is no third. Or the first of them that is
-- refused, or missing, counted from 1.
unfoldable pub lines_say : List (List ℕ) → Result Evidence BadLine
lines_say lines =
    and_then (at_line 1 (line_says (codes "receipt") receipt_in (slice_get lines 0))) (λ receipt.
    and_then (at_line 2 (line_says (codes "certificate") certificate_in (slice_get lines 1))) (λ certificate.
    test (is_some (slice_get lines 2)) (record { line = 3; cause = Shape })
    (Ok (record { receipt = receipt; certificate = certificate }))))

-- What a text means as evidence, or the first line of it that is outside the grammar.
abbrev pub evidence_of : List ℕ → Result Evidence BadLine
evidence_of text = lines_say (lines_of text)
