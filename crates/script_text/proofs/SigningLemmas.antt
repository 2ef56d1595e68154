-- How lines are signed one by one, and how far they were.
use Rattle.std.proofs.Common.{◌≡◌, ℕ, ◌+◌, ◌==◌, Bool, true, List, [], ◌∷◌, ◌++◌, length, append_assoc, Result, Ok, Err, refl, ap, sym, ◌∙◌, arith}
use Rattle.std.specs.List.{flat_map}
use Rattle.std.proofs.lemmas.Bool.{eqb-true}
use Rattle.std.proofs.lemmas.List.{append-nil}
use Rattle.base_words.specs.Steps.{and_then}
use Rattle.record_hash.specs.Functions.{DigestFunctions}
use Rattle.record_text.specs.declared.cause.Cause.{Cause}
use Rattle.script_text.specs.declared.signing.Numbered.{Numbered}
use Rattle.script_text.specs.Lines.{lines_of}
use Rattle.script_text.specs.Script.{BadLine, at_line}
use Rattle.script_text.specs.Signing.{numbered_line, numbered_lines, signed_line, signed_text}

-- So many lines were signed, the last of which had this number, and this is their text; what is left of the bytes asks the rest.
pub record HasSigned (functions : DigestFunctions) (wide : Bool) (client : ℕ) (bytes text : List ℕ) (number last : ℕ) (rest : List ℕ) : Type 0 where
  pub requests : List Numbered
  pub text_is : text ≡ flat_map (signed_line functions wide client) requests
  pub left : numbered_lines wide 0 1 (lines_of bytes) ≡ and_then (numbered_lines wide last (number + 1) (lines_of rest)) (λ more. Ok (requests ++ more))

-- before the first line
pub signed-nothing : (functions : DigestFunctions) (wide : Bool) (client : ℕ) (bytes : List ℕ) → HasSigned functions wide client bytes [] 0 0 bytes
signed-nothing functions wide client bytes = record { requests = []; text_is = refl; left = go (numbered_lines wide 0 1 (lines_of bytes)) } where
  go : (said : Result (List Numbered) BadLine) → said ≡ and_then said (λ more. Ok ([] ++ more))
  go (Ok lines) = refl
  go (Err bad) = refl

flat_map-last : {A B : Type 0} (f : A → List B) (xs : List A) (x : A) → flat_map f (xs ++ x ∷ []) ≡ flat_map f xs ++ f x
flat_map-last f [] x = append-nil (f x)
flat_map-last f (y ∷ xs) x = ap (λ rest. f y ++ rest) (flat_map-last f xs x) ∙ sym (append_assoc (f y) (flat_map f xs) (f x))

-- one more line
pub signed-line : (functions : DigestFunctions) (wide : Bool) (client : ℕ) (bytes text : List ℕ) (number last : ℕ) (rest line behind : List ℕ) (one : Numbered)
    → HasSigned functions wide client bytes text number last rest → lines_of rest ≡ line ∷ lines_of behind → numbered_line wide last line ≡ Ok one
    → HasSigned functions wide client bytes (text ++ signed_line functions wide client one) (number + 1) one.number behind
unfolding numbered_lines
signed-line functions wide client bytes text number last rest line behind one before is says =
    record {
      requests = before.requests ++ one ∷ [];
      text_is = ap (λ t. t ++ signed_line functions wide client one) before.text_is ∙ sym (flat_map-last (signed_line functions wide client) before.requests one);
      left = before.left
          ∙ ap (λ lines. and_then (numbered_lines wide last (number + 1) lines) (λ more. Ok (before.requests ++ more))) is
          ∙ ap (λ first. and_then (and_then (at_line (number + 1) first) (λ said. and_then (numbered_lines wide said.number (number + 1 + 1) (lines_of behind)) (λ more. Ok (said ∷ more)))) (λ more. Ok (before.requests ++ more))) says
          ∙ go (numbered_lines wide one.number (number + 1 + 1) (lines_of behind));
    } where
      go : (said : Result (List Numbered) BadLine)
          → and_then (and_then said (λ more. Ok (one ∷ more))) (λ more. Ok (before.requests ++ more)) ≡ and_then said (λ more. Ok ((before.requests ++ one ∷ []) ++ more))
      go (Ok more) = ap Ok (sym (append_assoc before.requests (one ∷ []) more))
      go (Err bad) = refl

-- a line that is refused
pub signed-refused : (functions : DigestFunctions) (wide : Bool) (client : ℕ) (bytes text : List ℕ) (number last : ℕ) (rest line behind : List ℕ) (cause : Cause)
    → HasSigned functions wide client bytes text number last rest → lines_of rest ≡ line ∷ lines_of behind → numbered_line wide last line ≡ Err cause
    → signed_text functions wide client bytes ≡ Err (record { line = number + 1; cause = cause })
unfolding numbered_lines
signed-refused functions wide client bytes text number last rest line behind cause before is says =
    ap (λ said. and_then said (λ requests. Ok (flat_map (signed_line functions wide client) requests)))
    (before.left
    ∙ ap (λ lines. and_then (numbered_lines wide last (number + 1) lines) (λ more. Ok (before.requests ++ more))) is
    ∙ ap (λ first. and_then (and_then (at_line (number + 1) first) (λ said. and_then (numbered_lines wide said.number (number + 1 + 1) (lines_of behind)) (λ more. Ok (said ∷ more)))) (λ more. Ok (before.requests ++ more))) says)

-- all lines
pub signed-all : (functions : DigestFunctions) (wide : Bool) (client : ℕ) (bytes text : List ℕ) (number last : ℕ) (rest : List ℕ) → (length rest == 0) ≡ true
    → HasSigned functions wide client bytes text number last rest → signed_text functions wide client bytes ≡ Ok text
unfolding numbered_lines lines_of
signed-all functions wide client bytes text number last (byte ∷ rest) none before = absurd (omega (arith, eqb-true (length (byte ∷ rest)) 0 none))
signed-all functions wide client bytes text number last [] none before =
    ap (λ said. and_then said (λ requests. Ok (flat_map (signed_line functions wide client) requests))) before.left
    ∙ ap (λ requests. Ok (flat_map (signed_line functions wide client) requests)) (append-nil before.requests)
    ∙ ap Ok (sym before.text_is)
