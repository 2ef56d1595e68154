-- Reading from left to right, field by field, up to the first fault.
use Rattle.std.specs.Prelude.{◌≡◌, ℕ, ◌-◌, ◌≤◌, List, ◌++◌, length, take, drop, Option, Some, None, Result, Ok, Err, nat_lt, if◌then◌else◌}
use Rattle.record_text.specs.declared.reader.TextFault.{TextFault}
use Rattle.record_text.specs.declared.reader.TextFault.TheVariants.{Malformed, Truncated}

-- what was read, and the bytes after it; or the first fault
abbrev pub Parsed : Type 0 → Type 0
Parsed A = Result (A × List ℕ) TextFault

-- one reader after another
infixl 10 ◌>>=◌
abbrev pub ◌>>=◌ : {A B : Type 0} → Result A TextFault → (A → Result B TextFault) → Result B TextFault
(Ok found) >>= next = next found
(Err fault) >>= next = Err fault

-- a field whose bytes are all there is malformed where they are outside its range
abbrev pub ranged : {A : Type 0} → Option A → List ℕ → Parsed A
ranged None rest = Err Malformed
ranged (Some value) rest = Ok (value, rest)

-- A field of n bytes: truncated where they are not all there, whatever those are that are.
abbrev pub field : {A : Type 0} → ℕ → (List ℕ → Option A) → List ℕ → Parsed A
field n value bytes = if nat_lt (length bytes) n then Err Truncated else ranged (value (take n bytes)) (drop n bytes)

-- a reader's answer and the bytes that it leaves are what reading gives
abbrev pub Takes : {A : Type 0} → Result A TextFault → List ℕ → Parsed A → Type 0
Takes (Ok value) left parsed = parsed ≡ Ok (value, left)
Takes (Err fault) left parsed = parsed ≡ Err fault

-- what a reader leaves in a place, and the bytes that it leaves, are what reading gives
abbrev pub TakesInto : {A : Type 0} → Result (Unit {0}) TextFault → A → List ℕ → Parsed A → Type 0
TakesInto (Ok done) place left parsed = parsed ≡ Ok (place, left)
TakesInto (Err fault) place left parsed = parsed ≡ Err fault

-- what was read, and of how many bytes
abbrev pub counted : {A : Type 0} → List ℕ → Parsed A → Result (A × ℕ) TextFault
counted bytes (Ok found) = Ok (found.0, length bytes - length found.1)
counted bytes (Err fault) = Err fault

-- What a reader does with bytes that come in pieces: more bytes behind change neither a thing that was
-- read nor that the bytes are malformed, and what is left is no longer than what there was.
pub record KeepsOn {A : Type 0} (read : List ℕ → Parsed A) : Type 0 where
  pub found : (bytes more : List ℕ) (value : A) (rest : List ℕ) → read bytes ≡ Ok (value, rest) → read (bytes ++ more) ≡ Ok (value, rest ++ more)
  pub malformed : (bytes more : List ℕ) → read bytes ≡ Err Malformed → read (bytes ++ more) ≡ Err Malformed
  pub left : (bytes : List ℕ) (value : A) (rest : List ℕ) → read bytes ≡ Ok (value, rest) → length rest ≤ length bytes
