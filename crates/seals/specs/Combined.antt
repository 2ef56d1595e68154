-- Readers put together: one behind another, what a thing that was read means, and lists with their counts.
use Rattle.std.specs.Prelude.{ℕ, zero, suc, ◌==◌, nat_le, Bool, List, [], ◌∷◌, Option, Some, None, Ok, IsTrue, if◌then◌else◌}
use Rattle.record_text.specs.Fields.{Parsed, ◌>>=◌, ranged}

-- one behind another
abbrev pub then_at : {A B : Type 0} → (List ℕ → Parsed A) → (A → List ℕ → Parsed B) → List ℕ → Parsed (A × B)
then_at first next bytes = do
  a ← first bytes
  b ← next a.0 a.1
  Ok ((a.0, b.0), b.1)

-- what a thing that was read means, or it is malformed where it means nothing
abbrev pub pick_at : {A B : Type 0} → (A → Option B) → (List ℕ → Parsed A) → List ℕ → Parsed B
pick_at pick read bytes = do
  a ← read bytes
  ranged (pick a.0) a.1

-- the thing where it passes a test
abbrev pub if_passing : {A : Type 0} → (A → Bool) → A → Option A
if_passing test a = if test a then Some a else None

-- a thing that is malformed where it doesn't pass a test
abbrev pub tested_at : {A : Type 0} → (A → Bool) → (List ℕ → Parsed A) → List ℕ → Parsed A
tested_at test read bytes = pick_at (if_passing test) read bytes

-- So many things of a kind, one behind another. Each is malformed where it may not stand behind the one before it, or be the
-- first, where there is none before.
unfoldable pub row_at : {A : Type 0} → (Option A → A → Bool) → (List ℕ → Parsed A) → Option A → ℕ → List ℕ → Parsed (List A)
row_at follows read before zero bytes = Ok ([], bytes)
row_at follows read before (suc count) bytes = do
  first ← tested_at (follows before) read bytes
  more ← row_at follows read (Some first.0) count first.1
  Ok (first.0 ∷ more.0, more.1)

-- each of these may stand behind the one before it
abbrev pub InRow : {A : Type 0} → (Option A → A → Bool) → Option A → List A → Type 0
InRow follows before [] = Unit {0}
InRow follows before (x ∷ xs) = IsTrue (follows before x) × InRow follows (Some x) xs

-- how many there are, which is malformed where it doesn't pass a test, and these
abbrev pub counted_at : {A : Type 0} → (List ℕ → Parsed ℕ) → (ℕ → Bool) → (Option A → A → Bool) → (List ℕ → Parsed A) → List ℕ → Parsed (List A)
counted_at number test follows read bytes = pick_at (λ found. Some found.1) (then_at (tested_at test number) (row_at follows read None)) bytes

-- at most so many
abbrev pub at_most : ℕ → ℕ → Bool
at_most most count = nat_le count most

-- just so many
abbrev pub exactly : ℕ → ℕ → Bool
exactly due count = count == due
