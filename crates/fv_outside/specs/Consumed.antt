-- How much of a source was taken, where it tells its bytes.
use Rattle.std.specs.Prelude.{◌≡◌, ℕ, ◌+◌, ◌<◌, ◌≤◌, List, length, take, ⊤, Option, Some, None, IfSome, Result, MatchResult}
use Rattle.std.specs.Io.KnownBytes.{Consumes, IsAtEnd, Keeps}

-- where a source tells its bytes: no more than so many of them were taken
abbrev pub TookAtMost : ℕ → Option (List ℕ) → Option (List ℕ) → Type 0
TookAtMost most None new = ⊤
TookAtMost most (Some bytes) None = ⊥
TookAtMost most (Some bytes) (Some rest) = length bytes ≤ most + length rest

-- where a source tells its bytes: so many of them were taken
abbrev pub TookJust : ℕ → Option (List ℕ) → Option (List ℕ) → Type 0
TookJust count None new = ⊤
TookJust count (Some bytes) None = ⊥
TookJust count (Some bytes) (Some rest) = length bytes ≡ count + length rest

-- where a source tells its bytes: at least so many of them were taken
abbrev pub TookAtLeast : ℕ → Option (List ℕ) → Option (List ℕ) → Type 0
TookAtLeast least None new = ⊤
TookAtLeast least (Some bytes) None = ⊥
TookAtLeast least (Some bytes) (Some rest) = least + length rest ≤ length bytes

-- the most bytes behind where reading ends: a read is asked for 65,536 at most, and only while one of them at least
-- lies before it
abbrev pub most_behind : ℕ
most_behind = 65535

-- where a source tells its bytes, of which reading ends behind so many: these were taken
abbrev pub TookToEnd : (List ℕ → ℕ) → Option (List ℕ) → Option (List ℕ) → Type 0
TookToEnd reading_end old new = IfSome old (λ bytes. TookAtLeast (reading_end bytes) old new)

-- the same: behind where reading ends no more were taken than the rest of one read
abbrev pub StopsAtEnd : (List ℕ → ℕ) → Option (List ℕ) → Option (List ℕ) → Type 0
StopsAtEnd reading_end old new = IfSome old (λ bytes. TookAtMost (reading_end bytes + most_behind) old new)

-- the same: reading ends behind more than this many
abbrev pub EndsBehind : (List ℕ → ℕ) → ℕ → Option (List ℕ) → Type 0
EndsBehind reading_end count old = IfSome old (λ bytes. count < reading_end bytes)

-- a read took the bytes that it gave, none only at the end, and nothing where it failed
abbrev pub ReadsOn : {E : Type 0} → Option (List ℕ) → Option (List ℕ) → Result ℕ E → List ℕ → Type 0
ReadsOn old new result room =
    MatchResult result (λ count. Consumes old new (take count room) × (count ≡ 0 → IsAtEnd new)) (λ _. Keeps old new)
