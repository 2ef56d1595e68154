-- What was taken of a source, piece by piece.
use Rattle.std.proofs.Common.{◌≡◌, ℕ, ◌≤◌, List, [], ◌++◌, length, Option, Some, None, IfSome, refl, sym, ◌∙◌, ap, arith, append_assoc, append-nil, length-append}
use Rattle.std.specs.Io.KnownBytes.{Consumes, IsAtEnd, Keeps}
use Rattle.fv_outside.specs.Consumed.{TookAtMost, TookJust}

-- nothing was taken
pub Consumes-none : (x : Option (List ℕ)) → Consumes x x []
Consumes-none None = tt
Consumes-none (Some bytes) = refl

-- nothing more was taken
pub Consumes-kept : (x y z : Option (List ℕ)) (front : List ℕ) → Consumes x y front → Keeps y z → Consumes x z front
Consumes-kept None y z front read kept = tt
Consumes-kept (Some bytes) None z front read kept = absurd read
Consumes-kept (Some bytes) (Some rest) None front read kept = absurd kept
Consumes-kept (Some bytes) (Some rest) (Some left) front read kept = read ∙ ap (λ (more : List ℕ). front ++ more) (sym kept)

-- one piece, and another behind it
pub Consumes-then : (x y z : Option (List ℕ)) (front more : List ℕ) → Consumes x y front → Consumes y z more → Consumes x z (front ++ more)
Consumes-then None y z front more first second = tt
Consumes-then (Some bytes) None z front more first second = absurd first
Consumes-then (Some bytes) (Some rest) None front more first second = absurd second
Consumes-then (Some bytes) (Some rest) (Some left) front more first second =
    first ∙ ap (λ (r : List ℕ). front ++ r) second ∙ sym (append_assoc front more left)

pub took_at_most : (most : ℕ) (x y : Option (List ℕ)) (front : List ℕ) → Consumes x y front → length front ≤ most → TookAtMost most x y
took_at_most most None y front read within = tt
took_at_most most (Some bytes) None front read within = absurd read
took_at_most most (Some bytes) (Some rest) front read within = omega (arith, ap length read, length-append front rest)

pub took_just : (count : ℕ) (x y : Option (List ℕ)) (front : List ℕ) → Consumes x y front → length front ≡ count → TookJust count x y
took_just count None y front read is = tt
took_just count (Some bytes) None front read is = absurd read
took_just count (Some bytes) (Some rest) front read is = omega (arith, ap length read, length-append front rest)

-- at the end all was taken
pub all_taken : (x y : Option (List ℕ)) (front : List ℕ) → Consumes x y front → IsAtEnd y → IfSome x (λ bytes. front ≡ bytes)
all_taken None y front read end = tt
all_taken (Some bytes) None front read end = absurd read
all_taken (Some bytes) (Some rest) front read end = sym (append-nil front) ∙ ap (λ (r : List ℕ). front ++ r) (sym end) ∙ sym read
