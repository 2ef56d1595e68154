-- A list in order, by a test of whether one member comes before another: the insertion sort, which leaves ties as they
-- stood.
use Rattle.std.specs.Prelude.{◌≡◌, Bool, false, List, [], ◌∷◌, cond, ⊤}
use Rattle.std.specs.List.{AllByRecursion}

-- x among ys, which are in order: in front of the first that doesn't come before it
abbrev pub put_in_order : {X : Type 0} → (X → X → Bool) → X → List X → List X
put_in_order before x [] = x ∷ []
put_in_order before x (y ∷ ys) = cond (before y x) (y ∷ put_in_order before x ys) (x ∷ y ∷ ys)

-- the members of a list in order, those that tie as they stood
abbrev pub in_order : {X : Type 0} → (X → X → Bool) → List X → List X
in_order before [] = []
in_order before (x ∷ xs) = put_in_order before x (in_order before xs)

-- no member comes before one that stands in front of it
abbrev pub IsInOrder : {X : Type 0} → (X → X → Bool) → List X → Type 0
IsInOrder before [] = ⊤
IsInOrder before (x ∷ xs) = AllByRecursion (λ y. before y x ≡ false) xs × IsInOrder before xs
