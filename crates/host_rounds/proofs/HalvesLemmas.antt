-- Lists of two halves, put together and taken apart.
use Rattle.std.proofs.Common.{◌≡◌, ℕ, ◌<◌, List, [], ◌∷◌, ◌++◌, length, map, get_or, take, drop, refl, sym, ◌∙◌, ap, subst, arith}
use Rattle.std.proofs.Math.ListN.{get_or-map}
use Rattle.std.proofs.lemmas.List.{length-map, get_or_default}

-- a member of a list that has one
pub first-of : {X : Type 0} (xs : List X) (i : ℕ) → i < length xs → X
first-of [] i within = absurd (omega (arith, within))
first-of (x ∷ xs) i within = x

-- the half at a place is that of what stands there
pub half-at : {X Y : Type 0} (half : X → Y) (all : List X) (halves : List Y) (i : ℕ) (d : Y) (x : X) → halves ≡ map half all → i < length all
    → get_or halves i d ≡ half (get_or all i x)
half-at {X} {Y} half all halves i d x is within =
    let many : length halves ≡ length all = ap (λ (ys : List Y). length ys) is ∙ length-map all half in
    get_or_default halves i d (half x) (omega (arith, within, many)) ∙ ap (λ (ys : List Y). get_or ys i (half x)) is ∙ get_or-map half all i x

-- as many halves
pub half-count : {X Y : Type 0} (half : X → Y) (halves : List Y) (all : List X) → halves ≡ map half all → length halves ≡ length all
half-count {X} {Y} half halves all is = ap (λ (ys : List Y). length ys) is ∙ length-map all half

-- what holds of each half by its place holds of those in all
pub of-half : {X Y : Type 0} (half : X → Y) (P : ℕ → Y → Type 0) (halves : List Y) (all : List X) → halves ≡ map half all
    → ((i : ℕ) (d : Y) → i < length halves → P i (get_or halves i d)) → (i : ℕ) (x : X) → i < length all → P i (half (get_or all i x))
of-half half P halves all is each i x within =
    subst (P i) (half-at half all halves i (half x) x is within) (each i (half x) (omega (arith, within, half-count half halves all is)))

-- and the other way, before and after
pub back-two : {X Y : Type 0} (half : X → Y) (P : ℕ → Y → Y → Type 0) (olds news : List Y) (all later : List X)
    → olds ≡ map half all → news ≡ map half later → length later ≡ length all
    → ((i : ℕ) (x : X) → i < length all → P i (half (get_or all i x)) (half (get_or later i x)))
    → (i : ℕ) (d : Y) → i < length olds → P i (get_or olds i d) (get_or news i d)
back-two {X} {Y} half P olds news all later olds_are news_are many each i d within =
    let there : i < length all = omega (arith, within, half-count half olds all olds_are) in
    let x = first-of all i there in
    subst (λ (y : Y). P i y (get_or news i d)) (sym (half-at half all olds i d x olds_are there))
    (subst (P i (half (get_or all i x))) (sym (half-at half later news i d x news_are (omega (arith, there, many)))) (each i x there))

-- ---- what was lent of a list

take-own : {X : Type 0} (news others : List X) → take (length news) (news ++ others) ≡ news
take-own [] others = refl
take-own {X} (x ∷ news) others = ap (λ (xs : List X). x ∷ xs) (take-own news others)

-- what comes back of a list that was lent whole
pub back-whole : {X : Type 0} (size : ℕ) (olds news : List X) → length news ≡ size → take size (news ++ drop (length news) olds) ≡ news
back-whole {X} size olds news is = ap (λ (n : ℕ). take n (news ++ drop (length news) olds)) (sym is) ∙ take-own news (drop (length news) olds)
