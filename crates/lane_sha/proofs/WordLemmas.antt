-- What an operator on vectors does to each lane.
use Rattle.std.proofs.Common.{◌≡◌, ℕ, zero, suc, ◌<◌, ◌-◌, ◌*◌, ◌/◌, ◌%◌, ◌^◌, List, [], ◌∷◌, length, map, slice_index, bit_or, arith, refl, ap, ap₂, sym, ◌∙◌}
use Rattle.std.proofs.lemmas.Simd.{get_or-zip2, length-zip2}
use Rattle.std.specs.Simd.Lanes.{zip2}
use Rattle.std.specs.Int.{w32, rotate_right}

-- what holds of each of the eight lanes
pub below_eight : (P : ℕ → Type 0) → P 0 → P 1 → P 2 → P 3 → P 4 → P 5 → P 6 → P 7 → (j : ℕ) → j < 8 → P j
below_eight P p0 p1 p2 p3 p4 p5 p6 p7 zero h = p0
below_eight P p0 p1 p2 p3 p4 p5 p6 p7 (suc zero) h = p1
below_eight P p0 p1 p2 p3 p4 p5 p6 p7 (suc (suc zero)) h = p2
below_eight P p0 p1 p2 p3 p4 p5 p6 p7 (suc (suc (suc zero))) h = p3
below_eight P p0 p1 p2 p3 p4 p5 p6 p7 (suc (suc (suc (suc zero)))) h = p4
below_eight P p0 p1 p2 p3 p4 p5 p6 p7 (suc (suc (suc (suc (suc zero))))) h = p5
below_eight P p0 p1 p2 p3 p4 p5 p6 p7 (suc (suc (suc (suc (suc (suc zero)))))) h = p6
below_eight P p0 p1 p2 p3 p4 p5 p6 p7 (suc (suc (suc (suc (suc (suc (suc zero))))))) h = p7
below_eight P p0 p1 p2 p3 p4 p5 p6 p7 (suc (suc (suc (suc (suc (suc (suc (suc n)))))))) h = absurd (omega arith)

-- the vector has eight lanes, and lane j is g j
pub record Each (xs : List ℕ) (g : ℕ → ℕ) : Type 0 where
  pub long : length xs ≡ 8
  pub lane : (j : ℕ) → j < 8 → slice_index xs j ≡ g j

-- a vector of which each lane is known
pub vector : {xs : List ℕ} {g : ℕ → ℕ} → length xs ≡ 8 → ((j : ℕ) → j < 8 → slice_index xs j ≡ g j) → Each xs g
vector long lane = record { long = long; lane = lane }

-- a vector
pub self : {xs : List ℕ} → length xs ≡ 8 → Each xs (slice_index xs)
self long = record { long = long; lane = λ j h. refl }

-- one number in all lanes
pub all_of : (y : ℕ) → Each (y ∷ y ∷ y ∷ y ∷ y ∷ y ∷ y ∷ y ∷ []) (λ _. y)
all_of y = record { long = refl; lane = below_eight _ refl refl refl refl refl refl refl refl }

-- an operator on one vector
length-map : (f : ℕ → ℕ) (xs : List ℕ) → length (map f xs) ≡ length xs
length-map f [] = refl
length-map f (x ∷ xs) = ap suc (length-map f xs)

lane-map : (f : ℕ → ℕ) (xs : List ℕ) (j : ℕ) → j < length xs → slice_index (map f xs) j ≡ f (slice_index xs j)
lane-map f [] j below = absurd (omega arith)
lane-map f (x ∷ xs) zero below = refl
lane-map f (x ∷ xs) (suc j) below = lane-map f xs j (omega arith)

pub one : (f : ℕ → ℕ) {xs : List ℕ} {g : ℕ → ℕ} → Each xs g → Each (map f xs) (λ j. f (g j))
one f {xs} {g} x = record {
  long = length-map f xs ∙ x.long;
  lane = λ j h. lane-map f xs j (omega (arith, x.long)) ∙ ap f (x.lane j h);
}

-- an operator on two vectors
pub two : (f : ℕ → ℕ → ℕ) {xs ys : List ℕ} {g k : ℕ → ℕ} → Each xs g → Each ys k → Each (zip2 f xs ys) (λ j. f (g j) (k j))
two f {xs} {ys} {g} {k} x y = record {
  long = length-zip2 f xs ys (x.long ∙ sym y.long) ∙ x.long;
  lane = λ j h. get_or-zip2 f xs ys j 0 0 0 (omega (arith, x.long)) (omega (arith, y.long)) ∙ ap₂ f (x.lane j h) (y.lane j h);
}

-- two shifts and an or are a rotation
pub shifts_rotate : (x k : ℕ) → 0 < k → k < 32
    → bit_or (x / 2 ^ k) (x * 2 ^ (32 - k) % 2 ^ 32) ≡ rotate_right w32 x k
shifts_rotate x k low high =
    let right : k % 32 ≡ k = omega arith in
    let left : (32 - k) % 32 ≡ 32 - k = omega arith in
    rw (right, left) refl
