-- How often a range can be halved.
use Rattle.std.proofs.Common.{◌≡◌, ℕ, suc, ◌+◌, ◌-◌, ◌*◌, ◌^◌, ◌≤◌, sym, ◌∙◌, ap, subst, arith}
use Rattle.std.proofs.Math.Nat.{pow-suc, mul-le-mul_left}

-- a range of n that was halved so often that so much is left
pub record Halved (taken size n : ℕ) : Type 0 where
  pub within : 2 ^ taken * size ≤ n
  pub bound : 2 ^ taken ≤ 2 * n + 1

pub Halved-start : (n : ℕ) → Halved 0 n n
Halved-start n = record { within = omega arith; bound = omega arith }

double : (n : ℕ) → 2 ^ (n + 1) ≡ 2 ^ n + 2 ^ n
double n =
    let next : n + 1 ≡ suc n = omega arith in
    let more : 2 ^ suc n ≡ 2 ^ n + 2 ^ n = omega (arith, pow-suc 2 n) in
    ap (λ (k : ℕ). 2 ^ k) next ∙ more

twice : (p size half n : ℕ) → p * size ≤ n → 2 * half ≤ size → (p + p) * half ≤ n
twice p size half n within less = omega (arith, mul-le-mul_left p less)

below : (p size n : ℕ) → p * size ≤ n → 1 ≤ size → p + p ≤ 2 * n + 1
below p size n within some = omega (arith, mul-le-mul_left p some)

-- one comparison leaves at most half
pub Halved-more : (taken size half n : ℕ) → Halved taken size n → 1 ≤ size → 2 * half ≤ size → Halved (taken + 1) half n
Halved-more taken size half n halved some less = record {
  within = subst (λ (p : ℕ). p * half ≤ n) (sym (double taken)) (twice (2 ^ taken) size half n halved.within less);
  bound = subst (λ (p : ℕ). p ≤ 2 * n + 1) (sym (double taken)) (below (2 ^ taken) size n halved.within some);
}

-- the same where the steps are counted from some number on
pub Halved-step : (steps start size half n : ℕ) → start ≤ steps → Halved (steps - start) size n → 1 ≤ size → 2 * half ≤ size → Halved (steps + 1 - start) half n
Halved-step steps start size half n rise halved some less =
    subst (λ (t : ℕ). Halved t half n) (omega arith) (Halved-more (steps - start) size half n halved some less)
