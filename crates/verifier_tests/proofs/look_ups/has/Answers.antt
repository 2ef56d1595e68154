use Rattle.std.proofs.Common.{ℕ, ◌-◌, ◌^◌, ◌<◌, inl, inr, arith}
use Rattle.std.proofs.lemmas.Bool.{cases_lt}
use Rattle.std.proofs.Math.Nat.{pow-le-pow_right}
use Rattle.verifier_tests.proofs.look_ups.has.Goals as goal

-- what is smaller as a power is smaller
smaller : (k n : ℕ) → 2 ^ k < 2 ^ n → k < n
smaller k n less = elim (cases_lt k n) [
  | inl low ↦ low
  | inr high ↦ absurd (omega (arith, less, pow-le-pow_right {n = 2} (omega arith) {i = n} {j = k} high))
]

pub returns-clause-none : goal.returns-clause-none
returns-clause-none g c = λ count.
    let few : 2 ^ (c.find_counted.new.steps - c.args.steps.now) < 2 ^ 1 = omega (arith, c.find_counted.ensures.steps, count) in
    omega (arith, smaller _ 1 few, c.find_counted.ensures.rise)

pub returns-clause-one : goal.returns-clause-one
returns-clause-one g c = λ count.
    let few : 2 ^ (c.find_counted.new.steps - c.args.steps.now) < 2 ^ 2 = omega (arith, c.find_counted.ensures.steps, count) in
    omega (arith, smaller _ 2 few, c.find_counted.ensures.rise)

pub returns-clause-four : goal.returns-clause-four
returns-clause-four g c = λ count.
    let few : 2 ^ (c.find_counted.new.steps - c.args.steps.now) < 2 ^ 4 = omega (arith, c.find_counted.ensures.steps, count) in
    omega (arith, smaller _ 4 few, c.find_counted.ensures.rise)
