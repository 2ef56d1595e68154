-- How counts of faults over one call go together with those over the calls before and after it.
use Rattle.std.proofs.Common.{ℕ, ◌≤◌, inl, inr, ⊎_elim, Result, Ok, Err, arith}
use Rattle.std.proofs.lemmas.Bool.{cases_lt}
use Rattle.fv_outside.specs.Faults.{Rose, Counts}

-- a count that rose from a later moment on rose from an earlier one on
pub Rose-before : (a b c : ℕ) → a ≤ b → Rose b c → Rose a c
Rose-before a b c le (inl lt) = inl (omega arith)
Rose-before a b c le (inr end) = inr end

-- a count that rose stays above where it was, since it never falls
pub Rose-after : (a b c : ℕ) → Rose a b → b ≤ c → a ≤ b → Rose a c
Rose-after a b c (inl lt) le first = inl (omega arith)
Rose-after a b c (inr end) le first = ⊎_elim (λ lt. inl (omega arith)) (λ ge. inr (omega arith)) (cases_lt b c)

-- calls that did not fail, and then one call
pub Counts-then : {A E : Type 0} (a b c : ℕ) (result : Result A E) → a ≤ b → Counts b c result → Counts a c result
Counts-then a b c (Ok x) le h = record { never_falls = omega arith; failed = h.failed }
Counts-then a b c (Err e) le h = record { never_falls = omega arith; failed = Rose-before a b c le h.failed }

-- a call that did not fail
pub Counts-ok : {A E : Type 0} (a b : ℕ) (x : A) → a ≤ b → Counts {E = E} a b (Ok x)
Counts-ok a b x le = record { never_falls = le; failed = tt }
