-- What a verdict says of the parts.
use Rattle.std.proofs.Common.{◌≡◌, ℕ, zero, suc, ◌+◌, ◌<◌, ◌≤◌, ◌==◌, ◌↔◌, ◌⊎◌, Bool, true, false, not, cond, List, [], ◌∷◌, ◌++◌, Option, Some, None, MatchOption, find, fold, flat_map, refl, sym, ap, ◌∙◌, subst, inl, inr, ⊎_elim, append-nil, append_assoc, eqb-true, eq-eqb, arith}
use Rattle.std.specs.List.{AllByRecursion, range_with_len}
use Rattle.std.specs.Str.{bytes_eq}
use Rattle.std.proofs.lemmas.Bool.{and_parts, and_from, cases_eq}
use Rattle.std.proofs.lemmas.Slice.Eq.{bytes_eq-Decides}
use Rattle.multiset_sum.specs.declared.part.Part.{Part}
use Rattle.multiset_sum.specs.Tally.{Tally}
use Rattle.multiset_sum.specs.Sum.{joined, sum_of}
use Rattle.multiset_sum.proofs.SumLaws.{joined-sum_of}
use Rattle.epoch_gather.specs.declared.outcome.Verdict.TheVariants.{Balanced, Unbalanced}
use Rattle.epoch_gather.specs.Parts.{of_epoch, has_part, lowest_missing, total}
use Rattle.epoch_gather.specs.Verdict.{same_tally, verdict_by, verdict_of}

-- ---- who is missing

cases_le : (a b : ℕ) → a ≤ b → (a ≡ b) ⊎ (a < b)
cases_le a b below = ⊎_elim inl (λ apart. inr (omega (arith, apart))) (cases_eq a b)

-- what a search through numbers from one on found: that all fail, or the first that passes
abbrev Found : (ℕ → Bool) → ℕ → ℕ → Option ℕ → Type 0
Found p from n found =
    MatchOption found ((k : ℕ) → from ≤ k → k < from + n → p k ≡ false)
    (λ v. (from ≤ v) × (v < from + n) × (p v ≡ true) × ((k : ℕ) → from ≤ k → k < v → p k ≡ false))

-- a number more in front, which fails
found_later : (p : ℕ → Bool) (from n : ℕ) (found : Option ℕ) → p from ≡ false → Found p (from + 1) n found → Found p from (suc n) found
found_later p from n None fails rest = λ k above below.
    ⊎_elim (λ same. subst (λ m. p m ≡ false) same fails) (λ apart. rest k (omega (arith, apart)) (omega arith)) (cases_le from k above)
found_later p from n (Some v) fails rest = (
  omega (arith, rest.0),
  omega (arith, rest.1),
  rest.2,
  λ k above below.
      ⊎_elim (λ same. subst (λ m. p m ≡ false) same fails) (λ apart. rest.3 k (omega (arith, apart)) below) (cases_le from k above),
)

find-range : (p : ℕ → Bool) (from n : ℕ) → Found p from n (find p (range_with_len from n))
find-range p from zero = λ k above below. absurd (omega arith)
find-range p from (suc n) = go (p from) refl (find-range p (from + 1) n)
  where
    go : (b : Bool) → p from ≡ b → Found p (from + 1) n (find p (range_with_len (from + 1) n)) → Found p from (suc n) (cond b (Some from) (find p (range_with_len (from + 1) n)))
    go true passes rest = (omega arith, omega arith, passes, λ k above below. absurd (omega arith))
    go false fails rest = found_later p from n _ fails rest

not_missing : (b : Bool) → not b ≡ false → b ≡ true
not_missing true e = refl
not_missing false e = sym e

is_missing : (b : Bool) → not b ≡ true → b ≡ false
is_missing true e = sym e
is_missing false e = refl

lowest_in : (has : ℕ → Bool) (n : ℕ) (found : Option ℕ) → Found (λ k. not (has k)) 0 n found
    → MatchOption found ((k : ℕ) → k < n → has k ≡ true) (λ v. (v < n) × (has v ≡ false) × ((k : ℕ) → k < v → has k ≡ true))
lowest_in has n None all = λ k below. not_missing (has k) (all k (omega arith) (omega arith))
lowest_in has n (Some v) first = (omega (arith, first.1), is_missing (has v) first.2, λ k below. not_missing (has k) (first.3 k (omega arith) below))

-- the one that is named has no part, and each lower one has; where none is named each has one
pub lowest_missing-is : (verifiers epoch : ℕ) (parts : List Part)
    → MatchOption (lowest_missing verifiers epoch parts) ((verifier : ℕ) → verifier < verifiers → has_part parts epoch verifier ≡ true)
    (λ missing. (missing < verifiers) × (has_part parts epoch missing ≡ false) × ((lower : ℕ) → lower < missing → has_part parts epoch lower ≡ true))
lowest_missing-is verifiers epoch parts = lowest_in (has_part parts epoch) verifiers _ (find-range (λ verifier. not (has_part parts epoch verifier)) 0 verifiers)

-- ---- whether the sums are equal

tally_is : (xs ys : List ℕ) (m n : ℕ) → xs ≡ ys → m ≡ n → (let s : Tally = record { lanes = xs; count = m } in s) ≡ record { lanes = ys; count = n }
tally_is xs ys m n lanes counts = cc

same_tally-true : (a b : Tally) → same_tally a b ≡ true → a ≡ b
same_tally-true a b same =
    let both = and_parts (bytes_eq a.lanes b.lanes) (a.count == b.count) same in
    tally_is a.lanes b.lanes a.count b.count ((bytes_eq-Decides a.lanes b.lanes).0 both.0) (eqb-true a.count b.count both.1)

same_tally-itself : (a b : Tally) → a ≡ b → same_tally a b ≡ true
same_tally-itself a b is =
    and_from (bytes_eq a.lanes b.lanes) (a.count == b.count) ((bytes_eq-Decides a.lanes b.lanes).1 (ap (λ (s : Tally). s.lanes) is)) (eq-eqb a.count b.count (ap (λ (s : Tally). s.count) is))

balanced_by : (missing : Option ℕ) (added evicted : Tally) → (verdict_by missing added evicted ≡ Balanced) ↔ ((missing ≡ None) × (added ≡ evicted))
balanced_by (Some verifier) added evicted = (λ e. absurd (cc), λ h. absurd (cc))
balanced_by None added evicted = (λ e. (refl, same_tally-true added evicted (equal (same_tally added evicted) e)), λ h. rw (same_tally-itself added evicted h.1) refl)
  where
    equal : (b : Bool) → cond b Balanced (Unbalanced added evicted) ≡ Balanced → b ≡ true
    equal true e = refl
    equal false e = absurd (cc)

-- balanced exactly where none is missing and the joined sums are one
pub verdict_of-Balanced : (verifiers epoch : ℕ) (parts : List Part) → (verdict_of verifiers epoch parts ≡ Balanced)
    ↔ ((lowest_missing verifiers epoch parts ≡ None) × (total (λ part. part.added) (of_epoch epoch parts) ≡ total (λ part. part.evicted) (of_epoch epoch parts)))
verdict_of-Balanced verifiers epoch parts = balanced_by (lowest_missing verifiers epoch parts) _ _

-- ---- what the sums are of

total_from : (side : Part → Tally) (elements : Part → List (List ℕ)) (before : List (List ℕ)) (parts : List Part) → AllByRecursion (λ part. side part ≡ sum_of (elements part)) parts
    → fold (λ sum part. joined sum (side part)) (sum_of before) parts ≡ sum_of (before ++ flat_map elements parts)
total_from side elements before [] all = ap sum_of (sym (append-nil before))
total_from side elements before (part ∷ parts) all =
    ap (λ s. fold (λ sum p. joined sum (side p)) s parts) (ap (joined (sum_of before)) all.0 ∙ joined-sum_of before (elements part))
    ∙ total_from side elements (before ++ elements part) parts all.1
    ∙ ap sum_of (append_assoc before (elements part) (flat_map elements parts))

-- the joined sums of some elements each are the sum of all of them
pub total-sum_of : (side : Part → Tally) (elements : Part → List (List ℕ)) (parts : List Part) → AllByRecursion (λ part. side part ≡ sum_of (elements part)) parts
    → total side parts ≡ sum_of (flat_map elements parts)
total-sum_of side elements parts all = total_from side elements [] parts all
