-- One part of each epoch: behind others, how many there are, and what is left behind an epoch.
use Rattle.std.proofs.Common.{◌≡◌, ℕ, zero, suc, ◌+◌, ◌<◌, ◌≤◌, ◌⊎◌, nat_lt, true, false, List, [], ◌∷◌, ◌++◌, length, slice_get, Some, inl, inr, sym, ◌∙◌, ap, subst, filter, arith}
use Rattle.std.proofs.lemmas.Bool.{cases_lt, cond-true, cond-false}
use Rattle.std.proofs.lemmas.Bool.Decides.{nat_tests}
use Rattle.multiset_sum.specs.declared.part.Part.{Part}
use Rattle.verifier_run.specs.Order.{part_epoch, OneOfEach}
use Rattle.verifier_run.proofs.RunLaws.{all_after, one_of_each-never_falls}

pub each-append : (from mid next : ℕ) (parts more : List Part) → OneOfEach from mid parts → OneOfEach mid next more → OneOfEach from next (parts ++ more)
each-append from mid next [] more is later = subst (λ (n : ℕ). OneOfEach n next more) (sym is) later
each-append from mid next (part ∷ parts) more is later = (is.0, each-append (suc from) mid next parts more is.1 later)

pub each-count : (from next : ℕ) (parts : List Part) → OneOfEach from next parts → next ≡ from + length parts
each-count from next [] is = omega (arith, is)
each-count from next (part ∷ parts) is = omega (arith, each-count (suc from) next parts is.1)

-- the part at a place is of the epoch that is so many behind the first
pub each-at : (from next index : ℕ) (parts : List Part) (part : Part) → OneOfEach from next parts → slice_get parts index ≡ Some part → part.epoch ≡ from + index
each-at from next zero [] part is there = absurd (cc)
each-at from next (suc index) [] part is there = absurd (cc)
each-at from next zero (first ∷ parts) part is there =
    let own : first ≡ part = cc in
    let same : from ≡ from + 0 = omega arith in
    ap (λ (p : Part). p.epoch) (sym own) ∙ is.0 ∙ same
each-at from next (suc index) (first ∷ parts) part is there =
    let same : suc from + index ≡ from + suc index = omega arith in
    each-at (suc from) next index parts part is.1 there ∙ same

-- What is left behind an epoch that is sealed is one of each later one.
pub each-left : (from next through : ℕ) (parts : List Part) → OneOfEach from next parts → from ≤ suc through → suc through ≤ next
    → OneOfEach (suc through) next (filter (λ part. nat_lt through part.epoch) parts)
each-left from next through [] is begun sealed = omega (arith, is, begun, sealed)
each-left from next through (part ∷ parts) is begun sealed = by (cases_lt through from) (each-left (suc from) next through parts is.1)
  where
    left : List Part
    left = filter (λ (p : Part). nat_lt through p.epoch) parts

    by : (through < from) ⊎ (from ≤ through)
        → (suc from ≤ suc through → suc through ≤ next → OneOfEach (suc through) next left)
        → OneOfEach (suc through) next (filter (λ (p : Part). nat_lt through p.epoch) (part ∷ parts))
    by (inl first) further =
        let own : from ≡ suc through = omega (arith, first, begun) in
        let past : nat_lt through part.epoch ≡ true = grind (arith, nat_tests, is.0, own) in
        let all : left ≡ parts = all_after part_epoch through (suc from) next parts (omega (arith, own)) (one_of_each-never_falls (suc from) next parts is.1) in
        subst (OneOfEach (suc through) next) (sym (cond-true (nat_lt through part.epoch) (part ∷ left) left past ∙ ap (λ (ps : List Part). part ∷ ps) all))
        (is.0 ∙ own, subst (λ (n : ℕ). OneOfEach (suc n) next parts) own is.1)
    by (inr later) further =
        let not_past : nat_lt through part.epoch ≡ false = grind (arith, nat_tests, is.0, later) in
        subst (OneOfEach (suc through) next) (sym (cond-false (nat_lt through part.epoch) (part ∷ left) left not_past))
        (further (omega (arith, later)) sealed)
