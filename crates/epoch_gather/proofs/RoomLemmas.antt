-- There is room for the sums of an epoch: it has at most one part of each verifier, and each is small.
use Rattle.std.proofs.Common.{◌≡◌, ℕ, zero, suc, ◌+◌, ◌*◌, ◌^◌, ◌<◌, ◌≤◌, ◌==◌, Bool, true, false, eqb, cond, List, [], ◌∷◌, ◌++◌, length, take, get_or, map, filter, fold, All, refl, sym, ap, ◌∙◌, subst, ⊎_elim, arith}
use Rattle.std.specs.List.{AllByRecursion, IsDistinct, list_any}
use Rattle.std.proofs.lemmas.Bool.{cond_both, cond-true, or_cases, eqb-true, eq-eqb}
use Rattle.std.proofs.lemmas.Bool.Decides.{nat_tests}
use Rattle.std.proofs.lemmas.List.Elements.{recursion_from_All, All-take, filter_more}
use Rattle.std.proofs.lemmas.List.Sums.{fold_push}
use Rattle.std.proofs.lemmas.Map.Steps.{length-le_from_distinct_below}
use Rattle.multiset_sum.specs.declared.part.Part.{Part}
use Rattle.multiset_sum.specs.Tally.{Tally}
use Rattle.multiset_sum.specs.Sum.{zero_sum, joined}
use Rattle.epoch_gather.specs.Parts.{is_same_part, of_epoch, total}

-- what differs pairwise still does among the first of them, and among those that a filter keeps
every-take : {X : Type 0} (P : X → Type 0) (n : ℕ) (xs : List X) → AllByRecursion P xs → AllByRecursion P (take n xs)
every-take P zero xs all = tt
every-take P (suc n) [] all = tt
every-take P (suc n) (x ∷ xs) all = (all.0, every-take P n xs all.1)

every-filter : {X : Type 0} (P : X → Type 0) (p : X → Bool) (xs : List X) → AllByRecursion P xs → AllByRecursion P (filter p xs)
every-filter P p [] all = tt
every-filter P p (x ∷ xs) all = cond_both (p x) (x ∷ filter p xs) (filter p xs) (AllByRecursion P) (λ _. (all.0, every-filter P p xs all.1)) (λ _. every-filter P p xs all.1)

IsDistinct-take : {X : Type 0} (same : X → X → Bool) (n : ℕ) (xs : List X) → IsDistinct same xs → IsDistinct same (take n xs)
unfolding IsDistinct
IsDistinct-take same zero xs h = tt
IsDistinct-take same (suc n) [] h = tt
IsDistinct-take same (suc n) (x ∷ xs) h = (every-take (λ y. same x y ≡ false) n xs h.0, IsDistinct-take same n xs h.1)

IsDistinct-filter : {X : Type 0} (same : X → X → Bool) (p : X → Bool) (xs : List X) → IsDistinct same xs → IsDistinct same (filter p xs)
unfolding IsDistinct
IsDistinct-filter same p [] h = tt
IsDistinct-filter same p (x ∷ xs) h =
    cond_both (p x) (x ∷ filter p xs) (filter p xs) (IsDistinct same)
    (λ _. (every-filter (λ y. same x y ≡ false) p xs h.0, IsDistinct-filter same p xs h.1))
    (λ _. IsDistinct-filter same p xs h.1)

every-passes : {X : Type 0} (p : X → Bool) (xs : List X) → AllByRecursion (λ x. p x ≡ true) (filter p xs)
every-passes p [] = tt
every-passes p (x ∷ xs) = cond_both (p x) (x ∷ filter p xs) (filter p xs) (AllByRecursion (λ y. p y ≡ true)) (λ own. (own, every-passes p xs)) (λ _. every-passes p xs)

-- ---- how many parts an epoch has

verifiers_of : List Part → List ℕ
verifiers_of parts = map (λ part. part.verifier) parts

other_verifier : (epoch : ℕ) (part other : Part) → (part.epoch == epoch) ≡ true → (other.epoch == epoch) ≡ true → is_same_part part other ≡ false → eqb part.verifier other.verifier ≡ false
other_verifier epoch part other own its apart = grind (arith, nat_tests)

others_differ : (epoch : ℕ) (part : Part) → (part.epoch == epoch) ≡ true → (parts : List Part) → AllByRecursion (λ other. (other.epoch == epoch) ≡ true) parts → AllByRecursion (λ other. is_same_part part other ≡ false) parts
    → AllByRecursion (λ verifier. eqb part.verifier verifier ≡ false) (verifiers_of parts)
unfolding verifiers_of
others_differ epoch part own [] all apart = tt
others_differ epoch part own (other ∷ parts) all apart = (other_verifier epoch part other own all.0 apart.0, others_differ epoch part own parts all.1 apart.1)

-- parts of one epoch are of different verifiers
verifiers_differ : (epoch : ℕ) (parts : List Part) → AllByRecursion (λ part. (part.epoch == epoch) ≡ true) parts → IsDistinct is_same_part parts → IsDistinct eqb (verifiers_of parts)
unfolding IsDistinct verifiers_of
verifiers_differ epoch [] all apart = tt
verifiers_differ epoch (part ∷ parts) all apart = (others_differ epoch part all.0 parts all.1 apart.0, verifiers_differ epoch parts all.1 apart.1)

verifier_below : (n q : ℕ) (parts : List Part) → AllByRecursion (λ part. part.verifier < n) parts → list_any (eqb q) (verifiers_of parts) ≡ true → q < n
unfolding verifiers_of
verifier_below n q [] all any = absurd (cc)
verifier_below n q (part ∷ parts) all any =
    ⊎_elim (λ here. subst (λ v. v < n) (sym (eqb-true q part.verifier here)) all.0) (λ there. verifier_below n q parts all.1 there) (or_cases (eqb q part.verifier) _ any)

length-verifiers_of : (parts : List Part) → length (verifiers_of parts) ≡ length parts
unfolding verifiers_of
length-verifiers_of [] = refl
length-verifiers_of (part ∷ parts) = ap suc (length-verifiers_of parts)

-- an epoch has at most as many parts as there are verifiers
few_parts : (n epoch : ℕ) (parts : List Part) → AllByRecursion (λ part. part.verifier < n) parts → IsDistinct is_same_part parts → length (of_epoch epoch parts) ≤ n
few_parts n epoch parts below once =
    let own = every-passes (λ (part : Part). part.epoch == epoch) parts in
    let apart = IsDistinct-filter is_same_part (λ part. part.epoch == epoch) parts once in
    let all = every-filter (λ part. part.verifier < n) (λ part. part.epoch == epoch) parts below in
    let bound = length-le_from_distinct_below (verifiers_of (of_epoch epoch parts)) n (verifiers_differ epoch (of_epoch epoch parts) own apart) (λ q any. verifier_below n q (of_epoch epoch parts) all any) in
    subst (λ k. k ≤ n) (length-verifiers_of (of_epoch epoch parts)) bound

-- ---- what they come to

-- so many parts with a count below 2^25 come to no more than this
count_from : (side : Part → Tally) (sum : Tally) (parts : List Part) → AllByRecursion (λ part. (side part).count < 2 ^ 25) parts
    → (fold (λ s part. joined s (side part)) sum parts).count ≤ sum.count + length parts * 33554431
count_from side sum [] small = omega arith
count_from side sum (part ∷ parts) small =
    let rest = count_from side (joined sum (side part)) parts small.1 in
    let own : (side part).count ≤ 33554431 = omega (arith, small.0) in
    omega (arith, rest, own)

total_more : (side : Part → Tally) (epoch : ℕ) (parts : List Part) (i : ℕ) (part : Part) → i < length parts → part ≡ get_or parts i part → part.epoch ≡ epoch
    → total side (of_epoch epoch (take (i + 1) parts)) ≡ joined (total side (of_epoch epoch (take i parts))) (side part)
total_more side epoch parts i part within is own =
    ap (total side) (filter_more (λ p. p.epoch == epoch) parts i part within
    ∙ ap (λ (p : Part). of_epoch epoch (take i parts) ++ cond (p.epoch == epoch) (p ∷ []) []) (sym is)
    ∙ ap (λ zs. of_epoch epoch (take i parts) ++ zs) (cond-true (part.epoch == epoch) (part ∷ []) [] (eq-eqb part.epoch epoch own)))
    ∙ fold_push (λ s p. joined s (side p)) zero_sum (of_epoch epoch (take i parts)) part

-- the next part can be joined
pub room_for : (side : Part → Tally) (n epoch : ℕ) (parts : List Part) → n ≤ 64 → All (λ part. part.verifier < n) parts → IsDistinct is_same_part parts → All (λ part. (side part).count < 2 ^ 25) parts
    → (i : ℕ) (part : Part) → i < length parts → part ≡ get_or parts i part → part.epoch ≡ epoch
    → (total side (of_epoch epoch (take i parts))).count + (side part).count < 2147483648
room_for side n epoch parts most below once small i part within is own =
    let front = take (i + 1) parts in
    let Below : Part → Type 0 = λ (p : Part). p.verifier < n in
    let Small : Part → Type 0 = λ (p : Part). (side p).count < 2 ^ 25 in
    let few = few_parts n epoch front (recursion_from_All Below front (All-take Below (i + 1) parts below)) (IsDistinct-take is_same_part (i + 1) parts once) in
    let bound = count_from side zero_sum (of_epoch epoch front) (every-filter Small (λ p. p.epoch == epoch) front (recursion_from_All Small front (All-take Small (i + 1) parts small))) in
    let more = ap (λ (s : Tally). s.count) (total_more side epoch parts i part within is own) in
    omega (arith, few, bound, more)
