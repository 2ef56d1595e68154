-- Lists whose members change one after another, and lists that are taken apart from the front on.
use Rattle.std.proofs.Common.{◌≡◌, ◌≢◌, ◌⊎◌, inl, inr, ℕ, zero, suc, ◌<◌, ◌≤◌, List, [], ◌∷◌, ◌++◌, length, get_or, set, drop, refl, sym, ◌∙◌, ap, subst, arith, length-append}
use Rattle.std.specs.List.{AllByRecursion}
use Rattle.std.proofs.Math.ListN.{get_or-append}
use Rattle.std.proofs.Math.Seq.{drop-cons, drop-nil, get_or-append_seam}
use Rattle.std.proofs.lemmas.Bool.{cases_eq}
use Rattle.std.proofs.lemmas.List.{get_or-set_same, get_or-set_other}

-- each member before a place has become what it is to be, and the others are as they were
pub record Changed {X : Type 0} (Becomes : ℕ → X → X → Type 0) (place : ℕ) (olds news : List X) : Type 0 where
  pub done : (i : ℕ) (d : X) → i < place → Becomes i (get_or olds i d) (get_or news i d)
  pub rest : (i : ℕ) (d : X) → place ≤ i → get_or news i d ≡ get_or olds i d

-- the next member too
pub changed-next : {X : Type 0} (Becomes : ℕ → X → X → Type 0) (place next : ℕ) (olds nows : List X) (new : X) → Changed Becomes place olds nows → next ≡ suc place
    → place < length nows → ((d : X) → Becomes place (get_or olds place d) new) → Changed Becomes next olds (set nows place new)
changed-next {X} Becomes place next olds nows new so_far is there becomes = record {
  done = λ i d below. done i d below (cases_eq i place);
  rest = λ i d above. get_or-set_other nows place i new d (λ same. omega (arith, above, is, same)) ∙ so_far.rest i d (omega (arith, above, is));
}
  where
    done : (i : ℕ) (d : X) → i < next → (i ≡ place) ⊎ (i ≢ place) → Becomes i (get_or olds i d) (get_or (set nows place new) i d)
    done i d below (inl same) =
        subst (λ (n : ℕ). Becomes n (get_or olds n d) (get_or (set nows place new) n d)) (sym same)
        (subst (Becomes place (get_or olds place d)) (sym (get_or-set_same nows place new d there)) (becomes d))
    done i d below (inr other) =
        subst (Becomes i (get_or olds i d)) (sym (get_or-set_other nows place i new d other))
        (so_far.done i d (let apart : i ≢ place = other in omega (arith, below, is, apart)))

-- what each becomes may be said otherwise
pub changed-so : {X : Type 0} (Becomes Became : ℕ → X → X → Type 0) (place : ℕ) (olds news : List X) → Changed Becomes place olds news
    → ((i : ℕ) (old new : X) → i < place → Becomes i old new → Became i old new) → Changed Became place olds news
changed-so Becomes Became place olds news so_far so = record { done = λ i d below. so i (get_or olds i d) (get_or news i d) below (so_far.done i d below); rest = so_far.rest }

-- what is left behind a place begins with the member there
pub left-within : {X : Type 0} (xs rest : List X) (place : ℕ) (x : X) → drop place xs ≡ x ∷ rest → place < length xs
left-within {X} [] rest place x left = let bad : ◌≡◌ {A = List X} [] (x ∷ rest) = sym (drop-nil {A = X} place) ∙ left in absurd (cc)
left-within (y ∷ xs) rest zero x left = omega arith
left-within (y ∷ xs) rest (suc place) x left = let within = left-within xs rest place x left in omega (arith, within)

pub next-left : {X : Type 0} (xs rest : List X) (place next : ℕ) (x d : X) → drop place xs ≡ x ∷ rest → next ≡ suc place → (get_or xs place d ≡ x) × (drop next xs ≡ rest)
next-left {X} xs rest place next x d left is =
    let both : get_or xs place d ∷ drop (suc place) xs ≡ x ∷ rest = sym (drop-cons xs place d (left-within xs rest place x left)) ∙ left in
    let tail : drop (suc place) xs ≡ rest = cc in (
      cc,
      ap (λ (n : ℕ). drop n xs) is ∙ tail,
    )

-- ---- one member more

-- what stands at a place of a list with one member more
pub more-at : {X : Type 0} (all xs : List X) (x d : X) (place : ℕ) → all ≡ xs ++ x ∷ [] → place < length xs → get_or all place d ≡ get_or xs place d
more-at {X} all xs x d place is there = ap (λ (ys : List X). get_or ys place d) is ∙ get_or-append xs (x ∷ []) d place there

pub more-last : {X : Type 0} (all xs : List X) (x d : X) (place : ℕ) → all ≡ xs ++ x ∷ [] → place ≡ length xs → get_or all place d ≡ x
more-last {X} all xs x d place is last = ap (λ (ys : List X). get_or ys place d) is ∙ ap (λ (n : ℕ). get_or (xs ++ x ∷ []) n d) last ∙ get_or-append_seam xs x [] d

pub more-length : {X : Type 0} (all xs : List X) (x : X) → all ≡ xs ++ x ∷ [] → length all ≡ suc (length xs)
more-length {X} all xs x is = let size = length-append xs (x ∷ []) in let same = ap (λ (ys : List X). length ys) is in omega (arith, size, same)

-- what holds of all and of one more
pub all-more : {X : Type 0} (P : X → Type 0) (all xs : List X) (x : X) → AllByRecursion P xs → all ≡ xs ++ x ∷ [] → P x → AllByRecursion P all
all-more {X} P all xs x each is own = subst (AllByRecursion P) (sym is) (go xs each)
  where
    go : (ys : List X) → AllByRecursion P ys → AllByRecursion P (ys ++ x ∷ [])
    go [] each' = (own, tt)
    go (y ∷ ys) each' = (each'.0, go ys each'.1)
