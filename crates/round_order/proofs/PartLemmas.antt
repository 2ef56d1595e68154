-- Lists that are joined: what is picked out of them is one of them.
use Rattle.std.proofs.Common.{◌≡◌, ◌≢◌, ℕ, zero, suc, ◌<◌, Bool, true, false, List, [], ◌∷◌, ◌++◌, map, length, filter, get_or, refl, ◌∙◌, ap, append-nil, arith}
use Rattle.std.specs.List.{flat_map, AllByRecursion}
use Rattle.std.proofs.lemmas.Bool.{cond-true, cond-false}
use Rattle.std.proofs.lemmas.List.Elements.{filter-append}
use Rattle.stamp_order.proofs.InOrderLaws.{every-append}

module _ {X : Type 0} where
  -- a list of lists, joined
  abbrev pub joined_up : List (List X) → List X
  joined_up lists = flat_map (λ xs. xs) lists

  -- what holds of each member of each list
  pub every-joined : (P : X → Type 0) (lists : List (List X)) → ((i : ℕ) → AllByRecursion P (get_or lists i [])) → AllByRecursion P (joined_up lists)
  every-joined P [] all = tt
  every-joined P (xs ∷ lists) all = every-append P xs (joined_up lists) (all 0) (every-joined P lists (λ i. all (suc i)))

  every-back : (P : X → Type 0) (xs ys : List X) → AllByRecursion P (xs ++ ys) → AllByRecursion P ys
  every-back P [] ys all = all
  every-back P (x ∷ xs) ys all = every-back P xs ys all.1

  every-front : (P : X → Type 0) (xs ys : List X) → AllByRecursion P (xs ++ ys) → AllByRecursion P xs
  every-front P [] ys all = tt
  every-front P (x ∷ xs) ys all = (all.0, every-front P xs ys all.1)

  pub every-part : (P : X → Type 0) (lists : List (List X)) (i : ℕ) → AllByRecursion P (joined_up lists) → AllByRecursion P (get_or lists i [])
  every-part P [] i all = tt
  every-part P (xs ∷ lists) zero all = every-front P xs (joined_up lists) all
  every-part P (xs ∷ lists) (suc i) all = every-part P lists i (every-back P xs (joined_up lists) all)

  -- a test that none passes, or all
  pub filter-none : (p : X → Bool) (xs : List X) → AllByRecursion (λ x. p x ≡ false) xs → filter p xs ≡ []
  filter-none p [] all = refl
  filter-none p (x ∷ xs) all = cond-false (p x) _ _ all.0 ∙ filter-none p xs all.1

  pub filter-all : (p : X → Bool) (xs : List X) → AllByRecursion (λ x. p x ≡ true) xs → filter p xs ≡ xs
  filter-all p [] all = refl
  filter-all p (x ∷ xs) all = cond-true (p x) _ _ all.0 ∙ ap (λ zs. x ∷ zs) (filter-all p xs all.1)

  -- Where only one of the lists has members that pass, those are picked.
  pub picked : (p : X → Bool) (lists : List (List X)) (i : ℕ) → ((k : ℕ) → k ≢ i → AllByRecursion (λ x. p x ≡ false) (get_or lists k []))
      → filter p (joined_up lists) ≡ filter p (get_or lists i [])
  picked p [] i others = refl
  picked p (xs ∷ lists) zero others =
      filter-append p xs (joined_up lists)
      ∙ ap (λ zs. filter p xs ++ zs) (filter-none p (joined_up lists) (every-joined (λ x. p x ≡ false) lists (λ k. others (suc k) (λ same. omega (arith, same)))))
      ∙ append-nil (filter p xs)
  picked p (xs ∷ lists) (suc i) others =
      filter-append p xs (joined_up lists)
      ∙ ap (λ zs. zs ++ filter p (joined_up lists)) (filter-none p xs (others 0 (λ same. omega (arith, same))))
      ∙ picked p lists i (λ k apart. others (suc k) (λ same. apart (omega (arith, same))))

  -- a list of lists of lists, joined
  pub joined_twice : (groups : List (List (List X))) → flat_map joined_up groups ≡ joined_up (map joined_up groups)
  joined_twice [] = refl
  joined_twice (lists ∷ groups) = ap (λ zs. joined_up lists ++ zs) (joined_twice groups)

  pub get_or-joined : (groups : List (List (List X))) (s : ℕ) → get_or (map joined_up groups) s [] ≡ joined_up (get_or groups s [])
  get_or-joined [] s = refl
  get_or-joined (lists ∷ groups) zero = refl
  get_or-joined (lists ∷ groups) (suc s) = get_or-joined groups s

module _ {C E : Type 0} (P : E → Type 0) (f : C → List E) where
  -- a content's part of what holds of all that comes of contents
  pub content_part : (contents : List C) (seat : ℕ) (d : C) → seat < length contents
      → AllByRecursion P (flat_map f contents) → AllByRecursion P (f (get_or contents seat d))
  content_part [] seat d within all = absurd (omega (arith, within))
  content_part (content ∷ contents) zero d within all = every-front P (f content) (flat_map f contents) all
  content_part (content ∷ contents) (suc seat) d within all =
      content_part contents seat d (omega (arith, within)) (every-back P (f content) (flat_map f contents) all)
