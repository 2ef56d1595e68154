-- Members that come after all others go to the end of a list in order.
use Rattle.std.proofs.Common.{◌≡◌, Bool, true, false, cond, List, [], ◌∷◌, ◌++◌, refl, sym, ◌∙◌, ap, append-nil}
use Rattle.std.specs.List.{AllByRecursion}
use Rattle.std.proofs.lemmas.Bool.{cond-true}
use Rattle.stamp_order.specs.InOrder.{put_in_order, in_order, IsInOrder}
use Rattle.stamp_order.proofs.InOrderLaws.{every-in_order, put-front}

module _ {X : Type 0} (before : X → X → Bool) where
  -- behind all that come before it
  put-past : (x : X) (ys zs : List X) → AllByRecursion (λ y. before y x ≡ true) ys
      → put_in_order before x (ys ++ zs) ≡ ys ++ put_in_order before x zs
  put-past x [] zs all = refl
  put-past x (y ∷ ys) zs all =
      cond-true (before y x) _ _ all.0 ∙ ap (λ rest. y ∷ rest) (put-past x ys zs all.1)

  -- in front of what doesn't come before it
  put-short : (x : X) (ys zs : List X) → AllByRecursion (λ z. before z x ≡ false) zs
      → put_in_order before x (ys ++ zs) ≡ put_in_order before x ys ++ zs
  put-short x [] zs all = put-front before x zs all
  put-short x (y ∷ ys) zs all = go (before y x) (put-short x ys zs all)
    where
      go : (b : Bool) → put_in_order before x (ys ++ zs) ≡ put_in_order before x ys ++ zs
          → cond b (y ∷ put_in_order before x (ys ++ zs)) (x ∷ y ∷ ys ++ zs) ≡ cond b (y ∷ put_in_order before x ys) (x ∷ y ∷ ys) ++ zs
      go true rest = ap (λ more. y ∷ more) rest
      go false rest = refl

  -- all of these come after all of those
  abbrev pub AreAfter : List X → List X → Type 0
  AreAfter lasts xs = AllByRecursion (λ x. AllByRecursion (λ last. (before x last ≡ true) × (before last x ≡ false)) lasts) xs

  parts : (x : X) (lasts : List X) → AllByRecursion (λ last. (before x last ≡ true) × (before last x ≡ false)) lasts
      → AllByRecursion (λ last. before last x ≡ false) lasts
  parts x [] all = tt
  parts x (last ∷ lasts) all = (all.0.1, parts x lasts all.1)

  head_after : (last : X) (lasts xs : List X) → AreAfter (last ∷ lasts) xs → AllByRecursion (λ x. before x last ≡ true) xs
  head_after last lasts [] all = tt
  head_after last lasts (x ∷ xs) all = (all.0.0.0, head_after last lasts xs all.1)

  rest_after : (last : X) (lasts xs : List X) → AreAfter (last ∷ lasts) xs → AreAfter lasts xs
  rest_after last lasts [] all = tt
  rest_after last lasts (x ∷ xs) all = (all.0.1, rest_after last lasts xs all.1)

  -- Those that come after all others, and stand in order, stand at the end.
  pub in_order-last : (xs lasts ys : List X) → IsInOrder before lasts → AreAfter lasts (xs ++ ys)
      → in_order before (xs ++ (lasts ++ ys)) ≡ in_order before (xs ++ ys) ++ lasts
  in_order-last [] [] ys sorted after = sym (append-nil (in_order before ys))
  in_order-last [] (last ∷ lasts) ys sorted after =
      ap (put_in_order before last) (in_order-last [] lasts ys sorted.1 (rest_after last lasts ys after))
      ∙ put-past last (in_order before ys) lasts
      (every-in_order before (λ x. before x last ≡ true) ys (head_after last lasts ys after))
      ∙ ap (λ more. in_order before ys ++ more) (put-front before last lasts sorted.0)
  in_order-last (x ∷ xs) lasts ys sorted after =
      ap (put_in_order before x) (in_order-last xs lasts ys sorted after.1)
      ∙ put-short x (in_order before (xs ++ ys)) lasts (parts x lasts after.0)
