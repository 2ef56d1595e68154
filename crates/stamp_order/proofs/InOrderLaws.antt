-- What the insertion sort does, by a test that is an order in which any two members compare.
use Rattle.std.proofs.Common.{◌≡◌, Bool, true, false, cond, List, [], ◌∷◌, ◌++◌, refl, sym, ap, ◌∙◌, filter, IsPermutation}
use Rattle.std.specs.List.{AllByRecursion}
use Rattle.std.specs.Cmp.{IsStrictWeakOrder}
use Rattle.std.proofs.lemmas.Bool.{cond_both, cond-true, cond-false}
use Rattle.std.proofs.lemmas.List.Sorted.{IsPermutation-refl, IsPermutation-trans, IsPermutation-sym, IsPermutation-cons, IsPermutation-middle}
use Rattle.stamp_order.specs.InOrder.{put_in_order, in_order, IsInOrder}

module _ {X : Type 0} where
  -- what holds of each member, holds of each as far as it follows
  pub every-weaker : (P Q : X → Type 0) → ((x : X) → P x → Q x) → (xs : List X) → AllByRecursion P xs → AllByRecursion Q xs
  every-weaker P Q weaker [] all = tt
  every-weaker P Q weaker (x ∷ xs) all = (weaker x all.0, every-weaker P Q weaker xs all.1)

  -- and of each that a filter keeps
  pub every-filter : (P : X → Type 0) (p : X → Bool) (xs : List X) → AllByRecursion P xs → AllByRecursion P (filter p xs)
  every-filter P p [] all = tt
  every-filter P p (x ∷ xs) all = cond_both (p x) (x ∷ filter p xs) (filter p xs) (AllByRecursion P) (λ _. (all.0, every-filter P p xs all.1)) (λ _. every-filter P p xs all.1)

  -- and of each of two lists
  pub every-append : (P : X → Type 0) (xs ys : List X) → AllByRecursion P xs → AllByRecursion P ys → AllByRecursion P (xs ++ ys)
  every-append P [] ys some others = others
  every-append P (x ∷ xs) ys some others = (some.0, every-append P xs ys some.1 others)

module _ {X : Type 0} (lt : X → X → Bool) where
  -- one member more
  every-put : (P : X → Type 0) (x : X) (ys : List X) → P x → AllByRecursion P ys → AllByRecursion P (put_in_order lt x ys)
  every-put P x [] own all = (own, tt)
  every-put P x (y ∷ ys) own all =
      cond_both (lt y x) (y ∷ put_in_order lt x ys) (x ∷ y ∷ ys) (AllByRecursion P) (λ _. (all.0, every-put P x ys own all.1)) (λ _. (own, all))

  pub every-in_order : (P : X → Type 0) (xs : List X) → AllByRecursion P xs → AllByRecursion P (in_order lt xs)
  every-in_order P [] all = tt
  every-in_order P (x ∷ xs) all = every-put P x (in_order lt xs) all.0 (every-in_order P xs all.1)

  -- what comes after nothing goes in front
  pub put-front : (x : X) (ys : List X) → AllByRecursion (λ y. lt y x ≡ false) ys → put_in_order lt x ys ≡ x ∷ ys
  put-front x [] all = refl
  put-front x (y ∷ ys) all = cond-false (lt y x) _ _ all.0

  -- a list in order stays as it is
  pub in_order-fixed : (xs : List X) → IsInOrder lt xs → in_order lt xs ≡ xs
  in_order-fixed [] h = refl
  in_order-fixed (x ∷ xs) h = ap (put_in_order lt x) (in_order-fixed xs h.1) ∙ put-front x xs h.0

  put-permutation : (x : X) (ys : List X) → IsPermutation (x ∷ ys) (put_in_order lt x ys)
  put-permutation x [] = IsPermutation-refl (x ∷ [])
  put-permutation x (y ∷ ys) =
      cond_both (lt y x) (y ∷ put_in_order lt x ys) (x ∷ y ∷ ys) (IsPermutation (x ∷ y ∷ ys))
      (λ _. IsPermutation-trans _ _ _ (IsPermutation-sym _ _ (IsPermutation-middle (y ∷ []) x ys)) (IsPermutation-cons y _ _ (put-permutation x ys)))
      (λ _. IsPermutation-refl (x ∷ y ∷ ys))

  -- the members are the same, each as often
  pub in_order-permutation : (xs : List X) → IsPermutation xs (in_order lt xs)
  in_order-permutation [] = IsPermutation-refl []
  in_order-permutation (x ∷ xs) =
      IsPermutation-trans _ _ _ (IsPermutation-cons x xs (in_order lt xs) (in_order-permutation xs)) (put-permutation x (in_order lt xs))

  -- a member that a filter drops leaves no trace
  put-dropped : (p : X → Bool) (x : X) → p x ≡ false → (ys : List X) → filter p (put_in_order lt x ys) ≡ filter p ys
  put-dropped p x drops [] = cond-false (p x) _ _ drops
  put-dropped p x drops (y ∷ ys) =
      cond_both (lt y x) (y ∷ put_in_order lt x ys) (x ∷ y ∷ ys) (λ zs. filter p zs ≡ filter p (y ∷ ys))
      (λ _. ap (λ zs. cond (p y) (y ∷ zs) zs) (put-dropped p x drops ys))
      (λ _. cond-false (p x) _ _ drops)

module _ {X : Type 0} (lt : X → X → Bool) (o : IsStrictWeakOrder lt) where
  -- what comes after nothing of a list, comes after nothing that follows it
  none_before-more : (x y : X) (ys : List X) → lt y x ≡ false → AllByRecursion (λ z. lt z y ≡ false) ys → AllByRecursion (λ z. lt z x ≡ false) ys
  none_before-more x y ys after all = every-weaker (λ z. lt z y ≡ false) (λ z. lt z x ≡ false) (λ z below. o.chain z y x below after) ys all

  put-sorts : (x : X) (ys : List X) → IsInOrder lt ys → IsInOrder lt (put_in_order lt x ys)
  put-sorts x [] h = (tt, tt)
  put-sorts x (y ∷ ys) h =
      cond_both (lt y x) (y ∷ put_in_order lt x ys) (x ∷ y ∷ ys) (IsInOrder lt)
      (λ first. (every-put lt (λ z. lt z y ≡ false) x ys (o.one_way y x first) h.0, put-sorts x ys h.1))
      (λ after. ((after, none_before-more x y ys after h.0), h))

  -- the members stand in order
  pub in_order-sorts : (xs : List X) → IsInOrder lt (in_order lt xs)
  in_order-sorts [] = tt
  in_order-sorts (x ∷ xs) = put-sorts x (in_order lt xs) (in_order-sorts xs)

  -- a filter of a list in order is in order
  pub IsInOrder-filter : (p : X → Bool) (xs : List X) → IsInOrder lt xs → IsInOrder lt (filter p xs)
  IsInOrder-filter p [] h = tt
  IsInOrder-filter p (x ∷ xs) h =
      cond_both (p x) (x ∷ filter p xs) (filter p xs) (IsInOrder lt)
      (λ _. (every-filter (λ y. lt y x ≡ false) p xs h.0, IsInOrder-filter p xs h.1))
      (λ _. IsInOrder-filter p xs h.1)

  -- a member that a filter keeps goes to the same place among those that it keeps
  put-kept : (p : X → Bool) (x : X) → p x ≡ true → (ys : List X) → IsInOrder lt ys → filter p (put_in_order lt x ys) ≡ put_in_order lt x (filter p ys)
  put-kept p x keeps [] h = cond-true (p x) _ _ keeps
  put-kept p x keeps (y ∷ ys) h =
      cond_both (lt y x) (y ∷ put_in_order lt x ys) (x ∷ y ∷ ys) (λ zs. filter p zs ≡ put_in_order lt x (filter p (y ∷ ys)))
      (λ first. cond_both (p y) (y ∷ filter p ys) (filter p ys) (λ zs. cond (p y) (y ∷ filter p (put_in_order lt x ys)) (filter p (put_in_order lt x ys)) ≡ put_in_order lt x zs)
      (λ own. cond-true (p y) _ _ own ∙ ap (λ zs. y ∷ zs) (put-kept p x keeps ys h.1) ∙ sym (cond-true (lt y x) _ _ first))
      (λ own. cond-false (p y) _ _ own ∙ put-kept p x keeps ys h.1))
      (λ after. cond-true (p x) _ _ keeps ∙ sym (put-front lt x (filter p (y ∷ ys)) (every-filter (λ z. lt z x ≡ false) p (y ∷ ys) (after, none_before-more x y ys after h.0))))

  -- what a filter keeps, in order, is what it keeps of the list in order
  pub in_order-filter : (p : X → Bool) (xs : List X) → filter p (in_order lt xs) ≡ in_order lt (filter p xs)
  in_order-filter p [] = refl
  in_order-filter p (x ∷ xs) =
      cond_both (p x) (x ∷ filter p xs) (filter p xs) (λ zs. filter p (put_in_order lt x (in_order lt xs)) ≡ in_order lt zs)
      (λ keeps. put-kept p x keeps (in_order lt xs) (in_order-sorts xs) ∙ ap (put_in_order lt x) (in_order-filter p xs))
      (λ drops. put-dropped lt p x drops (in_order lt xs) ∙ in_order-filter p xs)

  -- what a filter keeps stays as it stood, where it stood in order
  pub in_order-keeps : (p : X → Bool) (xs : List X) → IsInOrder lt (filter p xs) → filter p (in_order lt xs) ≡ filter p xs
  in_order-keeps p xs h = in_order-filter p xs ∙ in_order-fixed lt (filter p xs) h
