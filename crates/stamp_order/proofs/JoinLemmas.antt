-- Putting a list in order goes part by part: a part that comes before the rest, and each member front a block.
use Rattle.std.proofs.Common.{◌≡◌, Bool, true, false, cond, not, List, [], ◌∷◌, ◌++◌, refl, sym, ap, ◌∙◌, filter, flat_map}
use Rattle.std.specs.List.{AllByRecursion}
use Rattle.std.specs.List.Sorted.{ties}
use Rattle.std.specs.Cmp.{IsStrictWeakOrder}
use Rattle.std.proofs.lemmas.Bool.{cond_both, cond-true, cond-false}
use Rattle.std.proofs.lemmas.List.Elements.{filter-append}
use Rattle.stamp_order.specs.InOrder.{put_in_order, in_order, IsInOrder}
use Rattle.stamp_order.proofs.InOrderLaws.{every-weaker, every-append, every-in_order, put-front, in_order-sorts, in_order-keeps}
use Rattle.stamp_order.proofs.OneOrderLaws.{every-passes, one_order, in_order-ties, untied, not_before_itself}

module _ {X : Type 0} (lt : X → X → Bool) where
  -- what comes after nothing of the second part goes into the first
  put-left : (x : X) (front back : List X) → AllByRecursion (λ b. lt b x ≡ false) back → put_in_order lt x (front ++ back) ≡ put_in_order lt x front ++ back
  put-left x [] back all = put-front lt x back all
  put-left x (a ∷ front) back all =
      cond_both (lt a x) (a ∷ put_in_order lt x front) (x ∷ a ∷ front) (λ zs. cond (lt a x) (a ∷ put_in_order lt x (front ++ back)) (x ∷ a ∷ (front ++ back)) ≡ zs ++ back)
      (λ first. cond-true (lt a x) _ _ first ∙ ap (λ zs. a ∷ zs) (put-left x front back all))
      (λ after. cond-false (lt a x) _ _ after)

  -- what comes after all of the first part goes into the second
  put-right : (x : X) (front back : List X) → AllByRecursion (λ a. lt a x ≡ true) front → put_in_order lt x (front ++ back) ≡ front ++ put_in_order lt x back
  put-right x [] back all = refl
  put-right x (a ∷ front) back all = cond-true (lt a x) _ _ all.0 ∙ ap (λ zs. a ∷ zs) (put-right x front back all.1)

  -- two parts in order, where none of the second comes before one of the first
  pub IsInOrder-append : (front back : List X) → IsInOrder lt front → IsInOrder lt back → AllByRecursion (λ a. AllByRecursion (λ b. lt b a ≡ false) back) front → IsInOrder lt (front ++ back)
  IsInOrder-append [] back h k all = k
  IsInOrder-append (a ∷ front) back h k all = (every-append (λ b. lt b a ≡ false) front back h.0 all.0, IsInOrder-append front back h.1 k all.1)

module _ {X : Type 0} (lt : X → X → Bool) (o : IsStrictWeakOrder lt) where
  dropped : (b : Bool) → not b ≡ true → b ≡ false
  dropped true e = sym e
  dropped false e = refl

  -- where all that pass a test come before all that don't: first those, then these
  pub in_order-split : (p : X → Bool) → ((x y : X) → p x ≡ true → p y ≡ false → lt x y ≡ true) → (xs : List X)
      → in_order lt xs ≡ in_order lt (filter p xs) ++ in_order lt (filter (λ x. not (p x)) xs)
  in_order-split p first [] = refl
  in_order-split p first (x ∷ xs) = ap (put_in_order lt x) (in_order-split p first xs) ∙ go (p x) refl
    where
      go : (b : Bool) → p x ≡ b
          → put_in_order lt x (in_order lt (filter p xs) ++ in_order lt (filter (λ y. not (p y)) xs)) ≡ in_order lt (cond (p x) (x ∷ filter p xs) (filter p xs)) ++ in_order lt (cond (not (p x)) (x ∷ filter (λ y. not (p y)) xs) (filter (λ y. not (p y)) xs))
      go true is = rw is (put-left lt x _ _ (every-in_order lt (λ y. lt y x ≡ false) _ (every-weaker (λ y. not (p y) ≡ true) (λ y. lt y x ≡ false) (λ y drops. o.one_way x y (first x y is (dropped (p y) drops))) _ (every-passes (λ y. not (p y)) xs))))
      go false is = rw is (put-right lt x _ _ (every-in_order lt (λ y. lt y x ≡ true) _ (every-weaker (λ y. p y ≡ true) (λ y. lt y x ≡ true) (λ y keeps. first y x keeps is) _ (every-passes p xs))))

-- Each x stands for a block of members that all have its key.
module _ {X Y K : Type 0} (before : K → K → Bool) (o : IsStrictWeakOrder before) (key : X → K) (key' : Y → K) (block : X → List Y) where
  by_key : IsStrictWeakOrder (λ x y. before (key x) (key y))
  by_key = record { one_way = λ x y. o.one_way (key x) (key y); chain = λ x y z. o.chain (key x) (key y) (key z) }

  by_key' : IsStrictWeakOrder (λ x y. before (key' x) (key' y))
  by_key' = record { one_way = λ x y. o.one_way (key' x) (key' y); chain = λ x y z. o.chain (key' x) (key' y) (key' z) }

  -- members whose key ties with one stand front they stood
  keeps_ties : (k : K) (xs : List X) → filter (λ x. ties before k (key x)) (in_order (λ x y. before (key x) (key y)) xs) ≡ filter (λ x. ties before k (key x)) xs
  keeps_ties k xs = in_order-keeps (λ x y. before (key x) (key y)) by_key (λ x. ties before k (key x)) xs (all_tied _ (every-passes (λ x. ties before k (key x)) xs))
    where
      all_tied : (ys : List X) → AllByRecursion (λ x. ties before k (key x) ≡ true) ys → IsInOrder (λ x y. before (key x) (key y)) ys
      all_tied [] all = tt
      all_tied (y ∷ ys) all = (
        every-weaker (λ z. ties before k (key z) ≡ true) (λ z. before (key z) (key y) ≡ false) (λ z tie. o.chain (key z) k (key y) (untied before o k (key z) tie).1 (untied before o k (key y) all.0).0) ys all.1,
        all_tied ys all.1,
      )

  -- what holds of each member of each block
  every-flat_map : (P : Y → Type 0) (xs : List X) → AllByRecursion (λ x. AllByRecursion P (block x)) xs → AllByRecursion P (flat_map block xs)
  every-flat_map P [] all = tt
  every-flat_map P (x ∷ xs) all = every-append P (block x) (flat_map block xs) all.0 (every-flat_map P xs all.1)

  module _ (keyed : (x : X) → AllByRecursion (λ y. key' y ≡ key x) (block x)) where
    block-IsInOrder : (k : K) (ys : List Y) → AllByRecursion (λ y. key' y ≡ k) ys → IsInOrder (λ x y. before (key' x) (key' y)) ys
    block-IsInOrder k [] all = tt
    block-IsInOrder k (y ∷ ys) all = (
      every-weaker (λ z. key' z ≡ k) (λ z. before (key' z) (key' y) ≡ false) (λ z own. rw (own, all.0) (not_before_itself before o k)) ys all.1,
      block-IsInOrder k ys all.1,
    )

    flat_map-IsInOrder : (xs : List X) → IsInOrder (λ x y. before (key x) (key y)) xs → IsInOrder (λ x y. before (key' x) (key' y)) (flat_map block xs)
    flat_map-IsInOrder [] h = tt
    flat_map-IsInOrder (x ∷ xs) h =
        IsInOrder-append (λ x y. before (key' x) (key' y)) (block x) (flat_map block xs) (block-IsInOrder (key x) (block x) (keyed x)) (flat_map-IsInOrder xs h.1)
        (every-weaker (λ a. key' a ≡ key x) (λ a. AllByRecursion (λ b. before (key' b) (key' a) ≡ false) (flat_map block xs))
        (λ a own. every-flat_map (λ b. before (key' b) (key' a) ≡ false) xs
        (every-weaker (λ z. before (key z) (key x) ≡ false) (λ z. AllByRecursion (λ b. before (key' b) (key' a) ≡ false) (block z))
        (λ z after. every-weaker (λ b. key' b ≡ key z) (λ b. before (key' b) (key' a) ≡ false) (λ b same. rw (same, own) after) (block z) (keyed z)) xs h.0))
        (block x) (keyed x))

    -- a test of keys keeps all of a block or none of it
    filter-block : (q : K → Bool) (k : K) (ys : List Y) → AllByRecursion (λ y. key' y ≡ k) ys → filter (λ y. q (key' y)) ys ≡ cond (q k) ys []
    filter-block q k [] all = cond_both (q k) [] [] (λ zs. [] ≡ zs) (λ _. refl) (λ _. refl)
    filter-block q k (y ∷ ys) all =
        ap (λ w. cond (q w) (y ∷ filter (λ z. q (key' z)) ys) (filter (λ z. q (key' z)) ys)) all.0
        ∙ cond_both (q k) (y ∷ ys) [] (λ zs. cond (q k) (y ∷ filter (λ z. q (key' z)) ys) (filter (λ z. q (key' z)) ys) ≡ zs)
        (λ own. cond-true (q k) _ _ own ∙ ap (λ zs. y ∷ zs) (filter-block q k ys all.1 ∙ cond-true (q k) _ _ own))
        (λ own. cond-false (q k) _ _ own ∙ filter-block q k ys all.1 ∙ cond-false (q k) _ _ own)

    filter-flat_map : (q : K → Bool) (xs : List X) → filter (λ y. q (key' y)) (flat_map block xs) ≡ flat_map block (filter (λ x. q (key x)) xs)
    filter-flat_map q [] = refl
    filter-flat_map q (x ∷ xs) =
        filter-append (λ y. q (key' y)) (block x) (flat_map block xs)
        ∙ ap (λ zs. zs ++ filter (λ y. q (key' y)) (flat_map block xs)) (filter-block q (key x) (block x) (keyed x))
        ∙ ap (λ zs. cond (q (key x)) (block x) [] ++ zs) (filter-flat_map q xs)
        ∙ cond_both (q (key x)) (x ∷ filter (λ z. q (key z)) xs) (filter (λ z. q (key z)) xs) (λ zs. cond (q (key x)) (block x) [] ++ flat_map block (filter (λ z. q (key z)) xs) ≡ flat_map block zs)
        (λ own. ap (λ zs. zs ++ flat_map block (filter (λ z. q (key z)) xs)) (cond-true (q (key x)) _ _ own))
        (λ own. ap (λ zs. zs ++ flat_map block (filter (λ z. q (key z)) xs)) (cond-false (q (key x)) _ _ own))

    -- the blocks in order are the members of all blocks in order
    pub in_order-flat_map : (xs : List X) → flat_map block (in_order (λ x y. before (key x) (key y)) xs) ≡ in_order (λ x y. before (key' x) (key' y)) (flat_map block xs)
    in_order-flat_map xs =
        one_order (λ x y. before (key' x) (key' y)) by_key' (in_order (λ x y. before (key' x) (key' y)) (flat_map block xs)) (flat_map block (in_order (λ x y. before (key x) (key y)) xs))
        (in_order-sorts (λ x y. before (key' x) (key' y)) by_key' (flat_map block xs))
        (flat_map-IsInOrder _ (in_order-sorts (λ x y. before (key x) (key y)) by_key xs))
        (λ z. filter-flat_map (ties before (key' z)) (in_order (λ x y. before (key x) (key y)) xs)
        ∙ ap (flat_map block) (keeps_ties (key' z) xs)
        ∙ sym (filter-flat_map (ties before (key' z)) xs)
        ∙ sym (in_order-ties (λ x y. before (key' x) (key' y)) by_key' z (flat_map block xs)))
