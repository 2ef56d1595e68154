-- A list can stand in order in one way: a list in order is known by its ties, or by its members where none tie.
use Rattle.std.proofs.Common.{◌≡◌, zero, suc, ◌+◌, Bool, true, false, cond, not, ◌&&◌, List, [], ◌∷◌, refl, sym, ap, ◌∙◌, subst, ◌⊎◌, inl, inr, ⊎_elim, filter, Contains, AllPairs, IsPermutation, IsSortedBy, All, true≢false, arith}
use Rattle.std.specs.List.{AllByRecursion, IsDistinct}
use Rattle.std.specs.List.Sorted.{ties, IsStableBy}
use Rattle.std.specs.Cmp.{IsStrictWeakOrder}
use Rattle.std.proofs.lemmas.Bool.{cond_both, cond-true}
use Rattle.std.proofs.lemmas.List.Elements.{All-from_recursion, recursion_from_All, All-contains}
use Rattle.std.proofs.lemmas.List.Kept.{AllPairs-cons}
use Rattle.std.proofs.lemmas.List.Sorted.{IsPermutation-sym, IsPermutation-trans, Contains-permutation, sorted_far}
use Rattle.std.proofs.lemmas.Map.Keys.{IsDistinct-head, IsDistinct-tail, IsDistinct-IsPermutation}
use Rattle.stamp_order.specs.InOrder.{in_order, IsInOrder}
use Rattle.stamp_order.proofs.InOrderLaws.{every-weaker, every-filter, in_order-sorts, in_order-keeps, in_order-permutation}

module _ {X : Type 0} where
  abbrev first_of : X → List X → X
  first_of d [] = d
  first_of d (x ∷ xs) = x

  abbrev rest_of : List X → List X
  rest_of [] = []
  rest_of (x ∷ xs) = xs

  -- two lists with a first member more, or neither, are one list only where they were one before
  tails : (b : Bool) (x y : X) (xs ys : List X) → cond b (y ∷ ys) ys ≡ cond b (x ∷ xs) xs → ys ≡ xs
  tails true x y xs ys e = ap rest_of e
  tails false x y xs ys e = e

  -- what passes a test is all that a filter keeps
  pub every-passes : (p : X → Bool) (xs : List X) → AllByRecursion (λ x. p x ≡ true) (filter p xs)
  every-passes p [] = tt
  every-passes p (x ∷ xs) = cond_both (p x) (x ∷ filter p xs) (filter p xs) (AllByRecursion (λ y. p y ≡ true)) (λ own. (own, every-passes p xs)) (λ _. every-passes p xs)

  -- a member of x ∷ xs is x, or one of xs
  Contains-cons_cases : (x z : X) (xs : List X) → Contains (x ∷ xs) z → (x ≡ z) ⊎ Contains xs z
  Contains-cons_cases x z xs (zero, within, is) = inl is
  Contains-cons_cases x z xs (suc k, within, is) = inr (k, omega arith, is)

  Contains-head : (x : X) (xs : List X) → Contains (x ∷ xs) x
  Contains-head x xs = (0, omega arith, refl)

  Contains-tail : (x z : X) (xs : List X) → Contains xs z → Contains (x ∷ xs) z
  Contains-tail x z xs at = (suc at.0, omega (arith, at.1), at.2)

module _ {X : Type 0} (lt : X → X → Bool) where
  -- in order by recursion, and of any two places
  pub IsInOrder-from_pairs : (xs : List X) → AllPairs (λ x y. lt y x ≡ false) xs → IsInOrder lt xs
  IsInOrder-from_pairs [] h = tt
  IsInOrder-from_pairs (x ∷ xs) h =
      let head : All (λ y. lt y x ≡ false) xs = λ k d within. h zero (suc k) d (omega arith) (omega arith) in
      (recursion_from_All (λ y. lt y x ≡ false) xs head, IsInOrder-from_pairs xs (λ i j d below within. h (suc i) (suc j) d (omega arith) (omega arith)))

  pub pairs_from_IsInOrder : (xs : List X) → IsInOrder lt xs → AllPairs (λ x y. lt y x ≡ false) xs
  pairs_from_IsInOrder [] h = λ i j d below within. absurd (omega arith)
  pairs_from_IsInOrder (x ∷ xs) h =
      AllPairs-cons (λ x y. lt y x ≡ false) x xs (All-from_recursion (λ y. lt y x ≡ false) xs h.0) (pairs_from_IsInOrder xs h.1)

  -- each member stands before or ties with the next
  pub sorted_from_IsInOrder : (xs : List X) → IsInOrder lt xs → IsSortedBy lt xs
  sorted_from_IsInOrder xs h k d from within = pairs_from_IsInOrder xs h k (k + 1) d (omega arith) within

  ties_back : (x y : X) → ties lt x y ≡ ties lt y x
  ties_back x y = go (lt x y) (lt y x)
    where
      go : (b c : Bool) → not b && not c ≡ not c && not b
      go true true = refl
      go true false = refl
      go false true = refl
      go false false = refl

module _ {X : Type 0} (lt : X → X → Bool) (o : IsStrictWeakOrder lt) where
  pub IsInOrder-from_sorted : (xs : List X) → IsSortedBy lt xs → IsInOrder lt xs
  IsInOrder-from_sorted xs h = IsInOrder-from_pairs lt xs (λ i j d below within. sorted_far lt o xs h i j d (omega arith) within)

  -- nothing comes before itself
  pub not_before_itself : (x : X) → lt x x ≡ false
  not_before_itself x = go (lt x x) refl
    where
      go : (b : Bool) → lt x x ≡ b → lt x x ≡ false
      go true is = o.one_way x x is
      go false is = is

  tied : (x y : X) → lt x y ≡ false → lt y x ≡ false → ties lt x y ≡ true
  tied x y there back = rw (there, back) refl

  pub untied : (x y : X) → ties lt x y ≡ true → (lt x y ≡ false) × (lt y x ≡ false)
  untied x y both = go (lt x y) (lt y x) refl refl both
    where
      go : (b c : Bool) → lt x y ≡ b → lt y x ≡ c → not b && not c ≡ true → (lt x y ≡ false) × (lt y x ≡ false)
      go true c is back both = absurd (true≢false (sym both))
      go false true is back both = absurd (true≢false (sym both))
      go false false is back both = (is, back)

  -- members that all tie with one stand in order
  IsInOrder-tied : (z : X) (xs : List X) → AllByRecursion (λ x. ties lt z x ≡ true) xs → IsInOrder lt xs
  IsInOrder-tied z [] all = tt
  IsInOrder-tied z (x ∷ xs) all = (
    every-weaker (λ y. ties lt z y ≡ true) (λ y. lt y x ≡ false) (λ y tie. o.chain y z x (untied z y tie).1 (untied z x all.0).0) xs all.1,
    IsInOrder-tied z xs all.1,
  )

  -- putting a list in order leaves its ties as they stood
  pub in_order-ties : (z : X) (xs : List X) → filter (ties lt z) (in_order lt xs) ≡ filter (ties lt z) xs
  in_order-ties z xs = in_order-keeps lt o (ties lt z) xs (IsInOrder-tied z _ (every-passes (ties lt z) xs))

  -- the first of the ties of x comes before nothing at the front
  front_first : (x y : X) (ys rest : List X) → filter (ties lt x) (y ∷ ys) ≡ x ∷ rest → AllByRecursion (λ z. lt z y ≡ false) ys → lt x y ≡ false
  front_first x y ys rest is all =
      (subst (AllByRecursion (λ z. lt z y ≡ false)) is (every-filter (λ z. lt z y ≡ false) (ties lt x) (y ∷ ys) (not_before_itself y, all))).0

  own_tie : (x : X) (xs : List X) → filter (ties lt x) (x ∷ xs) ≡ x ∷ filter (ties lt x) xs
  own_tie x xs = cond-true (ties lt x x) _ _ (tied x x (not_before_itself x) (not_before_itself x))

  -- two lists in order with the same ties are one list
  pub one_order : (xs ys : List X) → IsInOrder lt xs → IsInOrder lt ys → ((z : X) → filter (ties lt z) ys ≡ filter (ties lt z) xs) → ys ≡ xs
  one_order [] [] h k same = refl
  one_order [] (y ∷ ys) h k same = let e : y ∷ filter (ties lt y) ys ≡ [] = sym (own_tie y ys) ∙ same y in absurd (cc)
  one_order (x ∷ xs) [] h k same = let e : [] ≡ x ∷ filter (ties lt x) xs = same x ∙ own_tie x xs in absurd (cc)
  one_order (x ∷ xs) (y ∷ ys) h k same =
      let there = front_first x y ys _ (same x ∙ own_tie x xs) k.0 in
      let back = front_first y x xs _ (sym (same y) ∙ own_tie y ys) h.0 in
      let e : y ≡ x = ap (first_of x) (sym (cond-true (ties lt x y) _ _ (tied x y there back)) ∙ same x ∙ own_tie x xs) in
      let rest = one_order xs ys h.1 k.1 (λ z. tails (ties lt z x) x y _ _ (ap (λ w. cond (ties lt z w) (y ∷ filter (ties lt z) ys) (filter (ties lt z) ys)) (sym e) ∙ same z)) in
      ap (λ w. w ∷ ys) e ∙ ap (λ zs. x ∷ zs) rest

  -- what a stable sort leaves is the list in order
  pub in_order-from_stable : (xs ys : List X) → IsSortedBy lt ys → IsStableBy lt xs ys → ys ≡ in_order lt xs
  in_order-from_stable xs ys sorted stable =
      one_order (in_order lt xs) ys (in_order-sorts lt o xs) (IsInOrder-from_sorted ys sorted) (λ z. stable z ∙ sym (in_order-ties z xs))

  -- in order with no ties: what stands behind a member comes after it
  after_head : (x z : X) (xs : List X) → IsInOrder lt (x ∷ xs) → IsDistinct (ties lt) (x ∷ xs) → Contains xs z → lt x z ≡ true
  after_head x z xs h apart at =
      let behind = All-contains (λ y. lt y x ≡ false) xs z (All-from_recursion (λ y. lt y x ≡ false) xs h.0) at in
      let differ = All-contains (λ y. ties lt x y ≡ false) xs z (All-from_recursion (λ y. ties lt x y ≡ false) xs (IsDistinct-head (ties lt) x xs apart)) at in
      go (lt x z) refl behind differ
    where
      go : (b : Bool) → lt x z ≡ b → lt z x ≡ false → ties lt x z ≡ false → lt x z ≡ true
      go true is behind differ = is
      go false is behind differ = absurd (true≢false (sym (tied x z is behind) ∙ differ))

  -- two lists in order with the same members, of which none tie, begin with one member
  one_head : (x y : X) (xs ys : List X) → IsInOrder lt (x ∷ xs) → IsInOrder lt (y ∷ ys) → IsDistinct (ties lt) (x ∷ xs) → IsDistinct (ties lt) (y ∷ ys)
      → Contains (y ∷ ys) x → Contains (x ∷ xs) y → y ≡ x
  one_head x y xs ys h k apart separate there back =
      ⊎_elim (λ e. e)
      (λ behind. ⊎_elim (λ e. sym e)
      (λ ahead. absurd (true≢false (sym (after_head x y xs h apart ahead) ∙ o.one_way y x (after_head y x ys k separate behind))))
      (Contains-cons_cases x y xs back))
      (Contains-cons_cases y x ys there)

  -- behind one first member stand the same members
  rest_inside : (x z : X) (xs ys : List X) → IsInOrder lt (x ∷ xs) → IsDistinct (ties lt) (x ∷ xs) → Contains (x ∷ ys) z → Contains xs z → Contains ys z
  rest_inside x z xs ys h apart there inside =
      ⊎_elim (λ e. absurd (true≢false (sym (subst (λ w. lt x w ≡ true) (sym e) (after_head x z xs h apart inside)) ∙ not_before_itself x))) (λ c. c) (Contains-cons_cases x z ys there)

  -- two lists in order with the same members, of which none tie, are one list
  same_members : (xs ys : List X) → IsInOrder lt xs → IsInOrder lt ys → IsDistinct (ties lt) xs → IsDistinct (ties lt) ys
      → ((z : X) → Contains xs z → Contains ys z) → ((z : X) → Contains ys z → Contains xs z) → ys ≡ xs
  same_members [] [] h k apart separate there back = refl
  same_members [] (y ∷ ys) h k apart separate there back = absurd (omega (arith, (back y (Contains-head y ys)).1))
  same_members (x ∷ xs) [] h k apart separate there back = absurd (omega (arith, (there x (Contains-head x xs)).1))
  same_members (x ∷ xs) (y ∷ ys) h k apart separate there back =
      let e = one_head x y xs ys h k apart separate (there x (Contains-head x xs)) (back y (Contains-head y ys)) in
      let rest = same_members xs ys h.1 k.1 (IsDistinct-tail (ties lt) x xs apart) (IsDistinct-tail (ties lt) y ys separate)
      (λ z inside. rest_inside x z xs ys h apart (subst (λ w. Contains (w ∷ ys) z) e (there z (Contains-tail x z xs inside))) inside)
      (λ z inside. rest_inside y z ys xs k separate (subst (λ w. Contains (w ∷ xs) z) (sym e) (back z (Contains-tail y z ys inside))) inside) in
      ap (λ w. w ∷ ys) e ∙ ap (λ zs. x ∷ zs) rest

  -- a permutation that stands in order is the list in order, where no two members tie
  pub in_order-from_permutation : (xs ys : List X) → IsDistinct (ties lt) xs → IsPermutation xs ys → IsInOrder lt ys → ys ≡ in_order lt xs
  in_order-from_permutation xs ys apart moved sorted =
      let to_order = in_order-permutation lt xs in
      let across = IsPermutation-trans _ _ _ (IsPermutation-sym _ _ to_order) moved in
      same_members (in_order lt xs) ys (in_order-sorts lt o xs) sorted
      (IsDistinct-IsPermutation (ties lt) (ties_back lt) xs (in_order lt xs) to_order apart)
      (IsDistinct-IsPermutation (ties lt) (ties_back lt) xs ys moved apart)
      (λ z. Contains-permutation _ _ z across) (λ z. Contains-permutation _ _ z (IsPermutation-sym _ _ across))
