-- Lists with the same elements, each as often, are permutations of each other, and have one sum.
use Rattle.std.proofs.Common.{◌≡◌, ◌≢◌, ℕ, suc, ◌+◌, ◌==◌, Bool, true, false, List, [], ◌∷◌, map, length, slice_index, sum_by, Option, Some, None, refl, sym, ◌∙◌, ap, if◌then◌else◌, arith}
use Rattle.std.specs.Option.{option_map}
use Rattle.std.specs.List.{AllByRecursion}
use Rattle.std.proofs.lemmas.Bool.{false≢true, eq-eqb, and_from}
use Rattle.std.proofs.lemmas.List.Sums.{sum_by-cons}
use Rattle.std.proofs.lemmas.Option.{none-some, same_Some}
use Rattle.record_text.specs.declared.element.Element.{Element}
use Rattle.record_text.specs.Same.{same_bytes}
use Rattle.record_text.proofs.SameTestLaws.{same_bytes-self}
use Rattle.multiset_sum.specs.Sum.{eight}
use Rattle.multiset_sum.specs.Tally.{Tally}
use Rattle.merkle_records.specs.Scheme.{Scheme, lanes_of}
use Rattle.stamp_order.specs.Merged.{comes_before, merged}
use Rattle.stamp_order.specs.InOrder.{put_in_order, in_order}
use Rattle.soundness.specs.History.{Event}
use Rattle.soundness.specs.Certified.{event_moment, of_epoch, sum_over, same_sum}
use Rattle.soundness.specs.Permutation.{same_element, count_of, without_one, permuted_behind, is_permutation}
use Rattle.soundness.proofs.PermutationLaws.{one_more, count_without, without_there, same_element-self, same_element-true}
use Rattle.host_core.specs.Deeds.{AreSame}
use Rattle.host_core.proofs.EvenLemmas.{IsSum}

-- ---- permutations

own_count : (y : Element) (ys : List Element) → count_of y (y ∷ ys) ≡ suc (count_of y ys)
own_count y ys = ap (λ (b : Bool). one_more b (count_of y ys)) (same_element-self y)

one_more-same : (b : Bool) (m n : ℕ) → one_more b m ≡ one_more b n → m ≡ n
one_more-same true m n same = omega (arith, same)
one_more-same false m n same = same

-- Lists with the same elements, each as often, are permutations.
pub permuted : (xs ys : List Element) → AreSame xs ys → is_permutation xs ys ≡ true
permuted [] [] same = refl
permuted [] (y ∷ ys) same = absurd (omega (arith, same y, own_count y ys))
permuted (x ∷ xs) ys same =
    go (without_there x ys (count_of x xs) (sym (same x) ∙ own_count x xs)) (λ rest is. permuted xs rest is)
  where
    go : (rest : List Element) × (without_one x ys ≡ Some rest)
        → ((rest : List Element) → AreSame xs rest → is_permutation xs rest ≡ true)
        → permuted_behind (without_one x ys) (λ rest. is_permutation xs rest) ≡ true
    go out further =
        ap (λ (o : Option (List Element)). permuted_behind o (λ rest. is_permutation xs rest)) out.1
        ∙ further out.0 (λ z. one_more-same (same_element z x) (count_of z xs) (count_of z out.0)
        (same z ∙ count_without z x ys out.0 out.1))

-- ---- sums

module _ (f : Element → ℕ) where
  sum-without : (x : Element) (ys rest : List Element) → without_one x ys ≡ Some rest → sum_by f ys ≡ f x + sum_by f rest
  sum-without x [] rest is = absurd (none-some rest is)
  sum-without x (y ∷ ys) rest is = go (λ more out. sum-without x ys more out) (same_element x y) refl is
    where
      Further : Type 0
      Further = (more : List Element) → without_one x ys ≡ Some more → sum_by f ys ≡ f x + sum_by f more

      deeper : Further → (o : Option (List Element)) → without_one x ys ≡ o → option_map (λ (more : List Element). y ∷ more) o ≡ Some rest
          → sum_by f (y ∷ ys) ≡ f x + sum_by f rest
      deeper further None out is = absurd (none-some rest is)
      deeper further (Some more) out is =
          omega (arith, sum_by-cons f y ys, sum_by-cons f y more, further more out, ap (sum_by f) (same_Some (y ∷ more) rest is))

      go : Further → (b : Bool) → same_element x y ≡ b → (if b then Some ys else option_map (λ (more : List Element). y ∷ more) (without_one x ys)) ≡ Some rest
          → sum_by f (y ∷ ys) ≡ f x + sum_by f rest
      go further true same is =
          omega (arith, sum_by-cons f y ys, ap f (same_element-true x y same), ap (sum_by f) (same_Some ys rest is))
      go further false apart is = deeper further (without_one x ys) refl is

  -- permutations have one sum of anything
  pub sum-permuted : (xs ys : List Element) → is_permutation xs ys ≡ true → sum_by f xs ≡ sum_by f ys
  sum-permuted [] [] is = refl
  sum-permuted [] (y ∷ ys) is = absurd (false≢true is)
  sum-permuted (x ∷ xs) ys is = sum_by-cons f x xs ∙ go (λ rest same. sum-permuted xs rest same) (without_one x ys) refl is
    where
      go : ((rest : List Element) → is_permutation xs rest ≡ true → sum_by f xs ≡ sum_by f rest)
          → (o : Option (List Element)) → without_one x ys ≡ o → permuted_behind o (λ rest. is_permutation xs rest) ≡ true
          → f x + sum_by f xs ≡ sum_by f ys
      go further None out is = absurd (false≢true is)
      go further (Some rest) out is = omega (arith, further rest is, sum-without x ys rest out)

sum-map : (g : List ℕ → ℕ) (h : Element → List ℕ) (xs : List Element) → sum_by g (map h xs) ≡ sum_by (λ x. g (h x)) xs
sum-map g h [] = refl
sum-map g h (x ∷ xs) =
    omega (arith, sum_by-cons g (h x) (map h xs), sum_by-cons (λ (x : Element). g (h x)) x xs, sum-map g h xs)

length-sum : (h : Element → List ℕ) (xs : List Element) → length (map h xs) ≡ sum_by (λ _. 1) xs
length-sum h [] = refl
length-sum h (x ∷ xs) = omega (arith, sum_by-cons (λ (x : Element). 1) x xs, length-sum h xs)

-- Permutations have one sum of lanes.
pub same_sum-permuted : (scheme : Scheme) (xs ys : List Element) → is_permutation xs ys ≡ true
    → same_sum (sum_over scheme xs) (sum_over scheme ys) ≡ true
same_sum-permuted scheme xs ys is =
    ap (λ (t : Tally). same_sum (sum_over scheme xs) t) (sym one)
    ∙ and_from (same_bytes (sum_over scheme xs).lanes (sum_over scheme xs).lanes)
    ((sum_over scheme xs).count == (sum_over scheme xs).count)
    (same_bytes-self (sum_over scheme xs).lanes) (eq-eqb (sum_over scheme xs).count (sum_over scheme xs).count refl)
  where
    lane : (n : ℕ) → sum_by (λ hash. slice_index hash n) (map (lanes_of scheme) xs) ≡ sum_by (λ hash. slice_index hash n) (map (lanes_of scheme) ys)
    lane n =
        sum-map (λ hash. slice_index hash n) (lanes_of scheme) xs
        ∙ sum-permuted (λ x. slice_index (lanes_of scheme x) n) xs ys is
        ∙ sym (sum-map (λ hash. slice_index hash n) (lanes_of scheme) ys)

    counts : length (map (lanes_of scheme) xs) ≡ length (map (lanes_of scheme) ys)
    counts = length-sum (lanes_of scheme) xs ∙ sum-permuted (λ _. 1) xs ys is ∙ sym (length-sum (lanes_of scheme) ys)

    lanes : eight (λ n. sum_by (λ hash. slice_index hash n) (map (lanes_of scheme) xs)) ≡ eight (λ n. sum_by (λ hash. slice_index hash n) (map (lanes_of scheme) ys))
    lanes = λ i. eight (λ n. lane n i)

    one : sum_over scheme xs ≡ sum_over scheme ys
    one = ap (λ (l : List ℕ). record { lanes = l; count = length (map (lanes_of scheme) xs) }) lanes
        ∙ ap (λ (n : ℕ). record { lanes = eight (λ n. sum_by (λ hash. slice_index hash n) (map (lanes_of scheme) ys)); count = n }) counts

-- ---- elements of an epoch

-- an element of an epoch is there as often among those of the epoch
pub count_epoch : (x : Element) (epoch : ℕ) (xs : List Element)
    → count_of x (of_epoch epoch xs) ≡ (if x.stamp.epoch == epoch then count_of x xs else 0)
count_epoch x epoch [] = go (x.stamp.epoch == epoch)
  where
    nothing : ℕ
    nothing = 0

    go : (b : Bool) → nothing ≡ (if b then nothing else nothing)
    go true = refl
    go false = refl
count_epoch x epoch (y ∷ ys) = go (y.stamp.epoch == epoch) (same_element x y) refl refl (count_epoch x epoch ys)
  where
    go : (own same : Bool) → (y.stamp.epoch == epoch) ≡ own → same_element x y ≡ same
        → count_of x (of_epoch epoch ys) ≡ (if x.stamp.epoch == epoch then count_of x ys else 0)
        → count_of x (if own then y ∷ of_epoch epoch ys else of_epoch epoch ys)
        ≡ (if x.stamp.epoch == epoch then one_more same (count_of x ys) else 0)
    go true true own same rest =
        let here : (x.stamp.epoch == epoch) ≡ true = ap (λ (e : Element). e.stamp.epoch == epoch) (same_element-true x y same) ∙ own in
        ap (λ (b : Bool). one_more b (count_of x (of_epoch epoch ys))) same
        ∙ ap suc (rest ∙ ap (λ (b : Bool). if b then count_of x ys else 0) here)
        ∙ sym (ap (λ (b : Bool). if b then suc (count_of x ys) else 0) here)
    go true false own same rest = ap (λ (b : Bool). one_more b (count_of x (of_epoch epoch ys))) same ∙ rest
    go false true own same rest =
        let here : (x.stamp.epoch == epoch) ≡ false = ap (λ (e : Element). e.stamp.epoch == epoch) (same_element-true x y same) ∙ own in
        rest ∙ ap (λ (b : Bool). if b then count_of x ys else 0) here
        ∙ sym (ap (λ (b : Bool). if b then suc (count_of x ys) else 0) here)
    go false false own same rest = rest

-- an element of another epoch than all is not there
pub count_other : (x : Element) (xs : List Element) → AllByRecursion (λ y. y.stamp.epoch ≢ x.stamp.epoch) xs → count_of x xs ≡ 0
count_other x [] apart = refl
count_other x (y ∷ ys) apart = go (same_element x y) refl (count_other x ys apart.1)
  where
    go : (b : Bool) → same_element x y ≡ b → count_of x ys ≡ 0 → one_more b (count_of x ys) ≡ 0
    go true same rest = absurd (apart.0 (ap (λ (e : Element). e.stamp.epoch) (sym (same_element-true x y same))))
    go false other rest = rest

-- ---- the merged order

module _ (f : List Event → ℕ) (sums : IsSum f) where
  sum-put : (before : Event → Event → Bool) (x : Event) (ys : List Event) → f (put_in_order before x ys) ≡ f (x ∷ ys)
  sum-put before x [] = refl
  sum-put before x (y ∷ ys) = go (before y x) (sum-put before x ys)
    where
      go : (b : Bool) → f (put_in_order before x ys) ≡ f (x ∷ ys)
          → f (if b then y ∷ put_in_order before x ys else x ∷ y ∷ ys) ≡ f (x ∷ y ∷ ys)
      go true rest =
          omega (
            arith,
            rest,
            sums.joined (y ∷ []) (put_in_order before x ys),
            sums.joined (x ∷ []) ys,
            sums.joined (x ∷ []) (y ∷ ys),
            sums.joined (y ∷ []) ys,
          )
      go false rest = refl

  sum-ordered : (before : Event → Event → Bool) (xs : List Event) → f (in_order before xs) ≡ f xs
  sum-ordered before [] = refl
  sum-ordered before (x ∷ xs) =
      omega (
        arith,
        sum-put before x (in_order before xs),
        sums.joined (x ∷ []) (in_order before xs),
        sums.joined (x ∷ []) xs,
        sum-ordered before xs,
      )

  -- What is counted over events is the same in the merged order.
  pub sum-merged : (xs : List Event) → f (merged event_moment xs) ≡ f xs
  sum-merged xs = sum-ordered (comes_before event_moment) xs
