-- The merged order: it is sorted, has the same members, keeps each verifier's order, and is the only such list where
-- no two moments are one.
use Rattle.std.proofs.Common.{◌≡◌, ◌≢◌, ℕ, ◌+◌, ◌==◌, nat_le, Bool, true, false, cond, not, ◌&&◌, List, [], ◌∷◌, ◌++◌, refl, ap, ◌∙◌, filter, flat_map, AllPairs, IsPermutation, IsSortedByKey, arith}
use Rattle.std.specs.List.{AllByRecursion}
use Rattle.std.specs.List.Sorted.{ties, IsStableByKey}
use Rattle.std.proofs.lemmas.Bool.{false_from_ne_true}
use Rattle.std.proofs.lemmas.Bool.Decides.{nat_tests}
use Rattle.std.proofs.lemmas.List.Elements.{filter_agree}
use Rattle.std.proofs.lemmas.Map.Keys.{IsDistinct-from_apart}
use Rattle.stamp_order.specs.declared.moment.Moment.{Moment}
use Rattle.stamp_order.specs.Moment.{moment_cmp, is_before}
use Rattle.stamp_order.specs.Merged.{comes_before, merged, IsMerged, up_to, of_epoch, of_verifier}
use Rattle.stamp_order.proofs.InOrderLaws.{in_order-sorts, in_order-permutation, in_order-fixed, in_order-filter, in_order-keeps}
use Rattle.stamp_order.proofs.OneOrderLaws.{sorted_from_IsInOrder, IsInOrder-from_sorted, in_order-from_stable, in_order-from_permutation}
use Rattle.stamp_order.proofs.JoinLemmas.{in_order-split, in_order-flat_map}
use Rattle.stamp_order.proofs.MomentLaws.{is_before-order, comes_before-order, one_moment, is_before-epoch}

module _ {X : Type 0} where
  -- two filters are one
  filter_twice : (p q : X → Bool) (xs : List X) → filter p (filter q xs) ≡ filter (λ x. q x && p x) xs
  filter_twice p q [] = refl
  filter_twice p q (x ∷ xs) = go (q x) (filter_twice p q xs)
    where
      go : (b : Bool) → filter p (filter q xs) ≡ filter (λ y. q y && p y) xs
          → filter p (cond b (x ∷ filter q xs) (filter q xs)) ≡ cond (b && p x) (x ∷ filter (λ y. q y && p y) xs) (filter (λ y. q y && p y) xs)
      go true rest = ap (λ zs. cond (p x) (x ∷ zs) zs) rest
      go false rest = rest

module _ {X : Type 0} (at : X → Moment) where
  -- the members stand in the order of their moments
  pub merged-sorts : (xs : List X) → IsMerged at (merged at xs)
  merged-sorts xs = in_order-sorts (comes_before at) (comes_before-order at) xs

  -- in std's words
  pub sorted_from_IsMerged : (xs : List X) → IsMerged at xs → IsSortedByKey at moment_cmp xs
  sorted_from_IsMerged xs h = sorted_from_IsInOrder (comes_before at) xs h

  pub IsMerged-from_sorted : (xs : List X) → IsSortedByKey at moment_cmp xs → IsMerged at xs
  IsMerged-from_sorted xs h = IsInOrder-from_sorted (comes_before at) (comes_before-order at) xs h

  -- the members are the same, each as often
  pub merged-permutation : (xs : List X) → IsPermutation xs (merged at xs)
  merged-permutation xs = in_order-permutation (comes_before at) xs

  -- members that stand in order stay as they are
  pub merged-fixed : (xs : List X) → IsMerged at xs → merged at xs ≡ xs
  merged-fixed xs h = in_order-fixed (comes_before at) xs h

  -- what a filter keeps of the merged members is what it keeps, merged
  pub merged-filter : (p : X → Bool) (xs : List X) → filter p (merged at xs) ≡ merged at (filter p xs)
  merged-filter p xs = in_order-filter (comes_before at) (comes_before-order at) p xs

  -- what a filter keeps stays as it stood, where it stood in order
  pub merged-keeps : (p : X → Bool) (xs : List X) → IsMerged at (filter p xs) → filter p (merged at xs) ≡ filter p xs
  merged-keeps p xs h = in_order-keeps (comes_before at) (comes_before-order at) p xs h

  -- the members of one verifier stay as they stood, where they stood in order
  pub merged-of_verifier : (verifier : ℕ) (xs : List X) → IsMerged at (of_verifier at verifier xs) → of_verifier at verifier (merged at xs) ≡ of_verifier at verifier xs
  merged-of_verifier verifier xs h = merged-keeps (λ x. (at x).verifier == verifier) xs h

  -- what a stable sort by the moments leaves
  pub merged-from_stable : (xs ys : List X) → IsSortedByKey at moment_cmp ys → IsStableByKey at moment_cmp xs ys → ys ≡ merged at xs
  merged-from_stable xs ys sorted stable = in_order-from_stable (comes_before at) (comes_before-order at) xs ys sorted stable

  -- any permutation that stands in order is the merged one, where no two moments are one
  pub merged-one : (xs ys : List X) → AllPairs (λ x y. at x ≢ at y) xs → IsPermutation xs ys → IsMerged at ys → ys ≡ merged at xs
  merged-one xs ys apart moved sorted =
      in_order-from_permutation (comes_before at) (comes_before-order at) xs ys
      (IsDistinct-from_apart (ties (comes_before at)) xs (λ i j d below within. false_from_ne_true _ (λ tie. apart i j d below within (one_moment _ _ tie))))
      moved sorted

  -- the members of an epoch stand behind those of the epochs before it
  pub merged-epochs : (epoch : ℕ) (xs : List X) → merged at (up_to at (epoch + 1) xs) ≡ merged at (up_to at epoch xs) ++ merged at (of_epoch at (epoch + 1) xs)
  merged-epochs epoch xs =
      in_order-split (comes_before at) (comes_before-order at) (λ x. nat_le (at x).at.epoch epoch) (λ x y before after. is_before-epoch (at x) (at y) (grind (arith, nat_tests))) (up_to at (epoch + 1) xs)
      ∙ ap (λ zs. merged at zs ++ merged at (filter (λ x. not (nat_le (at x).at.epoch epoch)) (up_to at (epoch + 1) xs)))
      (filter_twice _ _ xs ∙ filter_agree _ (λ x. nat_le (at x).at.epoch epoch) (λ x. up_to_less (at x).at.epoch epoch) xs)
      ∙ ap (λ zs. merged at (up_to at epoch xs) ++ merged at zs)
      (filter_twice _ _ xs ∙ filter_agree _ (λ x. (at x).at.epoch == epoch + 1) (λ x. only_last (at x).at.epoch epoch) xs)
    where
      up_to_less : (e epoch : ℕ) → (nat_le e (epoch + 1) && nat_le e epoch) ≡ nat_le e epoch
      up_to_less e epoch = grind (arith, nat_tests)

      only_last : (e epoch : ℕ) → (nat_le e (epoch + 1) && not (nat_le e epoch)) ≡ (e == epoch + 1)
      only_last e epoch = grind (arith, nat_tests)

-- Each x stands for a block of members that all have its moment: the blocks merged are the members merged.
pub merged-flat_map : {X Y : Type 0} (at : X → Moment) (at' : Y → Moment) (block : X → List Y) → ((x : X) → AllByRecursion (λ y. at' y ≡ at x) (block x))
    → (xs : List X) → flat_map block (merged at xs) ≡ merged at' (flat_map block xs)
merged-flat_map at at' block keyed xs = in_order-flat_map is_before is_before-order at at' block keyed xs
