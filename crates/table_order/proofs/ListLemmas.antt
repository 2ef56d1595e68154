-- Lists of lists, and what holds of each of their members.
use Rattle.std.proofs.Common.{◌≡◌, ℕ, zero, suc, ◌+◌, ◌<◌, ◌≤◌, ◌⊎◌, inl, inr, List, [], ◌∷◌, ◌++◌, length, map, get_or, slice_get, Some, append_assoc, sym, ◌∙◌, ap, subst, arith, IsPermutation}
use Rattle.std.specs.List.{flat_map, AllByRecursion}
use Rattle.std.proofs.lemmas.Bool.{cases_eq}
use Rattle.std.proofs.lemmas.List.Elements.{All-from_recursion, recursion_from_All}
use Rattle.std.proofs.lemmas.List.Sorted.{All-permutation}
use Rattle.std.proofs.lemmas.Option.{none-some, same_Some}
use Rattle.stamp_order.proofs.InOrderLaws.{every-append}
use Rattle.host_table.specs.declared.told.Service.{Service}
use Rattle.host_table.specs.Told.{joined_from}

-- ---- what holds of each

module _ {X : Type 0} (P : X → Type 0) where
  pub all-front : (xs ys : List X) → AllByRecursion P (xs ++ ys) → AllByRecursion P xs
  all-front [] ys all = tt
  all-front (x ∷ xs) ys all = (all.0, all-front xs ys all.1)

  pub all-back : (xs ys : List X) → AllByRecursion P (xs ++ ys) → AllByRecursion P ys
  all-back [] ys all = all
  all-back (x ∷ xs) ys all = all-back xs ys all.1

  -- of one that is found
  pub all-got : (xs : List X) (k : ℕ) (x : X) → AllByRecursion P xs → slice_get xs k ≡ Some x → P x
  all-got [] k x all is = absurd (none-some x is)
  all-got (first ∷ xs) zero x all is = subst P (same_Some first x is) all.0
  all-got (first ∷ xs) (suc k) x all is = all-got xs k x all.1 is

  -- of the same members in another order
  pub all-moved : (xs ys : List X) → IsPermutation xs ys → AllByRecursion P xs → AllByRecursion P ys
  all-moved xs ys same all = recursion_from_All P ys (All-permutation P xs ys same (All-from_recursion P xs all))

  module _ {A : Type 0} (f : A → List X) (d : A) where
    -- of the members of joined lists
    pub all-flat : (xs : List A) → ((i : ℕ) → i < length xs → AllByRecursion P (f (get_or xs i d))) → AllByRecursion P (flat_map f xs)
    all-flat [] all = tt
    all-flat (x ∷ xs) all = every-append P (f x) (flat_map f xs) (all 0 (omega arith)) (all-flat xs (λ i there. all (suc i) (omega (arith, there))))

    pub all-part : (xs : List A) (i : ℕ) → i < length xs → AllByRecursion P (flat_map f xs) → AllByRecursion P (f (get_or xs i d))
    all-part [] i there all = absurd (omega (arith, there))
    all-part (x ∷ xs) zero there all = all-front (f x) (flat_map f xs) all
    all-part (x ∷ xs) (suc i) there all = all-part xs i (omega (arith, there)) (all-back (f x) (flat_map f xs) all)

-- of images
pub all-map : {A B : Type 0} (P : B → Type 0) (f : A → B) (xs : List A) → AllByRecursion (λ x. P (f x)) xs → AllByRecursion P (map f xs)
all-map P f [] all = tt
all-map P f (x ∷ xs) all = (all.0, all-map P f xs all.1)

module _ (P : Service → Type 0) (lists : ℕ → List Service) where
  -- of the lists of numbers from one on
  pub all-joined : (number count : ℕ) → ((i : ℕ) → number ≤ i → i < number + count → AllByRecursion P (lists i)) → AllByRecursion P (joined_from number count lists)
  all-joined number zero all = tt
  all-joined number (suc count) all =
      every-append P (lists number) (joined_from (suc number) count lists) (all number (omega arith) (omega arith))
      (all-joined (suc number) count (λ i from below. all i (omega (arith, from)) (omega (arith, below))))

  pub all-numbered : (number count i : ℕ) → number ≤ i → i < number + count → AllByRecursion P (joined_from number count lists) → AllByRecursion P (lists i)
  all-numbered number zero i from below all = absurd (omega (arith, from, below))
  all-numbered number (suc count) i from below all =
      go (cases_eq i number) (λ later. all-numbered (suc number) count i later (omega (arith, below)) (all-back P (lists number) (joined_from (suc number) count lists) all))
    where
      go : (i ≡ number) ⊎ (i ≡ number → ⊥) → (suc number ≤ i → AllByRecursion P (lists i)) → AllByRecursion P (lists i)
      go (inl same) rest = subst (λ (n : ℕ). AllByRecursion P (lists n)) (sym same) (all-front P (lists number) (joined_from (suc number) count lists) all)
      go (inr other) rest = rest (omega (arith, from, other))

-- ---- lists of numbers, cut in two

pub joined_cut : (lists : ℕ → List Service) (number a b n m : ℕ) → n ≡ a + b → m ≡ number + a
    → joined_from number n lists ≡ joined_from number a lists ++ joined_from m b lists
joined_cut lists number zero b n m count from =
    λ k. joined_from (from' k) (count' k) lists
  where
    from' : number ≡ m
    from' = omega (arith, from)

    count' : n ≡ b
    count' = omega (arith, count)
joined_cut lists number (suc a) b zero m count from = absurd (omega (arith, count))
joined_cut lists number (suc a) b (suc n) m count from =
    ap (λ (zs : List Service). lists number ++ zs) (joined_cut lists (suc number) a b n m (omega (arith, count)) (omega (arith, from)))
    ∙ sym (append_assoc (lists number) (joined_from (suc number) a lists) (joined_from m b lists))
