-- Counting elements in lists that are joined, and of which one is replaced.
use Rattle.std.proofs.Common.{◌≡◌, ℕ, zero, suc, ◌+◌, ◌<◌, Bool, true, false, List, [], ◌∷◌, ◌++◌, length, get_or, set, arith}
use Rattle.std.specs.List.{flat_map}
use Rattle.record_text.specs.declared.element.Element.{Element}
use Rattle.soundness.specs.Permutation.{same_element, count_of}
use Rattle.soundness.proofs.PermutationLaws.{one_more}

pub count-append : (x : Element) (xs ys : List Element) → count_of x (xs ++ ys) ≡ count_of x xs + count_of x ys
count-append x [] ys = omega arith
count-append x (z ∷ xs) ys = go (same_element x z) (count-append x xs ys)
  where
    go : (b : Bool) → count_of x (xs ++ ys) ≡ count_of x xs + count_of x ys
        → one_more b (count_of x (xs ++ ys)) ≡ one_more b (count_of x xs) + count_of x ys
    go true rest = omega (arith, rest)
    go false rest = rest

module _ {X : Type 0} (f : X → List Element) where
  -- the elements of a list of lists, where one of these is replaced
  pub count-set : (x : Element) (ys : List X) (i : ℕ) (y d : X) → i < length ys
      → count_of x (flat_map f (set ys i y)) + count_of x (f (get_or ys i d))
      ≡ count_of x (flat_map f ys) + count_of x (f y)
  count-set x [] i y d within = absurd (omega (arith, within))
  count-set x (z ∷ ys) zero y d within =
      omega (arith, count-append x (f y) (flat_map f ys), count-append x (f z) (flat_map f ys))
  count-set x (z ∷ ys) (suc i) y d within =
      omega (
        arith,
        count-append x (f z) (flat_map f (set ys i y)),
        count-append x (f z) (flat_map f ys),
        count-set x ys i y d (omega (arith, within)),
      )
