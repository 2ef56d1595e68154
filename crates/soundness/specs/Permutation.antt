-- When two lists of elements are one multiset: the one is a permutation of the other.
use Rattle.std.specs.Prelude.{ℕ, suc, ◌==◌, ◌&&◌, Bool, true, false, List, [], ◌∷◌, Option, Some, None, if◌then◌else◌}
use Rattle.std.specs.Option.{option_map}
use Rattle.tree_keys.specs.Path.{same_path}
use Rattle.lamport_clocks.specs.declared.stamp.Stamp.{Stamp}
use Rattle.record_text.specs.declared.element.Element.{Element}
use Rattle.record_text.specs.Same.{same_value}

-- two stamps are the same
abbrev pub same_stamp : Stamp → Stamp → Bool
same_stamp s t = s.epoch == t.epoch && s.counter == t.counter

-- two elements are the same
abbrev pub same_element : Element → Element → Bool
same_element a b = (same_path a.path b.path && same_value a.value b.value) && (same_stamp a.stamp b.stamp && a.verifier == b.verifier)

-- how often an element stands in a list
abbrev pub count_of : Element → List Element → ℕ
count_of x [] = 0
count_of x (y ∷ ys) = if same_element x y then suc (count_of x ys) else count_of x ys

-- the list with an element taken out once, if it is there
abbrev pub without_one : Element → List Element → Option (List Element)
without_one x [] = None
without_one x (y ∷ ys) = if same_element x y then Some ys else option_map (λ more. y ∷ more) (without_one x ys)

-- what is left where an element is taken out, if it is there, and whether that is a permutation of the rest
abbrev pub permuted_behind : Option (List Element) → (List Element → Bool) → Bool
permuted_behind None more = false
permuted_behind (Some rest) more = more rest

-- the two lists have the same elements, each as often
abbrev pub is_permutation : List Element → List Element → Bool
is_permutation [] [] = true
is_permutation [] (y ∷ ys) = false
is_permutation (x ∷ xs) ys = permuted_behind (without_one x ys) (λ rest. is_permutation xs rest)
