-- How paths lie to each other: what is a prefix, and on which side.
use Rattle.std.proofs.Common.{◌≡◌, ◌≢◌, ◌⊎◌, Bool, true, false, List, [], ◌∷◌, ◌++◌, Some, None, refl, sym, ◌∙◌, ap, inl, inr, arith}
use Rattle.std.proofs.lemmas.Bool.{false≢true}
use Rattle.std.proofs.lemmas.Option.{none-some}
use Rattle.tree_keys.specs.Path.{side, is_prefix}
use Rattle.tree_keys.proofs.PathLaws.{side-short}

-- none lies below itself
pub side-self : (p : List Bool) → side p p ≡ None
side-self p = side-short p p (omega arith)

pub is_prefix-self : (p : List Bool) → is_prefix p p ≡ true
is_prefix-self [] = refl
is_prefix-self (true ∷ p) = is_prefix-self p
is_prefix-self (false ∷ p) = is_prefix-self p

pub is_prefix-trans : (p k j : List Bool) → is_prefix p k ≡ true → is_prefix k j ≡ true → is_prefix p j ≡ true
is_prefix-trans [] k j h g = refl
is_prefix-trans (a ∷ p) [] j h g = absurd (false≢true h)
is_prefix-trans (a ∷ p) (b ∷ k) [] h g = absurd (false≢true g)
is_prefix-trans (true ∷ p) (true ∷ k) (true ∷ j) h g = is_prefix-trans p k j h g
is_prefix-trans (true ∷ p) (true ∷ k) (false ∷ j) h g = absurd (false≢true g)
is_prefix-trans (true ∷ p) (false ∷ k) (c ∷ j) h g = absurd (false≢true h)
is_prefix-trans (false ∷ p) (true ∷ k) (c ∷ j) h g = absurd (false≢true h)
is_prefix-trans (false ∷ p) (false ∷ k) (true ∷ j) h g = absurd (false≢true g)
is_prefix-trans (false ∷ p) (false ∷ k) (false ∷ j) h g = is_prefix-trans p k j h g

-- what lies below a path has it as a prefix
pub prefix_of_side : (p k : List Bool) (on : Bool) → side p k ≡ Some on → is_prefix p k ≡ true
prefix_of_side [] k on is = refl
prefix_of_side (a ∷ p) [] on is = absurd (none-some on is)
prefix_of_side (true ∷ p) (true ∷ k) on is = prefix_of_side p k on is
prefix_of_side (true ∷ p) (false ∷ k) on is = absurd (none-some on is)
prefix_of_side (false ∷ p) (true ∷ k) on is = absurd (none-some on is)
prefix_of_side (false ∷ p) (false ∷ k) on is = prefix_of_side p k on is

-- a path and a side are a prefix of what lies below the path on that side
pub side_of_prefix : (p k : List Bool) (on : Bool) → is_prefix (p ++ on ∷ []) k ≡ true → side p k ≡ Some on
side_of_prefix [] [] on is = absurd (false≢true is)
side_of_prefix [] (true ∷ k) true is = refl
side_of_prefix [] (false ∷ k) true is = absurd (false≢true is)
side_of_prefix [] (true ∷ k) false is = absurd (false≢true is)
side_of_prefix [] (false ∷ k) false is = refl
side_of_prefix (a ∷ p) [] on is = absurd (false≢true is)
side_of_prefix (true ∷ p) (true ∷ k) on is = side_of_prefix p k on is
side_of_prefix (true ∷ p) (false ∷ k) on is = absurd (false≢true is)
side_of_prefix (false ∷ p) (true ∷ k) on is = absurd (false≢true is)
side_of_prefix (false ∷ p) (false ∷ k) on is = side_of_prefix p k on is

-- a path that has another as a prefix is the other, or lies below it
pub prefix_cases : (p k : List Bool) → is_prefix p k ≡ true → (p ≡ k) ⊎ ((on : Bool) × (side p k ≡ Some on))
prefix_cases [] [] h = inl refl
prefix_cases [] (b ∷ k) h = inr (b, refl)
prefix_cases (a ∷ p) [] h = absurd (false≢true h)
prefix_cases (true ∷ p) (true ∷ k) h = behind (prefix_cases p k h)
  where
    behind : (p ≡ k) ⊎ ((on : Bool) × (side p k ≡ Some on)) → (true ∷ p ≡ true ∷ k) ⊎ ((on : Bool) × (side p k ≡ Some on))
    behind (inl same) = inl (ap (λ (q : List Bool). true ∷ q) same)
    behind (inr below) = inr below
prefix_cases (true ∷ p) (false ∷ k) h = absurd (false≢true h)
prefix_cases (false ∷ p) (true ∷ k) h = absurd (false≢true h)
prefix_cases (false ∷ p) (false ∷ k) h = behind (prefix_cases p k h)
  where
    behind : (p ≡ k) ⊎ ((on : Bool) × (side p k ≡ Some on)) → (false ∷ p ≡ false ∷ k) ⊎ ((on : Bool) × (side p k ≡ Some on))
    behind (inl same) = inl (ap (λ (q : List Bool). false ∷ q) same)
    behind (inr below) = inr below

-- what has a path below as a prefix lies on the same side
pub side-prefix : (p k j : List Bool) (on : Bool) → side p k ≡ Some on → is_prefix k j ≡ true → side p j ≡ Some on
side-prefix [] [] j on is h = absurd (none-some on is)
side-prefix [] (b ∷ k) [] on is h = absurd (false≢true h)
side-prefix [] (true ∷ k) (true ∷ j) on is h = is
side-prefix [] (true ∷ k) (false ∷ j) on is h = absurd (false≢true h)
side-prefix [] (false ∷ k) (true ∷ j) on is h = absurd (false≢true h)
side-prefix [] (false ∷ k) (false ∷ j) on is h = is
side-prefix (a ∷ p) [] j on is h = absurd (none-some on is)
side-prefix (true ∷ p) (true ∷ k) [] on is h = absurd (false≢true h)
side-prefix (true ∷ p) (true ∷ k) (true ∷ j) on is h = side-prefix p k j on is h
side-prefix (true ∷ p) (true ∷ k) (false ∷ j) on is h = absurd (false≢true h)
side-prefix (true ∷ p) (false ∷ k) j on is h = absurd (none-some on is)
side-prefix (false ∷ p) (true ∷ k) j on is h = absurd (none-some on is)
side-prefix (false ∷ p) (false ∷ k) [] on is h = absurd (false≢true h)
side-prefix (false ∷ p) (false ∷ k) (true ∷ j) on is h = absurd (false≢true h)
side-prefix (false ∷ p) (false ∷ k) (false ∷ j) on is h = side-prefix p k j on is h

-- what lies below a path that lies below is on the same side
pub side-trans : (p k j : List Bool) (on which : Bool) → side p k ≡ Some on → side k j ≡ Some which → side p j ≡ Some on
side-trans p k j on which is below = side-prefix p k j on is (prefix_of_side k j which below)

-- of two paths above one they are the same, or one lies above the other, on the side of the one below
pub side-compare : (p k j : List Bool) (on which : Bool) → side p j ≡ Some on → side k j ≡ Some which
    → (p ≡ k) ⊎ ((side p k ≡ Some on) ⊎ (side k p ≡ Some which))
side-compare [] [] j on which is below = inl refl
side-compare [] (b ∷ k) [] on which is below = absurd (none-some which below)
side-compare [] (true ∷ k) (true ∷ j) on which is below = inr (inl is)
side-compare [] (true ∷ k) (false ∷ j) on which is below = absurd (none-some which below)
side-compare [] (false ∷ k) (true ∷ j) on which is below = absurd (none-some which below)
side-compare [] (false ∷ k) (false ∷ j) on which is below = inr (inl is)
side-compare (a ∷ p) k [] on which is below = absurd (none-some on is)
side-compare (true ∷ p) [] (true ∷ j) on which is below = inr (inr below)
side-compare (false ∷ p) [] (true ∷ j) on which is below = absurd (none-some on is)
side-compare (true ∷ p) [] (false ∷ j) on which is below = absurd (none-some on is)
side-compare (false ∷ p) [] (false ∷ j) on which is below = inr (inr below)
side-compare (true ∷ p) (true ∷ k) (true ∷ j) on which is below = behind (side-compare p k j on which is below)
  where
    behind : (p ≡ k) ⊎ ((side p k ≡ Some on) ⊎ (side k p ≡ Some which)) → (true ∷ p ≡ true ∷ k) ⊎ ((side p k ≡ Some on) ⊎ (side k p ≡ Some which))
    behind (inl same) = inl (ap (λ (q : List Bool). true ∷ q) same)
    behind (inr above) = inr above
side-compare (true ∷ p) (false ∷ k) (true ∷ j) on which is below = absurd (none-some which below)
side-compare (true ∷ p) (b ∷ k) (false ∷ j) on which is below = absurd (none-some on is)
side-compare (false ∷ p) (b ∷ k) (true ∷ j) on which is below = absurd (none-some on is)
side-compare (false ∷ p) (true ∷ k) (false ∷ j) on which is below = absurd (none-some which below)
side-compare (false ∷ p) (false ∷ k) (false ∷ j) on which is below = behind (side-compare p k j on which is below)
  where
    behind : (p ≡ k) ⊎ ((side p k ≡ Some on) ⊎ (side k p ≡ Some which)) → (false ∷ p ≡ false ∷ k) ⊎ ((side p k ≡ Some on) ⊎ (side k p ≡ Some which))
    behind (inl same) = inl (ap (λ (q : List Bool). false ∷ q) same)
    behind (inr above) = inr above

-- a path above another doesn't have it as a prefix
pub above_no_prefix : (p k : List Bool) (on : Bool) → side p k ≡ Some on → is_prefix k p ≡ true → ⊥
above_no_prefix p k on is h =
    none-some on (sym (side-self p) ∙ side-prefix p k p on is h)

-- nor is it the other
pub above_apart : (p k : List Bool) (on : Bool) → side p k ≡ Some on → p ≢ k
above_apart p k on is same =
    none-some on (sym (side-self p) ∙ ap (side p) same ∙ is)
