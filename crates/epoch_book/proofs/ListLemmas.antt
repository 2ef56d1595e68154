-- Sums over lists of which one element changes, and what rows have at one place.
use Rattle.std.proofs.Common.{◌≡◌, ◌≢◌, ℕ, zero, suc, ◌+◌, List, [], ◌∷◌, ◌++◌, length, set, refl, sym, ap, ◌∙◌, arith}
use Rattle.std.specs.Prelude.{slice_index, sum_by}
use mathlib.Core.Option.{some, some-injective, some-ne-none}
use lib.ListN.{get_elem?}
use Rattle.std.proofs.lemmas.List.Sums.{sum_by-cons, sum_by-append}
use Rattle.epoch_book.specs.Words.{column}

-- one element is replaced
pub sum_set : {X : Type 0} (f : X → ℕ) (xs : List X) (i : ℕ) (x y : X) → get_elem? xs i ≡ some x → sum_by f (set xs i y) + f x ≡ sum_by f xs + f y
sum_set f [] i x y at = absurd (some-ne-none x (sym at))
sum_set f (z ∷ xs) zero x y at = omega (arith, sum_by-cons f y xs, sum_by-cons f z xs, ap f (some-injective z x at))
sum_set f (z ∷ xs) (suc i) x y at = omega (arith, sum_by-cons f z (set xs i y), sum_by-cons f z xs, sum_set f xs i x y at)

-- one element more
pub sum_more : {X : Type 0} (f : X → ℕ) (xs : List X) (x : X) → sum_by f (xs ++ x ∷ []) ≡ sum_by f xs + f x
sum_more f xs x = omega (arith, sum_by-append f xs (x ∷ []), sum_by-cons f x [])

pub column-one : (word : ℕ) (row : List ℕ) → column word (row ∷ []) ≡ slice_index row word
column-one word row = sum_by-cons (λ r. slice_index r word) row [] ∙ omega arith

pub column-append : (word : ℕ) (rows others : List (List ℕ)) → column word (rows ++ others) ≡ column word rows + column word others
column-append word rows others = sum_by-append (λ row. slice_index row word) rows others

-- a number behind a row stands at the row's length, and changes nothing elsewhere
pub index-behind : (row : List ℕ) (number word : ℕ) → word ≡ length row → slice_index (row ++ number ∷ []) word ≡ number
index-behind [] number zero here = refl
index-behind [] number (suc word) here = absurd (omega arith)
index-behind (n ∷ row) number zero here = absurd (omega arith)
index-behind (n ∷ row) number (suc word) here = index-behind row number word (omega arith)

pub index-elsewhere : (row : List ℕ) (number word : ℕ) → word ≢ length row → slice_index (row ++ number ∷ []) word ≡ slice_index row word
index-elsewhere [] number zero apart = absurd (apart refl)
index-elsewhere [] number (suc word) apart = refl
index-elsewhere (n ∷ row) number zero apart = refl
index-elsewhere (n ∷ row) number (suc word) apart = index-elsewhere row number word (λ same. apart (ap suc same))

pub index-past : (row : List ℕ) (word : ℕ) → word ≡ length row → slice_index row word ≡ 0
index-past [] word here = refl
index-past (n ∷ row) zero here = absurd (omega arith)
index-past (n ∷ row) (suc word) here = index-past row word (omega arith)
