-- Logs that lie in memory: no bytes at first, and one with bytes more.
use Rattle.std.proofs.Common.{◌≡◌, ℕ, zero, suc, ◌<◌, Bool, true, false, List, [], ◌∷◌, ◌++◌, length, map, slice_index_or, slice_set, Result, Ok, Err, OnOk, is_ok, refl, sym, ◌∙◌, ap, arith, if◌then◌else◌}
use Rattle.std.proofs.lemmas.Bool.{false≢true}
use Rattle.bundle_report.specs.Logs.{empty_logs, appended}

-- one log of no bytes more
pub empty_logs_more : (count : ℕ) → empty_logs count ++ [] ∷ [] ≡ empty_logs (suc count)
empty_logs_more zero = refl
empty_logs_more (suc count) = ap (λ (logs : List (List ℕ)). [] ∷ logs) (empty_logs_more count)

map-append_one : {A B : Type 0} (f : A → B) (xs : List A) (y : A) → map f (xs ++ y ∷ []) ≡ map f xs ++ f y ∷ []
map-append_one f [] y = refl
map-append_one f (x ∷ xs) y = ap (λ (more : List _). f x ∷ more) (map-append_one f xs y)

-- logs of no bytes, and one more
pub new_log : {A : Type 0} (f : A → List ℕ) (xs ys : List A) (y : A) (count next : ℕ) → ys ≡ xs ++ y ∷ [] → f y ≡ [] → next ≡ suc count
    → map f xs ≡ empty_logs count → map f ys ≡ empty_logs next
new_log f xs ys y count next is empty more had =
    ap (map f) is ∙ map-append_one f xs y
    ∙ ap (λ (l : List ℕ). map f xs ++ l ∷ []) empty
    ∙ ap (λ (logs : List (List ℕ)). logs ++ [] ∷ []) had
    ∙ empty_logs_more count ∙ ap empty_logs (sym more)

-- the log at an index with bytes more
pub appended_set : {A : Type 0} (f : A → List ℕ) (xs : List A) (index : ℕ) (y : A) (bytes : List ℕ) (d : A) → index < length xs
    → f y ≡ f (slice_index_or xs index d) ++ bytes → map f (slice_set xs index y) ≡ appended index bytes (map f xs)
appended_set f [] index y bytes d within is = absurd (omega (arith, within))
appended_set f (x ∷ xs) zero y bytes d within is = ap (λ (l : List ℕ). l ∷ map f xs) is
appended_set f (x ∷ xs) (suc index) y bytes d within is = ap (λ (more : List (List ℕ)). f x ∷ more) (appended_set f xs index y bytes d (omega (arith, within)) is)

-- what holds on success
pub on_ok_from : {T E P : Type 0} (r : Result T E) → (is_ok r ≡ true → P) → OnOk r P
on_ok_from (Ok value) holds = holds refl
on_ok_from (Err fault) holds = tt

-- of two, the first, where the test is true
pub first_of : {A : Type 0} (b : Bool) (x y z : A) → z ≡ (if b then x else y) → b ≡ true → z ≡ x
first_of true x y z is same = is
first_of false x y z is same = absurd (false≢true same)
