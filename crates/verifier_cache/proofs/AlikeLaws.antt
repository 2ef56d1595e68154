-- Entries by rising path.
use Rattle.std.proofs.Common.{◌≡◌, ◌≢◌, ℕ, ◌<◌, ◌≤◌, Bool, true, false, List, [], ◌∷◌, ◌++◌, Option, Some, None, IsNone, if◌then◌else◌, refl, sym, ◌∙◌, ap, subst, arith}
use Rattle.std.specs.Option.{option_or}
use Rattle.std.proofs.lemmas.Bool.{false≢true}
use Rattle.tree_keys.specs.Path.{same_path}
use Rattle.tree_keys.proofs.PathLaws.{same_path-apart, same_path-true}
use Rattle.path_index.specs.Order.{order_of}
use Rattle.verifier_cache.specs.declared.entry.Entry.{Entry}
use Rattle.verifier_cache.specs.Cache.{entry_of, AreDistinct}
use Rattle.verifier_cache.specs.Alike.{RisesFrom, Rises}
use Rattle.verifier_cache.proofs.EntriesLaws.{here_same, entry_of-append}

-- paths of which one comes before the other are two
apart_by_order : (p q : List Bool) → order_of p < order_of q → same_path p q ≡ false
apart_by_order p q less = same_path-apart p q (λ same. omega (arith, less, ap order_of same))

-- a path that comes no later than that of an entry isn't found behind it
absent_behind : (k : List Bool) (x : Entry) (xs : List Entry) → order_of k ≤ order_of x.path → RisesFrom x xs → IsNone (entry_of k xs)
absent_behind k x [] early rises = refl
absent_behind k x (y ∷ ys) early rises =
    let less : order_of k < order_of y.path = omega (arith, early, rises.0) in
    subst (λ (b : Bool). IsNone (if b then Some y else entry_of k ys)) (sym (apart_by_order k y.path less)) (absent_behind k y ys (omega (arith, less)) rises.1)

distinct_behind : (x : Entry) (xs : List Entry) → RisesFrom x xs → AreDistinct (x ∷ xs)
distinct_behind x [] rises = (refl, tt)
distinct_behind x (y ∷ ys) rises = (absent_behind x.path x (y ∷ ys) (omega arith) rises, distinct_behind y ys rises.1)

-- Rising paths are distinct.
pub AreDistinct-from_rises : (xs : List Entry) → Rises xs → AreDistinct xs
AreDistinct-from_rises [] rises = tt
AreDistinct-from_rises (x ∷ xs) rises = distinct_behind x xs rises

-- ---- an entry behind those before it

-- their paths come before this place of the order
abbrev pub AreBefore : ℕ → List Entry → Type 0
AreBefore place [] = Unit {0}
AreBefore place (x ∷ xs) = (order_of x.path < place) × AreBefore place xs

pub AreBefore-later : (place later : ℕ) (xs : List Entry) → place ≤ later → AreBefore place xs → AreBefore later xs
AreBefore-later place later [] further before = tt
AreBefore-later place later (x ∷ xs) further before = (omega (arith, further, before.0), AreBefore-later place later xs further before.1)

pub AreBefore-push : (place : ℕ) (xs : List Entry) (e : Entry) → AreBefore place xs → order_of e.path < place → AreBefore place (xs ++ e ∷ [])
AreBefore-push place [] e before less = (less, tt)
AreBefore-push place (x ∷ xs) e before less = (before.0, AreBefore-push place xs e before.1 less)

rises_behind : (x : Entry) (xs : List Entry) (e : Entry) → RisesFrom x xs → AreBefore (order_of e.path) (x ∷ xs) → RisesFrom x (xs ++ e ∷ [])
rises_behind x [] e rises before = (before.0, tt)
rises_behind x (y ∷ ys) e rises before = (rises.0, rises_behind y ys e rises.1 before.1)

pub Rises-push : (xs : List Entry) (e : Entry) → Rises xs → AreBefore (order_of e.path) xs → Rises (xs ++ e ∷ [])
Rises-push [] e rises before = tt
Rises-push (x ∷ xs) e rises before = rises_behind x xs e rises before

-- ---- entries that are distinct with others behind them

-- an entry is found where it comes behind others
found_there : (x : Entry) (xs ys : List Entry) (e : Entry) → e.path ≡ x.path → IsNone (entry_of x.path (xs ++ e ∷ ys)) → ⊥
found_there x xs ys e same none =
    let here : entry_of x.path (e ∷ ys) ≡ Some e = ap (λ (b : Bool). if b then Some e else entry_of x.path ys) (here_same x.path e same) in
    go (entry_of x.path xs) (subst (λ (o : Option Entry). IsNone o) (entry_of-append x.path xs (e ∷ ys) ∙ ap (option_or (entry_of x.path xs)) here) none)
  where
    go : (o : Option Entry) → IsNone (option_or o (Some e)) → ⊥
    go None is = false≢true (sym is)
    go (Some y) is = false≢true (sym is)

-- an entry isn't found among those before it
pub absent_before : (xs ys : List Entry) (e : Entry) → AreDistinct (xs ++ e ∷ ys) → IsNone (entry_of e.path xs)
absent_before [] ys e distinct = refl
absent_before (x ∷ xs) ys e distinct = go (absent_before xs ys e distinct.1) (same_path e.path x.path) refl
  where
    go : IsNone (entry_of e.path xs) → (b : Bool) → same_path e.path x.path ≡ b → IsNone (if b then Some x else entry_of e.path xs)
    go further true is = absurd (found_there x xs ys e (same_path-true e.path x.path is) distinct.0)
    go further false is = further
