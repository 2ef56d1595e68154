-- Passes in the order of their verifiers.
use Rattle.std.proofs.Common.{◌≡◌, ◌⊎◌, ℕ, zero, suc, ◌+◌, ◌-◌, List, [], ◌∷◌, ◌++◌, length, Some, refl, sym, ap, ◌∙◌, subst, inl, inr, ⊎_elim, arith, length-append, append_assoc, get_or}
use Rattle.std.specs.Prelude.{slice_get, All}
use Rattle.std.proofs.Math.ListN.{get_or-append}
use Rattle.std.proofs.Math.Seq.{get_or-append_seam}
use Rattle.std.proofs.lemmas.List.{map-append}
use Rattle.atomic_table.specs.Table.{Me}
use Rattle.epoch_book.specs.declared.rule.Account.{Account}
use Rattle.epoch_book.specs.declared.pass.Pass.{Pass}
use Rattle.epoch_book.specs.Words.{account_of, dealt_from}
use Rattle.epoch_book.specs.Numbers.{row_of}
use Rattle.epoch_book.specs.Passes.{rows_of}

-- the last of a list, or one before it
get-snoc : {X : Type 0} (xs : List X) (x y : X) (k : ℕ) → slice_get (xs ++ x ∷ []) k ≡ Some y → (slice_get xs k ≡ Some y) ⊎ ((k ≡ length xs) × (x ≡ y))
get-snoc [] x y zero at = inr (refl, cc)
get-snoc [] x y (suc k) at = absurd (cc)
get-snoc (z ∷ xs) x y zero at = inl at
get-snoc (z ∷ xs) x y (suc k) at = ⊎_elim inl (λ here. inr (ap suc here.0, here.1)) (get-snoc xs x y k at)

-- what holds of each by its place holds with one more
pub dealt-each : {X : Type 0} (P : ℕ → X → Type 0) (all xs : List X) (x : X) → all ≡ xs ++ x ∷ [] → ((k : ℕ) (y : X) → slice_get xs k ≡ Some y → P k y) → P (length xs) x → (k : ℕ) (y : X) → slice_get all k ≡ Some y → P k y
dealt-each P all xs x is each last k y at =
    ⊎_elim
    (λ (there : slice_get xs k ≡ Some y). each k y there)
    (λ (here : (k ≡ length xs) × (x ≡ y)). subst (P k) here.1 (subst (λ (j : ℕ). P j x) (sym here.0) last))
    (get-snoc xs x y k (ap (λ zs. slice_get zs k) (sym is) ∙ at))

-- what is left to deal
pub one_less : (verifiers number : ℕ) (me : Me (Unit {0}) Account) → me ≡ (account_of (verifiers - number) [], []) → (let now : Me (Unit {0}) Account = (dealt_from me.0, me.1) in now) ≡ (account_of (verifiers - (number + 1)) [], [])
one_less verifiers number me is =
    ap (λ (m : Me (Unit {0}) Account). let now : Me (Unit {0}) Account = (dealt_from m.0, m.1) in now) is
    ∙ ap (λ (k : ℕ). let now : Me (Unit {0}) Account = (account_of k [], []) in now) (omega arith)

-- ---- the last pass leaves

pub all-front : {X : Type 0} (P : X → Type 0) (all xs : List X) (x : X) → all ≡ xs ++ x ∷ [] → All P all → All P xs
all-front P all xs x is each k d within = subst P (ap (λ zs. get_or zs k d) is ∙ get_or-append xs (x ∷ []) d k within) (each k d (omega (arith, ap length is, length-append xs (x ∷ []))))

pub all-last : {X : Type 0} (P : X → Type 0) (all xs : List X) (x : X) → all ≡ xs ++ x ∷ [] → All P all → P x
all-last P all xs x is each = subst P (ap (λ zs. get_or zs (length xs) x) is ∙ get_or-append_seam xs x [] x) (each (length xs) x (omega (arith, ap length is, length-append xs (x ∷ []))))

-- its row stands in front of those that were gathered
pub rows-gathered : (all passes : List Pass) (pass : Pass) (rows : List (List ℕ)) → all ≡ passes ++ pass ∷ [] → rows_of passes ++ ((row_of pass.part ∷ []) ++ rows) ≡ rows_of all ++ rows
rows-gathered all passes pass rows is =
    sym (append_assoc (rows_of passes) (row_of pass.part ∷ []) rows)
    ∙ ap (λ zs. zs ++ rows) (sym (map-append (λ p. row_of p.part) passes (pass ∷ [])) ∙ ap rows_of (sym is))
