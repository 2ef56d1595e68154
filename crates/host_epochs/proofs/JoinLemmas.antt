-- Lists that are joined, with one entry more in one of them.
use Rattle.std.proofs.Common.{◌≡◌, ℕ, zero, suc, ◌+◌, ◌<◌, ◌≤◌, List, [], ◌∷◌, ◌++◌, append_assoc, refl, sym, ap, ◌∙◌, subst, arith, IsPermutation}
use Rattle.std.proofs.lemmas.List.Sorted.{IsPermutation-sym, IsPermutation-trans, IsPermutation-cons, IsPermutation-append_right, IsPermutation-middle}
use mathlib.Core.Logic.{dite}
use native.Mathlib.Decide.{ℕ_discrete}
use Rattle.host_epochs.specs.declared.told.Entry.{Entry}
use Rattle.host_epochs.specs.Told.{joined_from}
use Rattle.host_epochs.proofs.ToldLemmas.{put, put_here, put_else}

pub joined_alike : (number count : ℕ) (f g : ℕ → List Entry) → ((i : ℕ) → number ≤ i → f i ≡ g i) → joined_from number count f ≡ joined_from number count g
joined_alike number zero f g same = refl
joined_alike number (suc count) f g same = λ k. same number (omega arith) k ++ joined_alike (suc number) count f g (λ i le. same i (omega arith)) k

-- one entry more in one of them
joined_more : (number count i : ℕ) (f : ℕ → List Entry) (entry : Entry) → number ≤ i → i < number + count
    → IsPermutation (entry ∷ joined_from number count f) (joined_from number count (put f i (f i ++ entry ∷ [])))
joined_more number zero i f entry from below = absurd (omega arith)
joined_more number (suc count) i f entry from below =
    let g : ℕ → List Entry = put f i (f i ++ entry ∷ []) in
    let rest : List Entry = joined_from (suc number) count f in
    let first : IsPermutation (entry ∷ (f number ++ rest)) (f number ++ entry ∷ rest) = IsPermutation-sym _ _ (IsPermutation-middle (f number) entry rest) in
    dite (ℕ_discrete number i)
    (λ e.
    let same : g number ≡ f number ++ entry ∷ [] = ap g e ∙ (put_here f i (f i ++ entry ∷ []) ∙ ap (λ j. f j ++ entry ∷ []) (sym e)) in
    let others : joined_from (suc number) count g ≡ rest = joined_alike (suc number) count g f (λ j le. put_else f i (f i ++ entry ∷ []) j (λ is. absurd (omega arith))) in
    let whole : f number ++ entry ∷ rest ≡ g number ++ joined_from (suc number) count g = sym (append_assoc (f number) (entry ∷ []) rest) ∙ (λ k. sym same k ++ sym others k) in
    subst (IsPermutation (entry ∷ (f number ++ rest))) whole first)
    (λ other.
    subst (λ front. IsPermutation (entry ∷ (f number ++ rest)) (front ++ joined_from (suc number) count g))
    (sym (put_else f i (f i ++ entry ∷ []) number other))
    (IsPermutation-trans _ _ _ first (IsPermutation-append_right (f number) _ _ (joined_more (suc number) count i f entry (omega arith) (omega arith)))))

-- one entry more on both sides
pub even_more : (workers places i p : ℕ) (list past : ℕ → List Entry) (entry : Entry) → i < workers → p < places
    → IsPermutation (joined_from 0 workers list) (joined_from 0 places past)
    → IsPermutation (joined_from 0 workers (put list i (list i ++ entry ∷ []))) (joined_from 0 places (put past p (past p ++ entry ∷ [])))
even_more workers places i p list past entry known there even =
    IsPermutation-trans _ _ _ (IsPermutation-sym _ _ (joined_more 0 workers i list entry (omega arith) (omega arith)))
    (IsPermutation-trans _ _ _ (IsPermutation-cons entry _ _ even) (joined_more 0 places p past entry (omega arith) (omega arith)))
