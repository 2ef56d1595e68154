-- Sums of lists, lane by lane.
use Rattle.std.proofs.Common.{◌≡◌, ℕ, ◌+◌, List, [], ◌∷◌, ◌++◌, length, refl, sym, ap, ◌∙◌, slice_index, length-append, add_comm, add_assoc, add-zero, arith}
use Rattle.std.specs.Prelude.{IsPermutation}
use Rattle.std.proofs.lemmas.List.Sums.{sum_by-append, sum_by_push}
use Rattle.std.proofs.lemmas.List.Sorted.{sum_by-IsPermutation, length_permutation}
use Rattle.multiset_sum.specs.Tally.{Tally, IsTally}
use Rattle.multiset_sum.specs.Sum.{zero_sum, with_lanes, joined, sum_of, eight}

-- sums that agree in each lane and in the count are one
same_tally : (f g : ℕ → ℕ) (m n : ℕ) → ((lane : ℕ) → f lane ≡ g lane) → m ≡ n → (let s : Tally = record { lanes = eight f; count = m } in s) ≡ record { lanes = eight g; count = n }
same_tally f g m n lanes counts = cc (lanes 0, lanes 1, lanes 2, lanes 3, lanes 4, lanes 5, lanes 6, lanes 7)

pub with_lanes-sum_of : (elements : List (List ℕ)) (lanes : List ℕ) → with_lanes (sum_of elements) lanes ≡ sum_of (elements ++ lanes ∷ [])
with_lanes-sum_of elements lanes =
    same_tally _ _ _ _ (λ lane. sym (sum_by_push (λ hash. slice_index hash lane) elements lanes)) (sym (length-append elements (lanes ∷ [])))

pub joined-sum_of : (some others : List (List ℕ)) → joined (sum_of some) (sum_of others) ≡ sum_of (some ++ others)
joined-sum_of some others =
    same_tally _ _ _ _ (λ lane. sym (sum_by-append (λ hash. slice_index hash lane) some others)) (sym (length-append some others))

pub sum_of-permutation : (elements others : List (List ℕ)) → IsPermutation elements others → sum_of others ≡ sum_of elements
sum_of-permutation elements others h =
    same_tally _ _ _ _ (λ lane. sum_by-IsPermutation (λ hash. slice_index hash lane) elements others h) (length_permutation elements others h)

pub joined-comm : (s t : Tally) → joined s t ≡ joined t s
joined-comm s t =
    same_tally _ _ _ _ (λ lane. add_comm (slice_index s.lanes lane) (slice_index t.lanes lane)) (add_comm s.count t.count)

pub joined-assoc : (s t u : Tally) → joined (joined s t) u ≡ joined s (joined t u)
joined-assoc s t u =
    let at : Tally → ℕ → ℕ = λ (x : Tally) (lane : ℕ). slice_index x.lanes lane in
    same_tally (λ lane. at s lane + at t lane + at u lane) (λ lane. at s lane + (at t lane + at u lane)) _ _ (λ lane. add_assoc (at s lane) (at t lane) (at u lane)) (add_assoc s.count t.count u.count)

-- eight numbers are those at their eight places
pub eight-slice_index : (lanes : List ℕ) → length lanes ≡ 8 → eight (slice_index lanes) ≡ lanes
eight-slice_index (a ∷ b ∷ c ∷ d ∷ e ∷ f ∷ g ∷ h ∷ []) count = refl
eight-slice_index lanes count = absurd (omega arith)

pub joined-zero : (s : Tally) → IsTally s → joined s zero_sum ≡ s
joined-zero s h =
    same_tally (λ lane. slice_index s.lanes lane + 0) (slice_index s.lanes) _ _ (λ lane. add-zero (slice_index s.lanes lane)) (add-zero s.count)
    ∙ ap (λ (lanes : List ℕ). let t : Tally = record { lanes = lanes; count = s.count } in t) (eight-slice_index s.lanes h.eight)
