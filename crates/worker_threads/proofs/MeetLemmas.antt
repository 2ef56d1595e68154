-- Pairs that have met, one more behind them.
use Rattle.std.proofs.Common.{◌≡◌, ◌≢◌, ℕ, ◌<◌, ◌+◌, ◌⊎◌, inl, inr, List, [], ◌∷◌, ◌++◌, length, get_or, refl, sym, ◌∙◌, ap, subst, All, arith, length-append}
use Rattle.std.proofs.Math.ListN.{get_or-append}
use Rattle.std.proofs.Math.Seq.{get_or-append_seam}
use Rattle.std.proofs.lemmas.Bool.{cases_eq}
use Rattle.record_hash.specs.Functions.{DigestFunctions}
use Rattle.round_workers.specs.declared.shared_round.SharedRound.{SharedRound}
use Rattle.worker_threads.specs.declared.worker_pair.WorkerPair.{WorkerPair}
use Rattle.worker_threads.specs.Pairs.{HasMet, HaveMet}

module _ (all front : List WorkerPair) (last : WorkerPair) (parts : all ≡ front ++ last ∷ []) where
  at_front : (i : ℕ) (d : WorkerPair) → i < length front → get_or all i d ≡ get_or front i d
  at_front i d there = ap (λ (ps : List WorkerPair). get_or ps i d) parts ∙ get_or-append front (last ∷ []) d i there

  at_last : (i : ℕ) (d : WorkerPair) → i ≡ length front → get_or all i d ≡ last
  at_last i d is =
      ap (λ (ps : List WorkerPair). get_or ps i d) parts ∙ ap (λ (n : ℕ). get_or (front ++ last ∷ []) n d) is
      ∙ get_or-append_seam front last [] d

  pub one_more : length all ≡ length front + 1
  one_more = ap (λ (ps : List WorkerPair). length ps) parts ∙ length-append front (last ∷ [])

  -- What holds of all holds of those before the last,
  pub all_before : (P : WorkerPair → Type 0) → All P all → All P front
  all_before P every i d there = subst P (at_front i d there) (every i d (let more = one_more in omega (arith, there, more)))

  -- and of the last.
  pub of_last : (P : WorkerPair → Type 0) → All P all → P last
  of_last P every = subst P (at_last (length front) last refl) (every (length front) last (let more = one_more in omega (arith, more)))

  -- Where those before the last have met, and the last has, all have.
  pub all_met : {D : Type 0} (functions : D → DigestFunctions) (shared : SharedRound D) (met after : List WorkerPair) (done : WorkerPair)
      → HaveMet functions shared front met → HasMet functions shared last done → after ≡ met ++ done ∷ [] → HaveMet functions shared all after
  all_met functions shared met after done before one pushed = record {
    count = ap (λ (ps : List WorkerPair). length ps) pushed ∙ length-append met (done ∷ []) ∙ ap (λ (n : ℕ). n + 1) before.count ∙ sym one_more;
    each = λ i d there. meets i d there (cases_eq i (length front));
  }
    where
      meets : (i : ℕ) (d : WorkerPair) → i < length all → (i ≡ length front) ⊎ (i ≢ length front) → HasMet functions shared (get_or all i d) (get_or after i d)
      meets i d there (inl is) =
          let in_after : get_or after i d ≡ done =
          ap (λ (ps : List WorkerPair). get_or ps i d) pushed ∙ ap (λ (n : ℕ). get_or (met ++ done ∷ []) n d) (is ∙ sym before.count) ∙ get_or-append_seam met done [] d in
          subst (λ (p : WorkerPair). HasMet functions shared p (get_or after i d)) (sym (at_last i d is))
          (subst (HasMet functions shared last) (sym in_after) one)
      meets i d there (inr other) =
          let inside : i < length front = (let more = one_more in omega (arith, there, other, more)) in
          let in_after : get_or after i d ≡ get_or met i d =
          ap (λ (ps : List WorkerPair). get_or ps i d) pushed ∙ get_or-append met (done ∷ []) d i (let same = before.count in omega (arith, inside, same)) in
          subst (λ (p : WorkerPair). HasMet functions shared p (get_or after i d)) (sym (at_front i d inside))
          (subst (HasMet functions shared (get_or front i d)) (sym in_after) (before.each i d inside))

-- Of no pairs all have met.
pub none_met : {D : Type 0} (functions : D → DigestFunctions) (shared : SharedRound D) (pairs : List WorkerPair) → length pairs ≡ 0 → HaveMet functions shared pairs pairs
none_met functions shared pairs none = record {
  count = refl;
  each = λ i d there. absurd (omega (arith, there, none));
}
