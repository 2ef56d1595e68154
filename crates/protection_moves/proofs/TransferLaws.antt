-- Stages in which no hot record comes back and no key becomes hot.
use Rattle.std.proofs.Common.{◌≡◌, ℕ, zero, suc, ◌+◌, List, [], ◌∷◌, ◌++◌, map, length, Option, None, refl, ◌∙◌, ap, subst, arith}
use Rattle.std.specs.Prelude.{take}
use Rattle.host_shard.specs.declared.content.HotRecord.{HotRecord}
use Rattle.protection_moves.specs.Stage.{Stage, vacancies, untouched_in}
use Rattle.protection_moves.specs.Transfer.{demotes, promotes, ArePromotable, transfers_of}

-- without a threshold no key is promotable
pub none_promotable : (stage : Stage) → ArePromotable stage None []
none_promotable stage = record {
  rising = λ i j d before within. absurd (omega (arith, within));
  promotable = λ key. (λ is. absurd (omega (arith, is.1.0)), λ is. absurd is);
}

pub no_promotable : (stage : Stage) (threshold : Option ℕ) (promotable : List ℕ) → threshold ≡ None → ArePromotable stage threshold promotable → promotable ≡ []
no_promotable stage threshold [] none' are = refl
no_promotable stage threshold (key ∷ keys) none' are =
    let without : ArePromotable stage None (key ∷ keys) = subst (λ (t : Option ℕ). ArePromotable stage t (key ∷ keys)) none' are in
    absurd ((without.promotable key).0 (0, (omega arith, refl)))

-- where each hot record was touched too, there are no transfers
pub no_transfers : (threshold : Option ℕ) (stage : Stage) (promotable : List ℕ) → untouched_in stage.places ≡ [] → threshold ≡ None
    → ArePromotable stage threshold promotable → transfers_of stage promotable ≡ []
no_transfers threshold stage promotable all_touched no_threshold are =
    ap (λ (keys : List ℕ). map demotes (untouched_in stage.places) ++ map promotes (take (vacancies stage.places + length (untouched_in stage.places)) keys))
    (no_promotable stage threshold promotable no_threshold are)
    ∙ ap (λ (back : List HotRecord). map demotes back ++ map promotes (take (vacancies stage.places + length back) [])) all_touched
    ∙ take-nil (vacancies stage.places + 0)
  where
    take-nil : (n : ℕ) → map promotes (take n []) ≡ []
    take-nil zero = refl
    take-nil (suc n) = refl
