-- The seats of one shard: no key is hot at two of them, nor where the shard's own seat has it.
use Rattle.std.proofs.Common.{◌≡◌, ℕ, zero, suc, ◌<◌, Bool, true, false, not, List, [], ◌∷◌, length, get_or, refl, sym, ◌∙◌, ap, subst}
use Rattle.std.specs.List.{AllByRecursion, list_any}
use Rattle.std.proofs.lemmas.Bool.{false≢true, and_parts, eqb-true, eq-eqb}
use Rattle.std.proofs.lemmas.List.Folds.{list_any_at}
use Rattle.tree_keys.specs.Path.{is_prefix}
use Rattle.host_shard.specs.declared.content.HotRecord.{HotRecord}
use Rattle.host_shard.specs.Shard.{key_path_in, Shard}
use Rattle.host_shard.specs.Content.{Content, cold, hot, vacant}
use Rattle.protection_moves.specs.Stage.{hot_records, is_hot_at}
use Rattle.move_laws.specs.Stages.{IsOne}
use Rattle.move_laws.proofs.PlaceLaws.{AreApart, one_of-all}
use Rattle.shipped_host.specs.ShippedHost.{serves_key}
use Rattle.shipped_host.proofs.PlaceLaws.{hot_there}

no_hot : (found : HotRecord) → vacant ≡ hot found → ⊥
no_hot found is = cc

cold_hot : (shard : Shard) (found : HotRecord) → cold shard ≡ hot found → ⊥
cold_hot shard found is = cc

same_hot : (a b : HotRecord) → hot a ≡ hot b → a ≡ b
same_hot a b is = cc

not_both : (b : Bool) → not b ≡ true → b ≡ true → ⊥
not_both true is also = false≢true is
not_both false is also = false≢true also

-- no two hot records of a key
apart_here : (first b : HotRecord) (places : List Content) → AllByRecursion (λ r. r.key ≡ first.key → ⊥) (hot_records places) → IsOne (hot_records places) b
    → b.key ≡ first.key → ⊥
apart_here first b places apart is = one_of-all (λ r. r.key ≡ first.key → ⊥) (hot_records places) b apart is

one_seat : (places : List Content) → AreApart (hot_records places) → (j k : ℕ) (a b : HotRecord) → get_or places j vacant ≡ hot a
    → get_or places k vacant ≡ hot b → a.key ≡ b.key → j ≡ k
one_seat [] apart j k a b first second same = absurd (no_hot a first)
one_seat (content ∷ places) apart zero zero a b first second same = refl
one_seat (cold shard ∷ places) apart zero (suc k) a b first second same = absurd (cold_hot shard a first)
one_seat (vacant ∷ places) apart zero (suc k) a b first second same = absurd (no_hot a first)
one_seat (hot found ∷ places) apart zero (suc k) a b first second same =
    absurd (apart_here found b places apart.0 (hot_there places k b second) (sym same ∙ ap (λ (r : HotRecord). r.key) (sym (same_hot found a first))))
one_seat (cold shard ∷ places) apart (suc j) zero a b first second same = absurd (cold_hot shard b second)
one_seat (vacant ∷ places) apart (suc j) zero a b first second same = absurd (no_hot b second)
one_seat (hot found ∷ places) apart (suc j) zero a b first second same =
    absurd (apart_here found a places apart.0 (hot_there places j a first) (same ∙ ap (λ (r : HotRecord). r.key) (sym (same_hot found b second))))
one_seat (cold shard ∷ places) apart (suc j) (suc k) a b first second same = ap suc (one_seat places apart j k a b first second same)
one_seat (vacant ∷ places) apart (suc j) (suc k) a b first second same = ap suc (one_seat places apart j k a b first second same)
one_seat (hot found ∷ places) apart (suc j) (suc k) a b first second same = ap suc (one_seat places apart.1 j k a b first second same)

-- Where a seat serves the key, the key is hot at no other.
pub serves_alone : (seats : List Content) (shard : Shard) (places : List Content) → seats ≡ cold shard ∷ places → AreApart (hot_records places)
    → (seat other : ℕ) (key : ℕ) (kept : HotRecord) → other < length seats → serves_key seats key (get_or seats seat vacant) ≡ true
    → get_or seats other vacant ≡ hot kept → kept.key ≡ key → other ≡ seat
serves_alone seats shard places is apart seat other key kept there serves found same = go (get_or seats seat vacant) refl serves
  where
    go : (content : Content) → get_or seats seat vacant ≡ content → serves_key seats key content ≡ true → other ≡ seat
    go (cold own) here serves' =
        let parts = and_parts (is_prefix own.frontier (key_path_in own key)) (not (list_any (is_hot_at key) seats)) serves' in
        absurd (not_both (list_any (is_hot_at key) seats) parts.1
        (list_any_at (is_hot_at key) seats other vacant there (ap (is_hot_at key) found ∙ eq-eqb kept.key key same)))
    go (hot own) here serves' =
        sym (one_seat seats (subst (λ (xs : List Content). AreApart (hot_records xs)) (sym is) apart) seat other own kept here found
        (eqb-true own.key key serves' ∙ sym same))
    go vacant here serves' = absurd (false≢true serves')
