-- The hot record of a key where a place changes.
use Rattle.std.proofs.Common.{◌≡◌, ◌⊎◌, ℕ, zero, suc, ◌<◌, Bool, true, false, List, [], ◌∷◌, get_or, set, Option, Some, None, refl, sym, ◌∙◌, ap, subst, inl, inr, if◌then◌else◌, arith}
use Rattle.std.specs.Prelude.{◌==◌}
use Rattle.std.specs.List.{AllByRecursion, IsAmong}
use Rattle.std.proofs.lemmas.Bool.{cases_eq, eqb-true, eq-eqb, ne_eqb}
use Rattle.std.proofs.lemmas.Option.{none-some}
use Rattle.lamport_clocks.specs.Reading.{Reading}
use Rattle.record_text.specs.declared.value.Value.{Value}
use Rattle.host_shard.specs.declared.content.HotRecord.{HotRecord}
use Rattle.host_shard.specs.Content.{Content, cold, hot, vacant, hot_path}
use Rattle.host_shard.specs.Mirrors.{HasKeyOf}
use Rattle.host_shard.specs.Shard.{Shard, key_path_in}
use Rattle.host_plan.specs.Moments.{renewing}
use Rattle.protection_moves.specs.Stage.{hot_records, hot_paths, vacancies, replaced, placed}
use Rattle.protection_moves.specs.Renewing.{renewed_record, renewed_places}
use Rattle.move_laws.specs.Stages.{IsOne}
use Rattle.move_laws.proofs.PlaceLaws.{HasNone, AreApart, all-are, all-map, apart-replaced, one-replaced, one_of-all}
use Rattle.move_laws.proofs.KeyLaws.{path_in}
use Rattle.move_laws.proofs.VacantLaws.{one-member, member-among}
use Rattle.host_holds.specs.Holding.{hot_record_of, value_or}

-- ---- whether a key is hot

-- a key that is none of the hot ones, which are of the shard's tree
pub none_hot : (shard : Shard) (key : ℕ) (places : List Content) → AllByRecursion (HasKeyOf shard) (hot_records places)
    → (IsAmong (hot_paths places) (key_path_in shard key) → ⊥) → HasNone key (hot_records places)
none_hot shard key places have cold_there =
    all-map (IsOne (hot_records places)) (λ found. found.key ≡ key → ⊥)
    (λ found is same. cold_there (subst (IsAmong (hot_paths places))
    (path_in shard found (one_of-all (HasKeyOf shard) (hot_records places) found have is) ∙ ap (key_path_in shard) same)
    (member-among (hot_paths places) (hot_path found) (one-member hot_path (hot_records places) found is))))
    (hot_records places) (all-are (hot_records places))

-- the first content doesn't tell
pub passed : (key : ℕ) (found : HotRecord) (places : List Content) → (found.key ≡ key → ⊥) → hot_record_of key (hot found ∷ places) ≡ hot_record_of key places
passed key found places apart = ap (λ (b : Bool). if b then Some found else hot_record_of key places) (ne_eqb found.key key apart)

first : (key : ℕ) (found : HotRecord) (places : List Content) → found.key ≡ key → hot_record_of key (hot found ∷ places) ≡ Some found
first key found places same = ap (λ (b : Bool). if b then Some found else hot_record_of key places) (eq-eqb found.key key same)

pub hot-none : (key : ℕ) (places : List Content) → HasNone key (hot_records places) → hot_record_of key places ≡ None
hot-none key [] none = refl
hot-none key (cold shard ∷ places) none = hot-none key places none
hot-none key (vacant ∷ places) none = hot-none key places none
hot-none key (hot found ∷ places) none = passed key found places none.0 ∙ hot-none key places none.1

-- a record that is there is found, where no key is hot twice
pub hot-found : (places : List Content) (found : HotRecord) → IsOne (hot_records places) found → AreApart (hot_records places)
    → hot_record_of found.key places ≡ Some found
hot-found [] found is apart = absurd is
hot-found (cold shard ∷ places) found is apart = hot-found places found is apart
hot-found (vacant ∷ places) found is apart = hot-found places found is apart
hot-found (hot other ∷ places) found (inl same) apart = first found.key other places (ap (λ (r : HotRecord). r.key) (sym same)) ∙ ap Some (sym same)
hot-found (hot other ∷ places) found (inr is) apart =
    passed found.key other places (λ same. one_of-all (λ r. r.key ≡ other.key → ⊥) (hot_records places) found apart.0 is (sym same))
    ∙ hot-found places found is apart.1

-- ---- a place that changes

-- the content of another key in front
skipped : (key : ℕ) (now : Content) (places : List Content) → hot_record_of key (now ∷ []) ≡ None → hot_record_of key (now ∷ places) ≡ hot_record_of key places
skipped key (cold shard) places none = refl
skipped key vacant places none = refl
skipped key (hot found) places none = go (found.key == key) none
  where
    go : (b : Bool) → (if b then Some found else None) ≡ None → (if b then Some found else hot_record_of key places) ≡ hot_record_of key places
    go true is = absurd (none-some found (sym is))
    go false is = refl

-- other keys have the records that they had
pub others-replaced : (key other : ℕ) (now : Content) (places : List Content) → (other ≡ key → ⊥) → hot_record_of other (now ∷ []) ≡ None
    → hot_record_of other (replaced key now places) ≡ hot_record_of other places
others-replaced key other now [] apart none = refl
others-replaced key other now (cold shard ∷ places) apart none = others-replaced key other now places apart none
others-replaced key other now (vacant ∷ places) apart none = others-replaced key other now places apart none
others-replaced key other now (hot found ∷ places) apart none = go (found.key == key) refl (others-replaced key other now places apart none)
  where
    go : (b : Bool) → (found.key == key) ≡ b → hot_record_of other (replaced key now places) ≡ hot_record_of other places
        → hot_record_of other ((if b then now else hot found) ∷ replaced key now places) ≡ hot_record_of other (hot found ∷ places)
    go true is rest =
        skipped other now (replaced key now places) none ∙ rest
        ∙ sym (passed other found places (λ same. apart (sym same ∙ eqb-true found.key key is)))
    go false is rest = ap (λ (o : Option HotRecord). if found.key == other then Some found else o) rest

-- a key whose place becomes vacant isn't hot any more
pub vacant-none : (key : ℕ) (places : List Content) → hot_record_of key (replaced key vacant places) ≡ None
vacant-none key [] = refl
vacant-none key (cold shard ∷ places) = vacant-none key places
vacant-none key (vacant ∷ places) = vacant-none key places
vacant-none key (hot found ∷ places) = go (found.key == key) refl (vacant-none key places)
  where
    go : (b : Bool) → (found.key == key) ≡ b → hot_record_of key (replaced key vacant places) ≡ None
        → hot_record_of key ((if b then vacant else hot found) ∷ replaced key vacant places) ≡ None
    go true is rest = rest
    go false is rest = ap (λ (b : Bool). if b then Some found else hot_record_of key (replaced key vacant places)) is ∙ rest

-- a hot key's record is replaced
pub hot-replaced : (new : HotRecord) (places : List Content) (found : HotRecord) → IsOne (hot_records places) found → found.key ≡ new.key
    → hot_record_of new.key (replaced new.key (hot new) places) ≡ Some new
hot-replaced new [] found is same = absurd is
hot-replaced new (cold shard ∷ places) found is same = hot-replaced new places found is same
hot-replaced new (vacant ∷ places) found is same = hot-replaced new places found is same
hot-replaced new (hot other ∷ places) found is same = go (other.key == new.key) refl is (λ one. hot-replaced new places found one same)
  where
    go : (b : Bool) → (other.key == new.key) ≡ b → (found ≡ other) ⊎ IsOne (hot_records places) found
        → (IsOne (hot_records places) found → hot_record_of new.key (replaced new.key (hot new) places) ≡ Some new)
        → hot_record_of new.key ((if b then hot new else hot other) ∷ replaced new.key (hot new) places) ≡ Some new
    go true here one further = first new.key new (replaced new.key (hot new) places) refl
    go false here (inl one) further = absurd (true_false (sym (eq-eqb other.key new.key (ap (λ (r : HotRecord). r.key) (sym one) ∙ same)) ∙ here))
      where
        true_false : true ≡ false → ⊥
        true_false is = cc
    go false here (inr one) further =
        ap (λ (b : Bool). if b then Some other else hot_record_of new.key (replaced new.key (hot new) places)) here
        ∙ further one

-- a key that becomes hot has the record that took a place
pub hot-placed : (new : HotRecord) (places : List Content) → HasNone new.key (hot_records places) → 0 < vacancies places
    → hot_record_of new.key (placed new places) ≡ Some new
hot-placed new [] none room = absurd (omega (arith, room))
hot-placed new (cold shard ∷ places) none room = hot-placed new places none room
hot-placed new (hot found ∷ places) none room = passed new.key found (placed new places) none.0 ∙ hot-placed new places none.1 room
hot-placed new (vacant ∷ places) none room = first new.key new places refl

pub others-placed : (new : HotRecord) (other : ℕ) (places : List Content) → (other ≡ new.key → ⊥)
    → hot_record_of other (placed new places) ≡ hot_record_of other places
others-placed new other [] apart = refl
others-placed new other (cold shard ∷ places) apart = others-placed new other places apart
others-placed new other (hot found ∷ places) apart =
    ap (λ (o : Option HotRecord). if found.key == other then Some found else o) (others-placed new other places apart)
others-placed new other (vacant ∷ places) apart = passed other new places (λ same. apart (sym same))

-- ---- the place of a number that changes

-- a hot place whose record is replaced by another of its key
pub own-set : (places : List Content) (i : ℕ) (old new : HotRecord) → get_or places i vacant ≡ hot old → old.key ≡ new.key → AreApart (hot_records places)
    → IsOne (hot_records places) old × (hot_record_of new.key (set places i (hot new)) ≡ Some new)
own-set [] i old new there same apart = absurd (vacant_hot there)
  where
    vacant_hot : vacant ≡ hot old → ⊥
    vacant_hot is = cc
own-set (now ∷ places) zero old new there same apart = (
  subst (λ (c : Content). IsOne (hot_records (c ∷ places)) old) (sym there) (inl refl),
  first new.key new places refl,
)
own-set (cold shard ∷ places) (suc i) old new there same apart = own-set places i old new there same apart
own-set (vacant ∷ places) (suc i) old new there same apart = own-set places i old new there same apart
own-set (hot found ∷ places) (suc i) old new there same apart =
    let rest = own-set places i old new there same apart.1 in (
      inr rest.0,
      passed new.key found (set places i (hot new))
          (λ is. one_of-all (λ r. r.key ≡ found.key → ⊥) (hot_records places) old apart.0 rest.0 (same ∙ sym is))
          ∙ rest.1,
    )

pub others-set : (places : List Content) (i : ℕ) (old new : HotRecord) (other : ℕ) → get_or places i vacant ≡ hot old → old.key ≡ new.key → (other ≡ new.key → ⊥)
    → hot_record_of other (set places i (hot new)) ≡ hot_record_of other places
others-set [] i old new other there same apart = refl
others-set (now ∷ places) zero old new other there same apart =
    passed other new places (λ is. apart (sym is))
    ∙ sym (passed other old places (λ is. apart (sym is ∙ same)))
    ∙ sym (ap (λ (c : Content). hot_record_of other (c ∷ places)) there)
others-set (cold shard ∷ places) (suc i) old new other there same apart = others-set places i old new other there same apart
others-set (vacant ∷ places) (suc i) old new other there same apart = others-set places i old new other there same apart
others-set (hot found ∷ places) (suc i) old new other there same apart =
    ap (λ (o : Option HotRecord). if found.key == other then Some found else o) (others-set places i old new other there same apart)

-- ---- records that are renewed

-- they keep their values
pub renewed-values : (worker : ℕ) (clock : Reading) (key : ℕ) (kept : Option Value) (places : List Content) (records : List HotRecord)
    → AllByRecursion (IsOne (hot_records places)) records → AreApart records → AreApart (hot_records places)
    → value_or (hot_record_of key (renewed_places worker clock places records)) kept ≡ value_or (hot_record_of key places) kept
renewed-values worker clock key kept places [] there records_apart apart = refl
renewed-values worker clock key kept places (found ∷ more) there records_apart apart =
    renewed-values worker (renewing clock found.stamp) key kept (replaced found.key (hot new) places) more
    (still more there.1 records_apart.0) records_apart.1 (apart-replaced new places apart)
    ∙ go (cases_eq key found.key)
  where
    new : HotRecord
    new = renewed_record worker clock found

    still : (others : List HotRecord) → AllByRecursion (IsOne (hot_records places)) others → HasNone found.key others
        → AllByRecursion (IsOne (hot_records (replaced found.key (hot new) places))) others
    still [] are none = tt
    still (other ∷ others) are none = (one-replaced found.key (hot new) places other are.0 none.0, still others are.1 none.1)

    go : (key ≡ found.key) ⊎ (key ≡ found.key → ⊥)
        → value_or (hot_record_of key (replaced found.key (hot new) places)) kept ≡ value_or (hot_record_of key places) kept
    go (inl same) =
        ap (λ (k : ℕ). value_or (hot_record_of k (replaced found.key (hot new) places)) kept) same
        ∙ ap (λ (o : Option HotRecord). value_or o kept) (hot-replaced new places found there.0 refl)
        ∙ sym (ap (λ (o : Option HotRecord). value_or o kept) (hot-found places found there.0 apart))
        ∙ sym (ap (λ (k : ℕ). value_or (hot_record_of k places) kept) same)
    go (inr apart_key) =
        ap (λ (o : Option HotRecord). value_or o kept)
        (others-replaced found.key key (hot new) places apart_key (passed key new [] (λ is. apart_key (sym is))))
