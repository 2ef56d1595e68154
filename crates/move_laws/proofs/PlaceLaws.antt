-- The records in hot places, where the content of one place changes.
use Rattle.std.proofs.Common.{◌≡◌, ℕ, ◌+◌, Bool, true, false, List, [], ◌∷◌, ◌++◌, map, cond, eq-eqb, if◌then◌else◌, refl, sym, ◌∙◌, ap, subst, inl, inr, arith}
use Rattle.std.specs.Prelude.{◌==◌, filter}
use Rattle.std.specs.List.{AllByRecursion}
use Rattle.std.proofs.lemmas.Bool.{ne_eqb, eqb-true, eqb-false}
use Rattle.record_text.specs.declared.element.Element.{Element}
use Rattle.stamp_order.specs.InOrder.{put_in_order, in_order}
use Rattle.host_shard.specs.declared.content.HotRecord.{HotRecord}
use Rattle.host_shard.specs.Content.{Content, cold, hot, vacant}
use Rattle.protection_moves.proofs.TouchedLaws.{all-filter, all-put, all-order}
use Rattle.protection_moves.specs.Stage.{hot_records, replaced}
use Rattle.move_laws.specs.Stages.{IsOne}
use Rattle.move_laws.proofs.CountLaws.{weight, weight-front}

-- ---- records and their keys

-- no record of these has the key
abbrev pub HasNone : ℕ → List HotRecord → Type 0
HasNone key records = AllByRecursion (λ found. found.key ≡ key → ⊥) records

-- no two have the same key
abbrev pub AreApart : List HotRecord → Type 0
AreApart [] = Unit {0}
AreApart (found ∷ records) = HasNone found.key records × AreApart records

-- what holds of all holds of one
pub one_of-all : (P : HotRecord → Type 0) (records : List HotRecord) (found : HotRecord) → AllByRecursion P records → IsOne records found → P found
one_of-all P [] found all is = absurd is
one_of-all P (first ∷ records) found all (inl same) = subst P (sym same) all.0
one_of-all P (first ∷ records) found all (inr is) = one_of-all P records found all.1 is

-- each is one of them
pub all-are : (records : List HotRecord) → AllByRecursion (IsOne records) records
all-are [] = tt
all-are (found ∷ records) = (inl refl, wider records (all-are records))
  where
    wider : (some : List HotRecord) → AllByRecursion (IsOne records) some → AllByRecursion (IsOne (found ∷ records)) some
    wider [] all = tt
    wider (other ∷ some) all = (inr all.0, wider some all.1)

pub all-map : (P Q : HotRecord → Type 0) → ((found : HotRecord) → P found → Q found) → (records : List HotRecord) → AllByRecursion P records
    → AllByRecursion Q records
all-map P Q step [] all = tt
all-map P Q step (found ∷ records) all = (step found all.0, all-map P Q step records all.1)

-- ---- some of them, in some order

pub apart-filter : (test : HotRecord → Bool) (records : List HotRecord) → AreApart records → AreApart (filter test records)
apart-filter test [] apart = tt
apart-filter test (found ∷ records) apart =
    elim (test found) as (λ b. AreApart (cond b (found ∷ filter test records) (filter test records))) [
      | true ↦ (all-filter (λ other. other.key ≡ found.key → ⊥) test records apart.0, apart-filter test records apart.1)
      | false ↦ apart-filter test records apart.1
    ]

apart-put : (before : HotRecord → HotRecord → Bool) (found : HotRecord) (records : List HotRecord) → HasNone found.key records → AreApart records
    → AreApart (put_in_order before found records)
apart-put before found [] no_key apart = (tt, tt)
apart-put before found (first ∷ records) no_key apart =
    elim (before first found) as (λ b. AreApart (cond b (first ∷ put_in_order before found records) (found ∷ first ∷ records))) [
      | true ↦ (
        all-put (λ other. other.key ≡ first.key → ⊥) before found records (λ same. no_key.0 (sym same)) apart.0,
        apart-put before found records no_key.1 apart.1,
      )
      | false ↦ (no_key, apart)
    ]

pub apart-order : (before : HotRecord → HotRecord → Bool) (records : List HotRecord) → AreApart records → AreApart (in_order before records)
apart-order before [] apart = tt
apart-order before (found ∷ records) apart =
    apart-put before found (in_order before records) (all-order (λ other. other.key ≡ found.key → ⊥) before records apart.0) (apart-order before records apart.1)

-- ---- a place that changes

-- places without the key stay
pub replaced-none : (key : ℕ) (now : Content) (places : List Content) → HasNone key (hot_records places) → replaced key now places ≡ places
replaced-none key now [] no_key = refl
replaced-none key now (cold shard ∷ places) no_key = ap (λ (rest : List Content). cold shard ∷ rest) (replaced-none key now places no_key)
replaced-none key now (vacant ∷ places) no_key = ap (λ (rest : List Content). vacant ∷ rest) (replaced-none key now places no_key)
replaced-none key now (hot found ∷ places) no_key =
    ap (λ (b : Bool). (if b then now else hot found) ∷ replaced key now places) (ne_eqb found.key key no_key.0)
    ∙ ap (λ (rest : List Content). hot found ∷ rest) (replaced-none key now places no_key.1)

-- the records in a place and in those behind it
records-front : (now : Content) (places : List Content) → hot_records (now ∷ places) ≡ hot_records (now ∷ []) ++ hot_records places
records-front (cold shard) places = refl
records-front (hot found) places = refl
records-front vacant places = refl

weight-content : (x : Element) (now : Content) (places : List Content)
    → weight x (hot_records (now ∷ places)) ≡ weight x (hot_records (now ∷ [])) + weight x (hot_records places)
weight-content x (cold shard) places = omega arith
weight-content x (hot found) places = weight-front x found (hot_records places)
weight-content x vacant places = omega arith

-- Where a hot record's place changes, its element goes, and those of the new content come.
pub replaced-weight : (x : Element) (now : Content) (places : List Content) (found : HotRecord)
    → IsOne (hot_records places) found → AreApart (hot_records places)
    → weight x (hot_records (replaced found.key now places)) + weight x (found ∷ [])
    ≡ weight x (hot_records places) + weight x (hot_records (now ∷ []))
replaced-weight x now [] found is apart = absurd is
replaced-weight x now (cold shard ∷ places) found is apart = replaced-weight x now places found is apart
replaced-weight x now (vacant ∷ places) found is apart = replaced-weight x now places found is apart
replaced-weight x now (hot first ∷ places) found (inl same) apart =
    ap (λ (b : Bool). weight x (hot_records ((if b then now else hot first) ∷ replaced found.key now places)) + weight x (found ∷ []))
    (eq-eqb first.key found.key (ap (λ (r : HotRecord). r.key) (sym same)))
    ∙ (ap (λ (rest : List Content). weight x (hot_records (now ∷ rest)) + weight x (found ∷ []))
    (replaced-none found.key now places (subst (λ (r : HotRecord). HasNone r.key (hot_records places)) (sym same) apart.0))
    ∙ omega (
      arith,
      weight-content x now places,
      weight-front x first (hot_records places),
      ap (λ (r : HotRecord). weight x (r ∷ [])) same,
    ))
replaced-weight x now (hot first ∷ places) found (inr is) apart =
    ap (λ (b : Bool). weight x (hot_records ((if b then now else hot first) ∷ replaced found.key now places)) + weight x (found ∷ []))
    (ne_eqb first.key found.key (λ same. one_of-all (λ r. r.key ≡ first.key → ⊥) (hot_records places) found apart.0 is (sym same)))
    ∙ omega (
      arith,
      weight-front x first (hot_records (replaced found.key now places)),
      weight-front x first (hot_records places),
      replaced-weight x now places found is apart.1,
    )

-- A record of the same key in its place: what the keys say stays.
pub replaced-keys : {A : Type 0} (of : ℕ → A) (new : HotRecord) (places : List Content)
    → map (λ (r : HotRecord). of r.key) (hot_records (replaced new.key (hot new) places)) ≡ map (λ (r : HotRecord). of r.key) (hot_records places)
replaced-keys of new [] = refl
replaced-keys of new (cold shard ∷ places) = replaced-keys of new places
replaced-keys of new (vacant ∷ places) = replaced-keys of new places
replaced-keys {A} of new (hot first ∷ places) =
    go (replaced-keys of new places) (first.key == new.key) refl
  where
    go : map (λ (r : HotRecord). of r.key) (hot_records (replaced new.key (hot new) places)) ≡ map (λ (r : HotRecord). of r.key) (hot_records places)
        → (b : Bool) → (first.key == new.key) ≡ b
        → map (λ (r : HotRecord). of r.key) (hot_records ((if b then hot new else hot first) ∷ replaced new.key (hot new) places))
        ≡ of first.key ∷ map (λ (r : HotRecord). of r.key) (hot_records places)
    go rest true same =
        ap (λ (keys : List A). of new.key ∷ keys) rest
        ∙ ap (λ (key : ℕ). of key ∷ map (λ (r : HotRecord). of r.key) (hot_records places)) (sym (eqb-true first.key new.key same))
    go rest false apart = ap (λ (keys : List A). of first.key ∷ keys) rest

-- what is said of keys alone
pub all-keys : (P : ℕ → Type 0) (new : HotRecord) (places : List Content) → AllByRecursion (λ r. P r.key) (hot_records places)
    → AllByRecursion (λ r. P r.key) (hot_records (replaced new.key (hot new) places))
all-keys P new [] all = tt
all-keys P new (cold shard ∷ places) all = all-keys P new places all
all-keys P new (vacant ∷ places) all = all-keys P new places all
all-keys P new (hot first ∷ places) all = go (all-keys P new places all.1) (first.key == new.key) refl
  where
    go : AllByRecursion (λ r. P r.key) (hot_records (replaced new.key (hot new) places)) → (b : Bool) → (first.key == new.key) ≡ b
        → AllByRecursion (λ r. P r.key) (hot_records ((if b then hot new else hot first) ∷ replaced new.key (hot new) places))
    go rest true same = (subst P (eqb-true first.key new.key same) all.0, rest)
    go rest false apart = (all.0, rest)

-- no two have one key then
pub apart-replaced : (new : HotRecord) (places : List Content) → AreApart (hot_records places) → AreApart (hot_records (replaced new.key (hot new) places))
apart-replaced new [] apart = tt
apart-replaced new (cold shard ∷ places) apart = apart-replaced new places apart
apart-replaced new (vacant ∷ places) apart = apart-replaced new places apart
apart-replaced new (hot first ∷ places) apart =
    go (apart-replaced new places apart.1) (all-keys (λ key. key ≡ first.key → ⊥) new places apart.0) (first.key == new.key) refl
  where
    go : AreApart (hot_records (replaced new.key (hot new) places)) → HasNone first.key (hot_records (replaced new.key (hot new) places))
        → (b : Bool) → (first.key == new.key) ≡ b
        → AreApart (hot_records ((if b then hot new else hot first) ∷ replaced new.key (hot new) places))
    go rest others true same = (subst (λ (key : ℕ). HasNone key (hot_records (replaced new.key (hot new) places))) (eqb-true first.key new.key same) others, rest)
    go rest others false no_match = (others, rest)

-- What holds of the records of other keys holds then, if it does of the new content.
pub all-replaced : (P Q : HotRecord → Type 0) (key : ℕ) (now : Content) (places : List Content)
    → ((found : HotRecord) → P found → (found.key ≡ key → ⊥) → Q found) → AllByRecursion Q (hot_records (now ∷ [])) → AllByRecursion P (hot_records places)
    → AllByRecursion Q (hot_records (replaced key now places))
all-replaced P Q key now [] step new all = tt
all-replaced P Q key now (cold shard ∷ places) step new all = all-replaced P Q key now places step new all
all-replaced P Q key now (vacant ∷ places) step new all = all-replaced P Q key now places step new all
all-replaced P Q key now (hot first ∷ places) step new all = go (all-replaced P Q key now places step new all.1) (first.key == key) refl
  where
    front : (content : Content) → AllByRecursion Q (hot_records (content ∷ [])) → AllByRecursion Q (hot_records (replaced key now places))
        → AllByRecursion Q (hot_records (content ∷ replaced key now places))
    front (cold shard) one rest = rest
    front (hot found) one rest = (one.0, rest)
    front vacant one rest = rest

    go : AllByRecursion Q (hot_records (replaced key now places)) → (b : Bool) → (first.key == key) ≡ b
        → AllByRecursion Q (hot_records ((if b then now else hot first) ∷ replaced key now places))
    go rest true same = front now new rest
    go rest false apart = (step first all.0 (eqb-false first.key key apart), rest)

-- a record of another key is there then
pub one-replaced : (key : ℕ) (now : Content) (places : List Content) (found : HotRecord) → IsOne (hot_records places) found → (found.key ≡ key → ⊥)
    → IsOne (hot_records (replaced key now places)) found
one-replaced key now [] found is other = absurd is
one-replaced key now (cold shard ∷ places) found is other = one-replaced key now places found is other
one-replaced key now (vacant ∷ places) found is other = one-replaced key now places found is other
one-replaced key now (hot first ∷ places) found (inl same) other =
    subst (λ (b : Bool). IsOne (hot_records ((if b then now else hot first) ∷ replaced key now places)) found)
    (sym (ne_eqb first.key key (λ is. other (ap (λ (r : HotRecord). r.key) same ∙ is)))) (inl same)
one-replaced key now (hot first ∷ places) found (inr is) other = go (one-replaced key now places found is other) (first.key == key)
  where
    front : (content : Content) → IsOne (hot_records (replaced key now places)) found → IsOne (hot_records (content ∷ replaced key now places)) found
    front (cold shard) rest = rest
    front (hot one) rest = inr rest
    front vacant rest = rest

    go : IsOne (hot_records (replaced key now places)) found → (b : Bool)
        → IsOne (hot_records ((if b then now else hot first) ∷ replaced key now places)) found
    go rest true = front now rest
    go rest false = inr rest
