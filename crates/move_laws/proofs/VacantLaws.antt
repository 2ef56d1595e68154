-- A hot place that becomes vacant, and a record that takes the lowest vacant one.
use Rattle.std.proofs.Common.{◌≡◌, ◌≢◌, ◌⊎◌, ℕ, zero, suc, ◌+◌, ◌<◌, ◌≤◌, Bool, true, false, List, [], ◌∷◌, map, length, get_or, if◌then◌else◌, refl, sym, ap, inl, inr, arith}
use Rattle.std.specs.Prelude.{◌==◌}
use Rattle.std.specs.List.{AllByRecursion, All, AllPairs, IsAmong}
use Rattle.std.proofs.lemmas.Bool.{eqb-false}
use Rattle.std.proofs.lemmas.List.Elements.{All-head, All-tail}
use Rattle.record_text.specs.declared.element.Element.{Element}
use Rattle.host_shard.specs.declared.content.HotRecord.{HotRecord}
use Rattle.host_shard.specs.Content.{Content, cold, hot, vacant}
use Rattle.protection_moves.specs.Stage.{hot_records, vacancies, replaced, placed}
use Rattle.move_laws.specs.Stages.{IsOne}
use Rattle.move_laws.proofs.CountLaws.{weight, weight-front}
use Rattle.move_laws.proofs.PlaceLaws.{all-are, all-map, all-replaced, one_of-all}

-- ---- members

abbrev pub IsMember : {A : Type 0} → List A → A → Type 0
IsMember [] x = ⊥
IsMember (y ∷ ys) x = (x ≡ y) ⊎ IsMember ys x

pub among-member : {A : Type 0} (xs : List A) (x : A) → IsAmong xs x → IsMember xs x
among-member {A} xs x is = go xs is.0 is.1.0 is.1.1
  where
    go : (ys : List A) (i : ℕ) → i < length ys → x ≡ get_or ys i x → IsMember ys x
    go [] i within same = absurd (omega (arith, within))
    go (y ∷ ys) zero within same = inl same
    go (y ∷ ys) (suc i) within same = inr (go ys i (omega (arith, within)) same)

pub member-among : {A : Type 0} (xs : List A) (x : A) → IsMember xs x → IsAmong xs x
member-among [] x is = absurd is
member-among (y ∷ xs) x (inl same) = (0, (omega arith, same))
member-among (y ∷ xs) x (inr is) = let rest = member-among xs x is in (suc rest.0, (omega (arith, rest.1.0), rest.1.1))

pub one-member : {A : Type 0} (of : HotRecord → A) (records : List HotRecord) (found : HotRecord) → IsOne records found → IsMember (map of records) (of found)
one-member of [] found is = absurd is
one-member of (first ∷ records) found (inl same) = inl (ap of same)
one-member of (first ∷ records) found (inr is) = inr (one-member of records found is)

pub member-one : {A : Type 0} (of : HotRecord → A) (records : List HotRecord) (x : A) → IsMember (map of records) x
    → (found : HotRecord) × (IsOne records found) × (x ≡ of found)
member-one of [] x is = absurd is
member-one of (first ∷ records) x (inl same) = (first, inl refl, same)
member-one of (first ∷ records) x (inr is) = let rest = member-one of records x is in (rest.0, inr rest.1, rest.2)

-- what holds of a list's images holds of its members
pub all-images : {A B : Type 0} (of : A → B) (P : B → Type 0) (xs : List A) → AllByRecursion P (map of xs) → AllByRecursion (λ x. P (of x)) xs
all-images of P [] all = tt
all-images of P (x ∷ xs) all = (all.0, all-images of P xs all.1)

pub images-all : {A B : Type 0} (of : A → B) (P : B → Type 0) (xs : List A) → AllByRecursion (λ x. P (of x)) xs → AllByRecursion P (map of xs)
images-all of P [] all = tt
images-all of P (x ∷ xs) all = (all.0, images-all of P xs all.1)

-- ---- things that are apart

-- no two of a list are the same
abbrev pub AreDifferent : {A : Type 0} → List A → Type 0
AreDifferent [] = Unit {0}
AreDifferent (x ∷ xs) = AllByRecursion (λ y. x ≢ y) xs × AreDifferent xs

all_by_recursion : {A : Type 0} (P : A → Type 0) (xs : List A) → All P xs → AllByRecursion P xs
all_by_recursion P [] all = tt
all_by_recursion P (x ∷ xs) all = (All-head P x xs all, all_by_recursion P xs (All-tail P x xs all))

pub pairs-different : {A : Type 0} (xs : List A) → AllPairs (λ a b. a ≢ b) xs → AreDifferent xs
pairs-different [] pairs = tt
pairs-different (x ∷ xs) pairs = (
  all_by_recursion (λ y. x ≢ y) xs (λ i d within. pairs zero (suc i) d (omega arith) (omega (arith, within))),
  pairs-different xs (λ i j d before within. pairs (suc i) (suc j) d (omega (arith, before)) (omega (arith, within))),
)

pub different-pairs : {A : Type 0} (xs : List A) → AreDifferent xs → AllPairs (λ a b. a ≢ b) xs
different-pairs [] different i j d before within = absurd (omega (arith, within))
different-pairs (x ∷ xs) different i zero d before within = absurd (omega (arith, before))
different-pairs {A} (x ∷ xs) different zero (suc j) d before within = go xs j different.0 (omega (arith, within))
  where
    go : (ys : List A) (k : ℕ) → AllByRecursion (λ y. x ≢ y) ys → k < length ys → x ≢ get_or ys k d
    go [] k all inside = absurd (omega (arith, inside))
    go (y ∷ ys) zero all inside = all.0
    go (y ∷ ys) (suc k) all inside = go ys k all.1 (omega (arith, inside))
different-pairs (x ∷ xs) different (suc i) (suc j) d before within =
    different-pairs xs different.1 i j d (omega (arith, before)) (omega (arith, within))

-- ---- a place that becomes vacant

-- the records of other keys are there still, and no other
pub one-vacant : (key : ℕ) (places : List Content) (found : HotRecord) → IsOne (hot_records (replaced key vacant places)) found
    → IsOne (hot_records places) found × (found.key ≡ key → ⊥)
one-vacant key places found is =
    one_of-all (λ r. IsOne (hot_records places) r × (r.key ≡ key → ⊥)) (hot_records (replaced key vacant places)) found
    (all-replaced (IsOne (hot_records places)) (λ r. IsOne (hot_records places) r × (r.key ≡ key → ⊥)) key vacant places
    (λ r there other. (there, other)) tt (all-are (hot_records places))) is

pub different-vacant : {A : Type 0} (of : HotRecord → A) (key : ℕ) (places : List Content) → AreDifferent (map of (hot_records places))
    → AreDifferent (map of (hot_records (replaced key vacant places)))
different-vacant of key [] different = tt
different-vacant of key (cold shard ∷ places) different = different-vacant of key places different
different-vacant of key (vacant ∷ places) different = different-vacant of key places different
different-vacant {A} of key (hot first ∷ places) different =
    go (different-vacant of key places different.1)
    (images-all of (λ y. of first ≢ y) (hot_records (replaced key vacant places))
    (all-replaced (λ r. of first ≢ of r) (λ r. of first ≢ of r) key vacant places (λ r apart other. apart) tt
    (all-images of (λ y. of first ≢ y) (hot_records places) different.0)))
    (first.key == key)
  where
    go : AreDifferent (map of (hot_records (replaced key vacant places)))
        → AllByRecursion (λ y. of first ≢ y) (map of (hot_records (replaced key vacant places)))
        → (b : Bool) → AreDifferent (map of (hot_records ((if b then vacant else hot first) ∷ replaced key vacant places)))
    go rest others true = rest
    go rest others false = (others, rest)

-- there is one vacant place more, at least
vacancies-up : (key : ℕ) (places : List Content) → vacancies places ≤ vacancies (replaced key vacant places)
vacancies-up key [] = omega arith
vacancies-up key (cold shard ∷ places) = vacancies-up key places
vacancies-up key (vacant ∷ places) = omega (arith, vacancies-up key places)
vacancies-up key (hot first ∷ places) = go (vacancies-up key places) (first.key == key)
  where
    go : vacancies places ≤ vacancies (replaced key vacant places) → (b : Bool)
        → vacancies places ≤ vacancies ((if b then vacant else hot first) ∷ replaced key vacant places)
    go rest true = omega (arith, rest)
    go rest false = rest

pub vacancies-vacant : (places : List Content) (found : HotRecord) → IsOne (hot_records places) found
    → suc (vacancies places) ≤ vacancies (replaced found.key vacant places)
vacancies-vacant [] found is = absurd is
vacancies-vacant (cold shard ∷ places) found is = vacancies-vacant places found is
vacancies-vacant (vacant ∷ places) found is = omega (arith, vacancies-vacant places found is)
vacancies-vacant (hot first ∷ places) found (inl same) =
    go (vacancies-up found.key places) (first.key == found.key) refl
  where
    go : vacancies places ≤ vacancies (replaced found.key vacant places) → (b : Bool) → (first.key == found.key) ≡ b
        → suc (vacancies places) ≤ vacancies ((if b then vacant else hot first) ∷ replaced found.key vacant places)
    go rest true is = omega (arith, rest)
    go rest false apart = absurd (eqb-false first.key found.key apart (ap (λ (r : HotRecord). r.key) (sym same)))
vacancies-vacant (hot first ∷ places) found (inr is) = go (vacancies-vacant places found is) (first.key == found.key)
  where
    go : suc (vacancies places) ≤ vacancies (replaced found.key vacant places) → (b : Bool)
        → suc (vacancies places) ≤ vacancies ((if b then vacant else hot first) ∷ replaced found.key vacant places)
    go rest true = omega (arith, rest)
    go rest false = rest

-- a hot record in the place of another: as many places are vacant as before
pub vacancies-hot : (key : ℕ) (new : HotRecord) (places : List Content) → vacancies (replaced key (hot new) places) ≡ vacancies places
vacancies-hot key new [] = refl
vacancies-hot key new (cold shard ∷ places) = vacancies-hot key new places
vacancies-hot key new (vacant ∷ places) = ap (λ (n : ℕ). suc n) (vacancies-hot key new places)
vacancies-hot key new (hot first ∷ places) = go (vacancies-hot key new places) (first.key == key)
  where
    go : vacancies (replaced key (hot new) places) ≡ vacancies places → (b : Bool)
        → vacancies ((if b then hot new else hot first) ∷ replaced key (hot new) places) ≡ vacancies places
    go rest true = rest
    go rest false = rest

-- ---- a place that is taken

-- the record is there then, and the others are
pub one-placed : (new : HotRecord) (places : List Content) → 0 < vacancies places → IsOne (hot_records (placed new places)) new
one-placed new [] room = absurd (omega (arith, room))
one-placed new (cold shard ∷ places) room = one-placed new places room
one-placed new (hot found ∷ places) room = inr (one-placed new places room)
one-placed new (vacant ∷ places) room = inl refl

pub one-placed_other : (new : HotRecord) (places : List Content) (found : HotRecord) → IsOne (hot_records places) found
    → IsOne (hot_records (placed new places)) found
one-placed_other new [] found is = absurd is
one-placed_other new (cold shard ∷ places) found is = one-placed_other new places found is
one-placed_other new (hot first ∷ places) found (inl same) = inl same
one-placed_other new (hot first ∷ places) found (inr is) = inr (one-placed_other new places found is)
one-placed_other new (vacant ∷ places) found is = inr is

-- what holds of it and of the others holds of all
pub all-placed : (P : HotRecord → Type 0) (new : HotRecord) (places : List Content) → P new → AllByRecursion P (hot_records places)
    → AllByRecursion P (hot_records (placed new places))
all-placed P new [] one all = tt
all-placed P new (cold shard ∷ places) one all = all-placed P new places one all
all-placed P new (hot found ∷ places) one all = (all.0, all-placed P new places one all.1)
all-placed P new (vacant ∷ places) one all = (one, all)

-- no other record is there
pub placed-one : (new : HotRecord) (places : List Content) (found : HotRecord) → IsOne (hot_records (placed new places)) found
    → (found ≡ new) ⊎ IsOne (hot_records places) found
placed-one new places found is =
    one_of-all (λ r. (r ≡ new) ⊎ IsOne (hot_records places) r) (hot_records (placed new places)) found
    (all-placed (λ r. (r ≡ new) ⊎ IsOne (hot_records places) r) new places (inl refl)
    (all-map (IsOne (hot_records places)) (λ r. (r ≡ new) ⊎ IsOne (hot_records places) r) (λ r is. inr is) (hot_records places) (all-are (hot_records places)))) is

pub different-placed : {A : Type 0} (of : HotRecord → A) (new : HotRecord) (places : List Content)
    → AllByRecursion (λ r. of r ≢ of new) (hot_records places)
    → AreDifferent (map of (hot_records places))
    → AreDifferent (map of (hot_records (placed new places)))
different-placed of new [] apart different = tt
different-placed of new (cold shard ∷ places) apart different = different-placed of new places apart different
different-placed of new (hot found ∷ places) apart different = (
  images-all of (λ y. of found ≢ y) (hot_records (placed new places))
      (all-placed (λ r. of found ≢ of r) new places apart.0
      (all-images of (λ y. of found ≢ y) (hot_records places) different.0)),
  different-placed of new places apart.1 different.1,
)
different-placed of new (vacant ∷ places) apart different = (
  images-all of (λ y. of new ≢ y) (hot_records places)
      (all-map (λ r. of r ≢ of new) (λ r. of new ≢ of r) (λ r apart same. apart (sym same)) (hot_records places) apart),
  different,
)

-- one place is vacant no more
pub vacancies-placed : (new : HotRecord) (places : List Content) → 0 < vacancies places → suc (vacancies (placed new places)) ≡ vacancies places
vacancies-placed new [] room = absurd (omega (arith, room))
vacancies-placed new (cold shard ∷ places) room = vacancies-placed new places room
vacancies-placed new (hot found ∷ places) room = vacancies-placed new places room
vacancies-placed new (vacant ∷ places) room = refl

-- its element comes
pub placed-weight : (x : Element) (new : HotRecord) (places : List Content) → 0 < vacancies places
    → weight x (hot_records (placed new places)) ≡ weight x (hot_records places) + weight x (new ∷ [])
placed-weight x new [] room = absurd (omega (arith, room))
placed-weight x new (cold shard ∷ places) room = placed-weight x new places room
placed-weight x new (hot found ∷ places) room =
    omega (
      arith,
      weight-front x found (hot_records (placed new places)),
      weight-front x found (hot_records places),
      placed-weight x new places room,
    )
placed-weight x new (vacant ∷ places) room = omega (arith, weight-front x new (hot_records places))
