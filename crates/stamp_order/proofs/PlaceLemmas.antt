-- Lists merged by the places in the order of their starts: the first of all, where a place goes, and what is left.
use Rattle.std.proofs.Common.{◌≡◌, ◌≢◌, ◌⊎◌, ℕ, zero, suc, ◌+◌, ◌<◌, ◌≤◌, Bool, true, false, cond, List, [], ◌∷◌, ◌++◌, length, map, take, drop, set, get_or, true≢false, inl, inr, refl, sym, ◌∙◌, ap, subst, Option, Some, None, Bor, slice_get, get_or-set_same, get_or-set_other, arith}
use Rattle.std.specs.declared.cmp.Ordering.{Ordering}
use Rattle.std.specs.declared.cmp.Ordering.TheVariants.{Less, Equal, Greater}
use Rattle.std.specs.Cmp.{IsTotalOrder, IsStrictWeakOrder}
use Rattle.std.specs.Ordering.{nat_cmp, ordering_then, ordering_reverse, is_lt}
use Rattle.std.specs.List.{AllByRecursion, insert}
use Rattle.std.proofs.lemmas.Bool.{cond-true, cond-false}
use Rattle.std.proofs.lemmas.Bool.Decides.{nat_tests}
use Rattle.std.specs.Prelude.{⊤, IfSome, is_some, option_copied}
use Rattle.std.proofs.lemmas.Cmp.{on_total, then_total, nat_cmp_total}
use Rattle.std.proofs.lemmas.List.{drop_all, drop_more, get_or_default}
use Rattle.std.proofs.lemmas.List.Edits.{insert_end}
use Rattle.std.proofs.lemmas.List.Sorted.{ranks_by}
use Rattle.record_text.specs.declared.operation.Operation.{Operation}
use Rattle.stamp_order.specs.InOrder.{put_in_order, in_order}
use Rattle.stamp_order.specs.Moment.{moment_cmp}
use Rattle.stamp_order.specs.Merged.{comes_before, merged, IsMerged}
use Rattle.stamp_order.specs.Operations.{moment_of}
use Rattle.stamp_order.specs.Lists.{all_of, AreMerged}
use Rattle.stamp_order.specs.Places.{placed_cmp, is_sooner, list_at, placed, all_at, all_from, left_at, heads_sooner, begins_sooner, StandByStart, IsPutIn}
use Rattle.stamp_order.proofs.InOrderLaws.{every-weaker, every-append, every-in_order, put-front}
use Rattle.stamp_order.proofs.MomentLaws.{moment_cmp-total}
use Rattle.stamp_order.proofs.MapLaws.{merged-map}

-- ---- an insertion sort of several parts

module _ {X : Type 0} (lt : X → X → Bool) (o : IsStrictWeakOrder lt) where
  -- of two that don't tie, it is the same which is put first
  put-twice : (x y : X) → (lt x y ≡ true) ⊎ (lt y x ≡ true) → (zs : List X)
      → put_in_order lt x (put_in_order lt y zs) ≡ put_in_order lt y (put_in_order lt x zs)
  put-twice x y (inl sooner) [] = cond-false (lt y x) _ _ (o.one_way x y sooner) ∙ sym (cond-true (lt x y) _ _ sooner)
  put-twice x y (inr sooner) [] = cond-true (lt y x) _ _ sooner ∙ sym (cond-false (lt x y) _ _ (o.one_way y x sooner))
  put-twice x y apart (z ∷ zs) = go (put-twice x y apart zs) (lt z x) (lt z y) refl refl
    where
      go : put_in_order lt x (put_in_order lt y zs) ≡ put_in_order lt y (put_in_order lt x zs) → (a b : Bool) → lt z x ≡ a → lt z y ≡ b → put_in_order lt x (put_in_order lt y (z ∷ zs)) ≡ put_in_order lt y (put_in_order lt x (z ∷ zs))
      go further true true before_x before_y =
          ap (put_in_order lt x) (cond-true (lt z y) _ _ before_y) ∙ cond-true (lt z x) _ _ before_x
          ∙ ap (λ (l : List X). z ∷ l) further
          ∙ sym (ap (put_in_order lt y) (cond-true (lt z x) _ _ before_x) ∙ cond-true (lt z y) _ _ before_y)
      go further true false before_x after_y =
          ap (put_in_order lt x) (cond-false (lt z y) _ _ after_y)
          ∙ cond-true (lt y x) _ _ (first x y before_x after_y)
          ∙ ap (λ (l : List X). y ∷ l) (cond-true (lt z x) _ _ before_x)
          ∙ sym (ap (put_in_order lt y) (cond-true (lt z x) _ _ before_x) ∙ cond-false (lt z y) _ _ after_y)
        where
          first : (a b : X) → lt z a ≡ true → lt z b ≡ false → lt b a ≡ true
          first a b before after = by (lt b a) refl
            where
              by : (c : Bool) → lt b a ≡ c → lt b a ≡ true
              by true is = is
              by false is = absurd (true≢false (sym before ∙ o.chain z b a after is))
      go further false true after_x before_y =
          ap (put_in_order lt x) (cond-true (lt z y) _ _ before_y) ∙ cond-false (lt z x) _ _ after_x
          ∙ sym (ap (put_in_order lt y) (cond-false (lt z x) _ _ after_x)
          ∙ cond-true (lt x y) _ _ (first y x before_y after_x)
          ∙ ap (λ (l : List X). x ∷ l) (cond-true (lt z y) _ _ before_y))
        where
          first : (a b : X) → lt z a ≡ true → lt z b ≡ false → lt b a ≡ true
          first a b before after = by (lt b a) refl
            where
              by : (c : Bool) → lt b a ≡ c → lt b a ≡ true
              by true is = is
              by false is = absurd (true≢false (sym before ∙ o.chain z b a after is))
      go further false false after_x after_y = by apart
        where
          by : (lt x y ≡ true) ⊎ (lt y x ≡ true) → put_in_order lt x (put_in_order lt y (z ∷ zs)) ≡ put_in_order lt y (put_in_order lt x (z ∷ zs))
          by (inl sooner) =
              ap (put_in_order lt x) (cond-false (lt z y) _ _ after_y)
              ∙ cond-false (lt y x) _ _ (o.one_way x y sooner)
              ∙ sym (ap (put_in_order lt y) (cond-false (lt z x) _ _ after_x) ∙ cond-true (lt x y) _ _ sooner ∙ ap (λ (l : List X). x ∷ l) (cond-false (lt z y) _ _ after_y))
          by (inr sooner) =
              ap (put_in_order lt x) (cond-false (lt z y) _ _ after_y)
              ∙ cond-true (lt y x) _ _ sooner
              ∙ ap (λ (l : List X). y ∷ l) (cond-false (lt z x) _ _ after_x)
              ∙ sym (ap (put_in_order lt y) (cond-false (lt z x) _ _ after_x) ∙ cond-false (lt x y) _ _ (o.one_way y x sooner))

  -- what ties with none of these
  abbrev TiesNone : X → List X → Type 0
  TiesNone x ys = AllByRecursion (λ y. (lt x y ≡ true) ⊎ (lt y x ≡ true)) ys

  -- one goes past others with which it doesn't tie
  order-past : (x : X) (ys zs : List X) → TiesNone x ys → in_order lt (ys ++ x ∷ zs) ≡ in_order lt (x ∷ (ys ++ zs))
  order-past x [] zs apart = refl
  order-past x (y ∷ ys) zs apart =
      ap (put_in_order lt y) (order-past x ys zs apart.1) ∙ sym (put-twice x y apart.0 (in_order lt (ys ++ zs)))

  -- and so does one part of a list
  order-swap : (xs ys zs : List X) → AllByRecursion (λ x. TiesNone x ys) xs → in_order lt (xs ++ (ys ++ zs)) ≡ in_order lt (ys ++ (xs ++ zs))
  order-swap [] ys zs apart = refl
  order-swap (x ∷ xs) ys zs apart =
      ap (put_in_order lt x) (order-swap xs ys zs apart.1) ∙ sym (order-past x ys (xs ++ zs) apart.0)

module _ {X : Type 0} (lt : X → X → Bool) where
  -- behind a part, what is the same in order is the same
  order-behind : (xs ys zs : List X) → in_order lt ys ≡ in_order lt zs → in_order lt (xs ++ ys) ≡ in_order lt (xs ++ zs)
  order-behind [] ys zs same = same
  order-behind (x ∷ xs) ys zs same = ap (put_in_order lt x) (order-behind xs ys zs same)

  length-put : (x : X) (ys : List X) → length (put_in_order lt x ys) ≡ suc (length ys)
  length-put x [] = refl
  length-put x (y ∷ ys) = go (length-put x ys) (lt y x) refl
    where
      go : length (put_in_order lt x ys) ≡ suc (length ys) → (b : Bool) → lt y x ≡ b → length (put_in_order lt x (y ∷ ys)) ≡ suc (suc (length ys))
      go further true is = ap length (cond-true (lt y x) _ _ is) ∙ ap suc further
      go further false is = ap length (cond-false (lt y x) _ _ is)

  pub length-in_order : (xs : List X) → length (in_order lt xs) ≡ length xs
  length-in_order [] = refl
  length-in_order (x ∷ xs) = length-put x (in_order lt xs) ∙ ap suc (length-in_order xs)

-- ---- the order of operations with their places

placed_cmp-total : IsTotalOrder placed_cmp
placed_cmp-total = then_total (on_total (λ (x : ℕ × Operation). moment_of x.1) moment_cmp-total) (on_total (λ (x : ℕ × Operation). x.0) nat_cmp_total)

sooner-order : IsStrictWeakOrder is_sooner
sooner-order = ranks_by placed_cmp-total (λ (x : ℕ × Operation). x)

-- one of two that don't tie comes before the other
either : (r s : Ordering) → s ≡ ordering_reverse r → r ≢ Equal → (is_lt r ≡ true) ⊎ (is_lt s ≡ true)
either Less s back untied = inl refl
either Equal s back untied = absurd (untied refl)
either Greater s back untied = inr (ap is_lt back)

then_equal : (r s : Ordering) → ordering_then r s ≡ Equal → s ≡ Equal
then_equal Less s e = absurd (cc)
then_equal Equal s e = e
then_equal Greater s e = absurd (cc)

nat_equal : (a b : ℕ) → nat_cmp a b ≡ Equal → a ≡ b
nat_equal a b e = grind (arith, nat_tests)

untied : (x y : ℕ × Operation) → x.0 ≢ y.0 → (is_sooner x y ≡ true) ⊎ (is_sooner y x ≡ true)
untied x y apart =
    either (placed_cmp x y) (placed_cmp y x) (placed_cmp-total.antisymm y x) (λ tie. apart (nat_equal x.0 y.0 (then_equal (moment_cmp (moment_of x.1) (moment_of y.1)) _ tie)))

-- what comes before one that comes before another, comes before that
sooner-trans : (x y z : ℕ × Operation) → is_sooner x y ≡ true → is_sooner y z ≡ true → is_sooner x z ≡ true
sooner-trans x y z first second = go (is_sooner x z) refl
  where
    go : (b : Bool) → is_sooner x z ≡ b → is_sooner x z ≡ true
    go true is = is
    go false is = absurd (true≢false (sym first ∙ sooner-order.chain x z y is (sooner-order.one_way y z second)))

-- lists at two places don't tie
placed-untied : (p q : ℕ) → p ≢ q → (xs ys : List Operation) → AllByRecursion (λ x. TiesNone is_sooner sooner-order x (placed q ys)) (placed p xs)
placed-untied p q apart [] ys = tt
placed-untied p q apart (x ∷ xs) ys = (all ys, placed-untied p q apart xs ys)
  where
    all : (zs : List Operation) → TiesNone is_sooner sooner-order (p, x) (placed q zs)
    all [] = tt
    all (z ∷ zs) = (untied (p, x) (q, z) apart, all zs)

-- ---- a list comes in

abbrev Lists : Type 0
Lists = List (List Operation)

-- it is the same where its place goes
put-anywhere : (lists : Lists) (place : ℕ) (places : List ℕ) → AllByRecursion (λ q. q ≢ place) places → (at : ℕ)
    → in_order is_sooner (all_at lists (insert places at place)) ≡ in_order is_sooner (placed place (list_at lists place) ++ all_at lists places)
put-anywhere lists place [] apart zero = refl
put-anywhere lists place [] apart (suc at) = refl
put-anywhere lists place (q ∷ places) apart zero = refl
put-anywhere lists place (q ∷ places) apart (suc at) =
    order-behind is_sooner (placed q (list_at lists q)) _ _ (put-anywhere lists place places apart.1 at)
    ∙ order-swap is_sooner sooner-order (placed q (list_at lists q)) (placed place (list_at lists place)) (all_at lists places)
    (placed-untied q place apart.0 (list_at lists q) (list_at lists place))

-- what holds of a place and of those among which it goes
every-insert : (P : ℕ → Type 0) (place : ℕ) (places : List ℕ) (at : ℕ) → P place → AllByRecursion P places → AllByRecursion P (insert places at place)
every-insert P place [] zero own all = (own, tt)
every-insert P place [] (suc at) own all = (own, tt)
every-insert P place (q ∷ places) zero own all = (own, all)
every-insert P place (q ∷ places) (suc at) own all = (all.0, every-insert P place places at own all.1)

-- the places still stand by the starts of their lists
insert-stands : (lists : Lists) (place : ℕ) (places : List ℕ) (at : ℕ) → 0 < length (list_at lists place) → StandByStart lists places
    → AllByRecursion (λ q. begins_sooner lists place q ≡ true) (take at places) → AllByRecursion (λ q. begins_sooner lists q place ≡ true) (drop at places)
    → StandByStart lists (insert places at place)
insert-stands lists place [] zero some stand later sooner = (some, tt, tt)
insert-stands lists place [] (suc at) some stand later sooner = (some, tt, tt)
insert-stands lists place (q ∷ places) zero some stand later sooner = (some, sooner, stand)
insert-stands lists place (q ∷ places) (suc at) some stand later sooner = (
  stand.0,
  every-insert (λ p. begins_sooner lists p q ≡ true) place places at later.0 stand.1,
  insert-stands lists place places at some stand.2 later.1 sooner,
)

pub put-stands : (lists : Lists) (place : ℕ) (before after : List ℕ) → 0 < length (list_at lists place) → StandByStart lists before → IsPutIn lists place before after
    → StandByStart lists after
put-stands lists place before after some stand put =
    subst (StandByStart lists) (sym put.2) (insert-stands lists place before put.0 some stand put.1.later put.1.sooner)

pub put-all : (lists : Lists) (place : ℕ) (before after : List ℕ) → AllByRecursion (λ q. q ≢ place) before → IsPutIn lists place before after
    → in_order is_sooner (all_at lists after) ≡ in_order is_sooner (placed place (list_at lists place) ++ all_at lists before)
put-all lists place before after apart put =
    ap (λ (places : List ℕ). in_order is_sooner (all_at lists places)) put.2 ∙ put-anywhere lists place before apart put.0

pub put-every : (P : ℕ → Type 0) (lists : Lists) (place : ℕ) (before after : List ℕ) → P place → AllByRecursion P before → IsPutIn lists place before after
    → AllByRecursion P after
put-every P lists place before after own all put =
    subst (AllByRecursion P) (sym put.2) (every-insert P place before put.0 own all)

-- ---- where a place goes

-- a list that has operations is there
pub within-lists : (lists : Lists) (place : ℕ) → 0 < length (list_at lists place) → place < length lists
within-lists [] place some = absurd (omega (arith, some))
within-lists (list ∷ lists) zero some = omega arith
within-lists (list ∷ lists) (suc place) some = let further = within-lists lists place some in omega (arith, further)

add-one : (n : ℕ) → suc n ≡ n + 1
add-one n = omega arith

-- which of three begins sooner
heads-trans : (p q r : ℕ) (xs ys zs : List Operation) → heads_sooner p xs q ys ≡ true → heads_sooner q ys r zs ≡ true → heads_sooner p xs r zs ≡ true
heads-trans p q r [] ys zs first second = absurd (true≢false (sym first))
heads-trans p q r (x ∷ xs) [] zs first second = absurd (true≢false (sym first))
heads-trans p q r (x ∷ xs) (y ∷ ys) [] first second = absurd (true≢false (sym second))
heads-trans p q r (x ∷ xs) (y ∷ ys) (z ∷ zs) first second = sooner-trans (p, x) (q, y) (r, z) first second

heads-later : (p q : ℕ) (xs ys : List Operation) → q ≢ p → 0 < length xs → 0 < length ys → heads_sooner p xs q ys ≡ false → heads_sooner q ys p xs ≡ true
heads-later p q [] ys apart some other is = absurd (omega (arith, some))
heads-later p q (x ∷ xs) [] apart some other is = absurd (omega (arith, other))
heads-later p q (x ∷ xs) (y ∷ ys) apart some other is = go (untied (q, y) (p, x) apart)
  where
    go : (is_sooner (q, y) (p, x) ≡ true) ⊎ (is_sooner (p, x) (q, y) ≡ true) → is_sooner (q, y) (p, x) ≡ true
    go (inl sooner) = sooner
    go (inr later) = absurd (true≢false (sym later ∙ is))

-- the places by their starts, about the one at an index
stand-at : (lists : Lists) (places : List ℕ) (index : ℕ) (d : ℕ) → index < length places → StandByStart lists places
    → (0 < length (list_at lists (get_or places index d)))
    × AllByRecursion (λ q. begins_sooner lists (get_or places index d) q ≡ true) (take index places)
    × AllByRecursion (λ q. begins_sooner lists q (get_or places index d) ≡ true) (drop (suc index) places)
stand-at lists [] index d below stand = absurd (omega (arith, below))
stand-at lists (p ∷ places) zero d below stand = (stand.0, tt, stand.1)
stand-at lists (p ∷ places) (suc index) d below stand =
    let further = stand-at lists places index d (omega (arith, below)) stand.2 in
    (further.0, (at_front lists p places index d (omega (arith, below)) stand.1, further.1), further.2)
  where
    at_front : (ls : Lists) (p : ℕ) (qs : List ℕ) (i d : ℕ) → i < length qs → AllByRecursion (λ q. begins_sooner ls q p ≡ true) qs → begins_sooner ls (get_or qs i d) p ≡ true
    at_front ls p [] i d within all = absurd (omega (arith, within))
    at_front ls p (q ∷ qs) zero d within all = all.0
    at_front ls p (q ∷ qs) (suc i) d within all = at_front ls p qs i d (omega (arith, within)) all.1

-- what holds of all members holds of one
every-at : (P : ℕ → Type 0) (places : List ℕ) (index : ℕ) (d : ℕ) → index < length places → AllByRecursion P places → P (get_or places index d)
every-at P [] index d below all = absurd (omega (arith, below))
every-at P (p ∷ places) zero d below all = all.0
every-at P (p ∷ places) (suc index) d below all = every-at P places index d (omega (arith, below)) all.1

-- and of one more
every-take : (P : ℕ → Type 0) (places : List ℕ) (index : ℕ) (d : ℕ) → index < length places → AllByRecursion P (take index places) → P (get_or places index d)
    → AllByRecursion P (take (suc index) places)
every-take P [] index d below all own = tt
every-take P (p ∷ places) zero d below all own = (own, tt)
every-take P (p ∷ places) (suc index) d below all own = (all.0, every-take P places index d (omega (arith, below)) all.1 own)

every-drop : (P : ℕ → Type 0) (places : List ℕ) (index : ℕ) (d : ℕ) → index < length places → AllByRecursion P (drop (suc index) places) → P (get_or places index d)
    → AllByRecursion P (drop index places)
every-drop P [] index d below all own = absurd (omega (arith, below))
every-drop P (p ∷ places) zero d below all own = (own, all)
every-drop P (p ∷ places) (suc index) d below all own = every-drop P places index d (omega (arith, below)) all own

module _ (lists : Lists) (places : List ℕ) (place index d : ℕ) (below : index < length places) (stand : StandByStart lists places) where
  pub has-some : 0 < length (list_at lists (get_or places index d))
  has-some = (stand-at lists places index d below stand).0

  pub has-list : get_or places index d < length lists
  has-list = within-lists lists (get_or places index d) has-some

  -- where the list at a place begins sooner than one of these, those in front of that begin later
  pub later-more : begins_sooner lists place (get_or places index d) ≡ true → AllByRecursion (λ q. begins_sooner lists place q ≡ true) (take (index + 1) places)
  later-more is =
      subst (λ (n : ℕ). AllByRecursion (λ q. begins_sooner lists place q ≡ true) (take n places)) (add-one index)
      (every-take (λ q. begins_sooner lists place q ≡ true) places index d below
      (every-weaker (λ q. begins_sooner lists (get_or places index d) q ≡ true) (λ q. begins_sooner lists place q ≡ true)
      (λ q sooner. heads-trans place (get_or places index d) q (list_at lists place) (list_at lists (get_or places index d)) (list_at lists q) is sooner)
      (take index places) (stand-at lists places index d below stand).1)
      is)

  -- and else those behind it begin sooner
  pub sooner-more : 0 < length (list_at lists place) → AllByRecursion (λ q. q ≢ place) places → begins_sooner lists place (get_or places index d) ≡ false
      → AllByRecursion (λ q. begins_sooner lists q place ≡ true) (drop index places)
  sooner-more some apart is =
      let later : begins_sooner lists (get_or places index d) place ≡ true =
      heads-later place (get_or places index d) (list_at lists place) (list_at lists (get_or places index d)) (every-at (λ q. q ≢ place) places index d below apart) some has-some is in
      every-drop (λ q. begins_sooner lists q place ≡ true) places index d below
      (every-weaker (λ q. begins_sooner lists q (get_or places index d) ≡ true) (λ q. begins_sooner lists q place ≡ true)
      (λ q sooner. heads-trans q (get_or places index d) place (list_at lists q) (list_at lists (get_or places index d)) (list_at lists place) sooner later)
      (drop (suc index) places) (stand-at lists places index d below stand).2)
      later

-- ---- the places of all lists, from the last list to the first

-- none so far
pub places-none : (lists : Lists) (count : ℕ) → length lists ≤ count → in_order is_sooner (all_at lists []) ≡ in_order is_sooner (all_from count (drop count lists))
places-none lists count all = ap (λ (ls : Lists). in_order is_sooner (all_from count ls)) (sym (drop_all count lists all))

module _ (lists : Lists) (place : ℕ) (within : place < length lists) (before : List ℕ)
    (so_far : in_order is_sooner (all_at lists before) ≡ in_order is_sooner (all_from (place + 1) (drop (place + 1) lists))) where
  behind : in_order is_sooner (placed place (list_at lists place) ++ all_at lists before) ≡ in_order is_sooner (all_from place (drop place lists))
  behind =
      order-behind is_sooner (placed place (list_at lists place)) (all_at lists before) (all_from (place + 1) (drop (place + 1) lists)) so_far
      ∙ ap (λ (ls : Lists). in_order is_sooner (all_from place ls)) (sym (drop_more lists place [] within))

  -- one more, of a list that has operations or of one that has none
  pub places-more : (after : List ℕ) → AllByRecursion (λ q. q ≢ place) before → IsPutIn lists place before after
      → in_order is_sooner (all_at lists after) ≡ in_order is_sooner (all_from place (drop place lists))
  places-more after apart put = put-all lists place before after apart put ∙ behind

  pub places-same : list_at lists place ≡ [] → in_order is_sooner (all_at lists before) ≡ in_order is_sooner (all_from place (drop place lists))
  places-same none = ap (λ (list : List Operation). in_order is_sooner (placed place list ++ all_at lists before)) (sym none) ∙ behind

-- places from a list on are not one before it
pub from-apart : (place : ℕ) (places : List ℕ) → AllByRecursion (λ q. place + 1 ≤ q) places → AllByRecursion (λ q. q ≢ place) places
from-apart place places from = every-weaker (λ q. place + 1 ≤ q) (λ q. q ≢ place) (λ q above is. absurd (omega (arith, above, is))) places from

pub from-less : (place : ℕ) (places : List ℕ) → AllByRecursion (λ q. place + 1 ≤ q) places → AllByRecursion (λ q. place ≤ q) places
from-less place places from = every-weaker (λ q. place + 1 ≤ q) (λ q. place ≤ q) (λ q above. omega (arith, above)) places from

-- the same at a turn: lists from `upper` on have come in, and the next one is at the place before that
module _ (lists : Lists) (upper place : ℕ) (next : upper ≡ place + 1) (within : upper ≤ length lists) (before : List ℕ)
    (from : AllByRecursion (λ q. upper ≤ q) before)
    (so_far : in_order is_sooner (all_at lists before) ≡ in_order is_sooner (all_from upper (drop upper lists))) where
  there : place < length lists
  there = omega (arith, next, within)

  from_next : AllByRecursion (λ q. place + 1 ≤ q) before
  from_next = subst (λ (n : ℕ). AllByRecursion (λ q. n ≤ q) before) next from

  so_far_next : in_order is_sooner (all_at lists before) ≡ in_order is_sooner (all_from (place + 1) (drop (place + 1) lists))
  so_far_next = subst (λ (n : ℕ). in_order is_sooner (all_at lists before) ≡ in_order is_sooner (all_from n (drop n lists))) next so_far

  pub turn-apart : AllByRecursion (λ q. q ≢ place) before
  turn-apart = from-apart place before from_next

  pub turn-from : AllByRecursion (λ q. place ≤ q) before
  turn-from = from-less place before from_next

  pub turn-put-from : (after : List ℕ) → IsPutIn lists place before after → AllByRecursion (λ q. place ≤ q) after
  turn-put-from after put = put-every (λ q. place ≤ q) lists place before after (omega arith) turn-from put

  pub turn-put-all : (after : List ℕ) → IsPutIn lists place before after → in_order is_sooner (all_at lists after) ≡ in_order is_sooner (all_from place (drop place lists))
  turn-put-all after put = places-more lists place there before so_far_next after turn-apart put

  pub turn-same : list_at lists place ≡ []
      → in_order is_sooner (all_at lists before) ≡ in_order is_sooner (all_from place (drop place lists))
  turn-same none = places-same lists place there before so_far_next none

-- ---- all lists, in the one order

-- each member's place is at most those of the members behind it
abbrev Rises : List (ℕ × Operation) → Type 0
Rises [] = ⊤
Rises (x ∷ xs) = AllByRecursion (λ y. x.0 ≤ y.0) xs × Rises xs

-- of two that stand so, the moments alone say which comes before the other
by_moments : (r : Ordering) (a b : ℕ) → a ≤ b → is_lt (ordering_then r (nat_cmp b a)) ≡ is_lt r
by_moments Less a b order = refl
by_moments Equal a b order = grind (arith, nat_tests)
by_moments Greater a b order = refl

put-by_moments : (x : ℕ × Operation) (ys : List (ℕ × Operation)) → AllByRecursion (λ y. x.0 ≤ y.0) ys
    → put_in_order is_sooner x ys ≡ put_in_order (comes_before (λ (y : ℕ × Operation). moment_of y.1)) x ys
put-by_moments x [] from = refl
put-by_moments x (y ∷ ys) from =
    ap (λ (b : Bool). cond b (y ∷ put_in_order is_sooner x ys) (x ∷ y ∷ ys)) (by_moments (moment_cmp (moment_of y.1) (moment_of x.1)) x.0 y.0 from.0)
    ∙ ap (λ (zs : List (ℕ × Operation)). cond (comes_before (λ (z : ℕ × Operation). moment_of z.1) y x) (y ∷ zs) (x ∷ y ∷ ys)) (put-by_moments x ys from.1)

order-by_moments : (xs : List (ℕ × Operation)) → Rises xs → in_order is_sooner xs ≡ merged (λ (x : ℕ × Operation). moment_of x.1) xs
order-by_moments [] rises = refl
order-by_moments (x ∷ xs) rises =
    put-by_moments x (in_order is_sooner xs) (every-in_order is_sooner (λ y. x.0 ≤ y.0) xs rises.0)
    ∙ ap (put_in_order (comes_before (λ (y : ℕ × Operation). moment_of y.1)) x) (order-by_moments xs rises.1)

-- lists one after another stand so
placed-from : (place least : ℕ) → least ≤ place → (list : List Operation) → AllByRecursion (λ y. least ≤ y.0) (placed place list)
placed-from place least order [] = tt
placed-from place least order (operation ∷ list) = (order, placed-from place least order list)

all-from : (place least : ℕ) → least ≤ place → (lists : Lists) → AllByRecursion (λ y. least ≤ y.0) (all_from place lists)
all-from place least order [] = tt
all-from place least order (list ∷ lists) =
    every-append (λ y. least ≤ y.0) (placed place list) (all_from (place + 1) lists) (placed-from place least order list) (all-from (place + 1) least (omega (arith, order)) lists)

rises-behind : (place : ℕ) (list : List Operation) (more : List (ℕ × Operation)) → AllByRecursion (λ y. place ≤ y.0) more → Rises more → Rises (placed place list ++ more)
rises-behind place [] more from rises = rises
rises-behind place (operation ∷ list) more from rises =
    (every-append (λ y. place ≤ y.0) (placed place list) more (placed-from place place (omega arith) list) from, rises-behind place list more from rises)

all-rises : (place : ℕ) (lists : Lists) → Rises (all_from place lists)
all-rises place [] = tt
all-rises place (list ∷ lists) = rises-behind place list (all_from (place + 1) lists) (all-from (place + 1) place (omega arith) lists) (all-rises (place + 1) lists)

-- what they have without their places
without-places : (place : ℕ) (list : List Operation) (more : List (ℕ × Operation)) → map (λ x. x.1) (placed place list ++ more) ≡ list ++ map (λ x. x.1) more
without-places place [] more = refl
without-places place (operation ∷ list) more = ap (λ (ops : List Operation). operation ∷ ops) (without-places place list more)

all-without : (place : ℕ) (lists : Lists) → map (λ x. x.1) (all_from place lists) ≡ all_of lists
all-without place [] = refl
all-without place (list ∷ lists) =
    without-places place list (all_from (place + 1) lists) ∙ ap (λ (ops : List Operation). list ++ ops) (all-without (place + 1) lists)

-- At first all operations are left, in the one order.
pub all-left : (lists : Lists) (places : List ℕ) → in_order is_sooner (all_at lists places) ≡ in_order is_sooner (all_from 0 lists)
    → left_at lists places ≡ merged moment_of (all_of lists)
all-left lists places all =
    ap (map (λ (x : ℕ × Operation). x.1)) (all ∙ order-by_moments (all_from 0 lists) (all-rises 0 lists))
    ∙ merged-map moment_of (λ (x : ℕ × Operation). x.1) (all_from 0 lists)
    ∙ ap (merged moment_of) (all-without 0 lists)

pub all-counted : (lists : Lists) (places : List ℕ) → in_order is_sooner (all_at lists places) ≡ in_order is_sooner (all_from 0 lists)
    → length (left_at lists places) ≡ length (all_of lists)
all-counted lists places all = ap length (all-left lists places all) ∙ length-in_order (comes_before moment_of) (all_of lists)

-- ---- the first is taken

-- whether there is a first
pub some-first : (list : List Operation) (first : Option (Bor Operation)) → option_copied first ≡ slice_get list 0 → is_some first ≡ true → 0 < length list
some-first [] None is some = absurd (true≢false (sym some))
some-first [] (Some first) is some = absurd (cc)
some-first (operation ∷ list) first is some = omega arith

pub none-first : (list : List Operation) (first : Option (Bor Operation)) → option_copied first ≡ slice_get list 0 → is_some first ≡ false → list ≡ []
none-first [] first is none = refl
none-first (operation ∷ list) None is none = absurd (cc)
none-first (operation ∷ list) (Some first) is none = absurd (true≢false none)

-- the last of the places
stand-last : (lists : Lists) (front : List ℕ) (place : ℕ) → StandByStart lists (front ++ place ∷ [])
    → (0 < length (list_at lists place)) × AllByRecursion (λ q. begins_sooner lists place q ≡ true) front × StandByStart lists front
stand-last lists [] place stand = (stand.0, tt, tt)
stand-last lists (q ∷ front) place stand =
    let further = stand-last lists front place stand.2 in
    (further.0, (last-of front stand.1, further.1), (stand.0, front-of front stand.1, further.2))
  where
    last-of : (qs : List ℕ) → AllByRecursion (λ p. begins_sooner lists p q ≡ true) (qs ++ place ∷ []) → begins_sooner lists place q ≡ true
    last-of [] all = all.0
    last-of (p ∷ qs) all = last-of qs all.1

    front-of : (qs : List ℕ) → AllByRecursion (λ p. begins_sooner lists p q ≡ true) (qs ++ place ∷ []) → AllByRecursion (λ p. begins_sooner lists p q ≡ true) qs
    front-of [] all = tt
    front-of (p ∷ qs) all = (all.0, front-of qs all.1)

-- no list begins sooner than itself
not-sooner : (place : ℕ) (list : List Operation) → heads_sooner place list place list ≡ true → ⊥
not-sooner place [] is = true≢false (sym is)
not-sooner place (x ∷ xs) is = true≢false (sym is ∙ sooner-order.one_way (place, x) (place, x) is)

-- none of these comes before the first of a list that begins sooner, which stand in order
none-sooner : (p : ℕ) (x : Operation) (q : ℕ) (y : Operation) (ys : List Operation) → is_sooner (p, x) (q, y) ≡ true → AllByRecursion (λ z. comes_before moment_of z y ≡ false) ys
    → AllByRecursion (λ z. is_sooner z (p, x) ≡ false) (placed q ys)
none-sooner p x q y [] is order = tt
none-sooner p x q y (z ∷ ys) is order = (
  sooner-order.chain (q, z) (q, y) (p, x) (by_moments (moment_cmp (moment_of z) (moment_of y)) q q (omega arith) ∙ order.0) (sooner-order.one_way (p, x) (q, y) is),
  none-sooner p x q y ys is order.1,
)

list-later : (p : ℕ) (x : Operation) (xs : List Operation) (q : ℕ) (ys : List Operation) → heads_sooner p (x ∷ xs) q ys ≡ true → IsMerged moment_of ys
    → AllByRecursion (λ z. is_sooner z (p, x) ≡ false) (placed q ys)
list-later p x xs q [] is order = tt
list-later p x xs q (y ∷ ys) is order = (sooner-order.one_way (p, x) (q, y) is, none-sooner p x q y ys is order.0)

merged-at : (lists : Lists) (place : ℕ) → AreMerged lists → IsMerged moment_of (list_at lists place)
merged-at [] place order = tt
merged-at (list ∷ lists) zero order = order.0
merged-at (list ∷ lists) (suc place) order = merged-at lists place order.1

lists-later : (lists : Lists) (p : ℕ) (x : Operation) (xs : List Operation) (places : List ℕ) → AreMerged lists → list_at lists p ≡ x ∷ xs
    → AllByRecursion (λ q. begins_sooner lists p q ≡ true) places → AllByRecursion (λ z. is_sooner z (p, x) ≡ false) (all_at lists places)
lists-later lists p x xs [] order is all = tt
lists-later lists p x xs (q ∷ places) order is all =
    every-append (λ z. is_sooner z (p, x) ≡ false) (placed q (list_at lists q)) (all_at lists places)
    (list-later p x xs q (list_at lists q) (subst (λ (list : List Operation). heads_sooner p list q (list_at lists q) ≡ true) is all.0) (merged-at lists q order))
    (lists-later lists p x xs places order is all.1)

-- the rest of a list in order, none of which comes before its first
rest-later : (p : ℕ) (x : Operation) (xs : List Operation) → AllByRecursion (λ z. comes_before moment_of z x ≡ false) xs
    → AllByRecursion (λ z. is_sooner z (p, x) ≡ false) (placed p xs)
rest-later p x [] order = tt
rest-later p x (z ∷ xs) order = (by_moments (moment_cmp (moment_of z) (moment_of x)) p p (omega arith) ∙ order.0, rest-later p x xs order.1)

module _ (lists : Lists) (place : ℕ) (rest : List Operation) where
  abbrev shorter : Lists
  shorter = set lists place rest

  list-other : (q : ℕ) → q ≢ place → list_at shorter q ≡ list_at lists q
  list-other q apart = get_or-set_other lists place q rest [] apart

  begins-same : (p q : ℕ) → p ≢ place → q ≢ place → begins_sooner shorter p q ≡ begins_sooner lists p q
  begins-same p q p_apart q_apart =
      ap (λ (list : List Operation). heads_sooner p list q (list_at shorter q)) (list-other p p_apart) ∙ ap (λ (list : List Operation). heads_sooner p (list_at lists p) q list) (list-other q q_apart)

  sooner-still : (p : ℕ) (places : List ℕ) → p ≢ place → AllByRecursion (λ q. q ≢ place) places → AllByRecursion (λ q. begins_sooner lists q p ≡ true) places
      → AllByRecursion (λ q. begins_sooner shorter q p ≡ true) places
  sooner-still p [] apart others all = tt
  sooner-still p (q ∷ places) apart others all = (begins-same q p others.0 apart ∙ all.0, sooner-still p places apart others.1 all.1)

  stand-still : (places : List ℕ) → AllByRecursion (λ q. q ≢ place) places → StandByStart lists places → StandByStart shorter places
  stand-still [] apart stand = tt
  stand-still (p ∷ places) apart stand = (
    subst (λ (list : List Operation). 0 < length list) (sym (list-other p apart.0)) stand.0,
    sooner-still p places apart.0 apart.1 stand.1,
    stand-still places apart.1 stand.2,
  )

  all-still : (places : List ℕ) → AllByRecursion (λ q. q ≢ place) places → all_at shorter places ≡ all_at lists places
  all-still [] apart = refl
  all-still (q ∷ places) apart =
      ap (λ (list : List Operation). placed q list ++ all_at shorter places) (list-other q apart.0)
      ∙ ap (λ (more : List (ℕ × Operation)). placed q (list_at lists q) ++ more) (all-still places apart.1)

merged-set : (lists : Lists) (place : ℕ) (first : Operation) (rest : List Operation) → list_at lists place ≡ first ∷ rest → AreMerged lists → AreMerged (set lists place rest)
merged-set [] place first rest is order = tt
merged-set (list ∷ lists) zero first rest is order = ((subst (IsMerged moment_of) is order.0).1, order.1)
merged-set (list ∷ lists) (suc place) first rest is order = (order.0, merged-set lists place first rest is order.1)

module _ (lists : Lists) (places front : List ℕ) (place : ℕ) (are : places ≡ front ++ place ∷ []) (order : AreMerged lists) (stand : StandByStart lists places) where
  last : (0 < length (list_at lists place)) × AllByRecursion (λ q. begins_sooner lists place q ≡ true) front × StandByStart lists front
  last = stand-last lists front place (subst (StandByStart lists) are stand)

  pub last-within : place < length lists
  last-within = within-lists lists place last.0

  pub last-apart : AllByRecursion (λ q. q ≢ place) front
  last-apart =
      every-weaker (λ q. begins_sooner lists place q ≡ true) (λ q. q ≢ place)
      (λ q sooner is. not-sooner place (list_at lists place) (subst (λ (r : ℕ). begins_sooner lists place r ≡ true) is sooner)) front last.1

  pub last-stands : (rest : List Operation) → StandByStart (set lists place rest) front
  last-stands rest = stand-still lists place rest front last-apart last.2

  -- what was taken is the first of all
  first-is : (first : Operation) (rest : List Operation) → list_at lists place ≡ first ∷ rest
      → left_at lists places ≡ first ∷ map (λ x. x.1) (in_order is_sooner (placed place rest ++ all_at lists front))
  first-is first rest is =
      ap (left_at lists) (are ∙ sym (insert_end front place))
      ∙ ap (map (λ (x : ℕ × Operation). x.1))
      (put-anywhere lists place front last-apart (length front)
      ∙ ap (λ (list : List Operation). in_order is_sooner (placed place list ++ all_at lists front)) is
      ∙ put-front is_sooner (place, first) (in_order is_sooner (placed place rest ++ all_at lists front))
      (every-in_order is_sooner (λ z. is_sooner z (place, first) ≡ false) (placed place rest ++ all_at lists front)
      (every-append (λ z. is_sooner z (place, first) ≡ false) (placed place rest) (all_at lists front)
      (rest-later place first rest (subst (IsMerged moment_of) is (merged-at lists place order)).0)
      (lists-later lists place first rest front order is last.1))))

  module _ (d : List Operation) (taken : Option Operation) (rest : List Operation)
      (some : IfSome taken (λ first. get_or lists place d ≡ first ∷ rest)) (none : taken ≡ None → (get_or lists place d ≡ []) × (rest ≡ [])) where
    list-is : get_or lists place d ≡ list_at lists place
    list-is = get_or_default lists place d [] last-within

    -- something was taken
    was-some : (o : Option Operation) → taken ≡ o → (first : Operation) × (taken ≡ Some first) × (list_at lists place ≡ first ∷ rest)
    was-some None is =
        let empty : list_at lists place ≡ [] = sym list-is ∙ (none is).0 in
        absurd (omega (arith, last.0, ap length empty))
    was-some (Some first) is = (first, is, sym list-is ∙ subst (λ (o : Option Operation). IfSome o (λ x. get_or lists place d ≡ x ∷ rest)) is some)

    pub taken-some : taken ≡ None → ⊥
    taken-some is =
        let one = was-some taken refl in
        let e : None ≡ Some one.0 = sym is ∙ one.1 in
        absurd (cc)

    pub taken-merged : AreMerged (set lists place rest)
    taken-merged = let one = was-some taken refl in merged-set lists place one.0 rest one.2 order

    -- what is left of the list, at its place
    pub rest-at : list_at (set lists place rest) place ≡ rest
    rest-at = get_or-set_same lists place rest [] last-within

    -- with its place among the others again, or where it has none left
    pub taken-put : (after : List ℕ) → IsPutIn (set lists place rest) place front after
        → IfSome taken (λ first. left_at lists places ≡ first ∷ left_at (set lists place rest) after)
    taken-put after put =
        let one = was-some taken refl in
        subst (λ (o : Option Operation). IfSome o (λ first. left_at lists places ≡ first ∷ left_at (set lists place rest) after)) (sym one.1)
        (first-is one.0 rest one.2
        ∙ ap (λ (ops : List Operation). one.0 ∷ ops)
        (sym (ap (map (λ (x : ℕ × Operation). x.1))
        (put-all (set lists place rest) place front after last-apart put
        ∙ ap (λ (l : List Operation). in_order is_sooner (placed place l ++ all_at (set lists place rest) front)) rest-at
        ∙ ap (λ (more : List (ℕ × Operation)). in_order is_sooner (placed place rest ++ more)) (all-still lists place rest front last-apart)))))

    pub taken-last : rest ≡ [] → IfSome taken (λ first. left_at lists places ≡ first ∷ left_at (set lists place rest) front)
    taken-last empty =
        let one = was-some taken refl in
        subst (λ (o : Option Operation). IfSome o (λ first. left_at lists places ≡ first ∷ left_at (set lists place rest) front)) (sym one.1)
        (first-is one.0 rest one.2
        ∙ ap (λ (ops : List Operation). one.0 ∷ ops)
        (ap (λ (l : List Operation). map (λ (x : ℕ × Operation). x.1) (in_order is_sooner (placed place l ++ all_at lists front))) empty
        ∙ ap (λ (more : List (ℕ × Operation)). map (λ (x : ℕ × Operation). x.1) (in_order is_sooner more)) (sym (all-still lists place rest front last-apart))))
