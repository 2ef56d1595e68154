-- In the order of their evicts two lists of elements part at the first epoch in which they are no permutation of each
-- other, if no verifier evicted two elements of the second with one stamp.
use Rattle.std.proofs.Common.{◌≡◌, ℕ, suc, ◌+◌, ◌<◌, ◌≤◌, ◌==◌, ◌&&◌, nat_le, nat_lt, min, Bool, true, false, not, List, [], ◌∷◌, Option, Some, refl, sym, ◌∙◌, ap, subst, ◌⊎◌, inl, inr, filter, if◌then◌else◌, arith}
use Rattle.std.specs.List.{AllByRecursion}
use Rattle.std.specs.Option.{option_map}
use Rattle.std.proofs.lemmas.Bool.{true≢false, cond_both, eq-eqb, and_from, cases_eq, cases_lt}
use Rattle.std.proofs.lemmas.Bool.Decides.{nat_tests}
use Rattle.std.proofs.lemmas.Map.Keys.{IsDistinct-head, IsDistinct-tail, IsDistinct-cons, IsDistinct-IsPermutation}
use Rattle.record_text.specs.declared.element.Element.{Element}
use Rattle.stamp_order.specs.declared.moment.Moment.{Moment}
use Rattle.stamp_order.specs.Merged.{comes_before, merged, IsMerged}
use Rattle.stamp_order.proofs.InOrderLaws.{every-weaker, every-filter, every-in_order}
use Rattle.stamp_order.proofs.OneOrderLaws.{every-passes, not_before_itself}
use Rattle.stamp_order.proofs.MomentLaws.{is_before-order, comes_before-order, is_before-epoch, one_moment}
use Rattle.stamp_order.proofs.MergedLaws.{merged-sorts, merged-permutation}
use Rattle.soundness.specs.Certified.{of_epoch}
use Rattle.soundness.specs.Permutation.{same_element, count_of, without_one, permuted_behind, is_permutation}
use Rattle.soundness.proofs.PermutationLaws.{same_element-true, same_element-self, one_more}
use Rattle.collision_exhibit.specs.declared.audit_event.AuditEvent.{AuditEvent}
use Rattle.collision_exhibit.specs.Shown.{added_elements, evicted_elements, uneven_among}
use Rattle.collision_exhibit.specs.Elements.{same_evict, HaveOwnStamps, evict_moment, is_within, within, parting}
use Rattle.collision_exhibit.proofs.ElementLemmas.{no_permutation, count_none, first_failing, first_failing-agree, first_failing-none, first_failing-found, is_even, uneven_is_failing, of_epoch-own, of_epoch-other, of_epoch-later, even_ordered}

-- ---- own stamps

pub same_evict-flips : (a b : Element) → same_evict a b ≡ same_evict b a
same_evict-flips a b = go a.stamp.epoch b.stamp.epoch a.stamp.counter b.stamp.counter a.verifier b.verifier
  where
    go : (e f c d v w : ℕ) → ((e == f && c == d) && v == w) ≡ ((f == e && d == c) && w == v)
    go e f c d v w = grind (arith, nat_tests)

-- elements of one moment are of one evict
same_evict-moment : (a b : Element) → evict_moment a ≡ evict_moment b → same_evict a b ≡ true
same_evict-moment a b is =
    and_from (a.stamp.epoch == b.stamp.epoch && a.stamp.counter == b.stamp.counter) (a.verifier == b.verifier)
    (and_from (a.stamp.epoch == b.stamp.epoch) (a.stamp.counter == b.stamp.counter)
    (eq-eqb a.stamp.epoch b.stamp.epoch (ap (λ (m : Moment). m.at.epoch) is))
    (eq-eqb a.stamp.counter b.stamp.counter (ap (λ (m : Moment). m.at.counter) is)))
    (eq-eqb a.verifier b.verifier (ap (λ (m : Moment). m.verifier) is))

own_stamps-filter : (p : Element → Bool) (xs : List Element) → HaveOwnStamps xs → HaveOwnStamps (filter p xs)
own_stamps-filter p [] own = own
own_stamps-filter p (x ∷ xs) own =
    cond_both (p x) (x ∷ filter p xs) (filter p xs) HaveOwnStamps
    (λ _. IsDistinct-cons same_evict x (filter p xs)
    (every-filter (λ y. same_evict x y ≡ false) p xs (IsDistinct-head same_evict x xs own))
    (own_stamps-filter p xs (IsDistinct-tail same_evict x xs own)))
    (λ _. own_stamps-filter p xs (IsDistinct-tail same_evict x xs own))

own_stamps-ordered : (first count : ℕ) (xs : List Element) → HaveOwnStamps xs → HaveOwnStamps (merged evict_moment (within first count xs))
own_stamps-ordered first count xs own =
    IsDistinct-IsPermutation same_evict same_evict-flips (within first count xs) (merged evict_moment (within first count xs))
    (merged-permutation evict_moment (within first count xs)) (own_stamps-filter (is_within first count) xs own)

-- ---- where the lists part

-- an element that doesn't come before another is of no earlier epoch
no_earlier : (x y : Element) → comes_before evict_moment y x ≡ false → x.stamp.epoch ≤ y.stamp.epoch
no_earlier x y after = go (cases_lt y.stamp.epoch x.stamp.epoch)
  where
    go : (y.stamp.epoch < x.stamp.epoch) ⊎ (x.stamp.epoch ≤ y.stamp.epoch) → x.stamp.epoch ≤ y.stamp.epoch
    go (inl earlier) = absurd (true≢false (sym (is_before-epoch (evict_moment y) (evict_moment x) earlier) ∙ after))
    go (inr is) = is

-- each of the elements is of this epoch or a later one
abbrev AreFrom : ℕ → List Element → Type 0
AreFrom epoch xs = AllByRecursion (λ x. epoch ≤ x.stamp.epoch) xs

-- the elements that stand behind one are of its epoch or later
from_first : (x : Element) (xs : List Element) → IsMerged evict_moment (x ∷ xs) → AreFrom x.stamp.epoch (x ∷ xs)
from_first x xs sorted = (
  omega arith,
  every-weaker (λ y. comes_before evict_moment y x ≡ false) (λ y. x.stamp.epoch ≤ y.stamp.epoch) (λ y after. no_earlier x y after) xs sorted.0,
)

from_below : (low high : ℕ) (xs : List Element) → low ≤ high → AreFrom high xs → AreFrom low xs
from_below low high xs below all = every-weaker (λ x. high ≤ x.stamp.epoch) (λ x. low ≤ x.stamp.epoch) (λ x from. omega arith) xs all

-- Lists that have no elements before an epoch, and of it one element not equally often, fail there first.
parts_here : (z : Element) (xs ys : List Element) (first count : ℕ) → is_within first count z ≡ true
    → AreFrom z.stamp.epoch xs → AreFrom z.stamp.epoch ys
    → (count_of z (of_epoch z.stamp.epoch xs) ≡ count_of z (of_epoch z.stamp.epoch ys) → ⊥)
    → first_failing (is_even xs ys) first count ≡ Some z.stamp.epoch
parts_here z xs ys first count inside left right differ =
    first_failing-found (is_even xs ys) first count z.stamp.epoch (from z.stamp.epoch inside) (below z.stamp.epoch inside)
    (λ epoch earlier.
    ap (λ (zs : List Element). is_permutation zs (of_epoch epoch ys)) (none epoch earlier xs left)
    ∙ ap (λ (zs : List Element). is_permutation [] zs) (none epoch earlier ys right))
    (no_permutation z (of_epoch z.stamp.epoch xs) (of_epoch z.stamp.epoch ys) differ)
  where
    from : (e : ℕ) → (nat_le first e && nat_lt e (first + count)) ≡ true → first ≤ e
    from e is = grind (arith, nat_tests)

    below : (e : ℕ) → (nat_le first e && nat_lt e (first + count)) ≡ true → e < first + count
    below e is = grind (arith, nat_tests)

    none : (epoch : ℕ) → epoch < z.stamp.epoch → (zs : List Element) → AreFrom z.stamp.epoch zs → of_epoch epoch zs ≡ []
    none epoch earlier zs all =
        of_epoch-later epoch zs
        (every-weaker (λ x. z.stamp.epoch ≤ x.stamp.epoch) (λ x. epoch < x.stamp.epoch) (λ x later. omega arith) zs all)

-- an element is counted at the head of its epoch
count_head : (x : Element) (xs : List Element) → count_of x (of_epoch x.stamp.epoch (x ∷ xs)) ≡ suc (count_of x (of_epoch x.stamp.epoch xs))
count_head x xs =
    ap (count_of x) (of_epoch-own x.stamp.epoch x xs refl)
    ∙ ap (λ (b : Bool). one_more b (count_of x (of_epoch x.stamp.epoch xs))) (same_element-self x)

-- and not where none is that element
count_other : (x : Element) (ys : List Element) → AllByRecursion (λ y. same_element x y ≡ false) ys → count_of x (of_epoch x.stamp.epoch ys) ≡ 0
count_other x ys none =
    count_none x (of_epoch x.stamp.epoch ys) (every-filter (λ y. same_element x y ≡ false) (λ y. y.stamp.epoch == x.stamp.epoch) ys none)

-- a test that holds at none, where it would give what is known to fail
pub never : (b : Bool) → (b ≡ true → ⊥) → b ≡ false
never true not_true = absurd (not_true refl)
never false not_true = refl

-- the one list has ended
added_alone : (x : Element) (xs : List Element) (first count : ℕ) → IsMerged evict_moment (x ∷ xs) → is_within first count x ≡ true
    → first_failing (is_even (x ∷ xs) []) first count ≡ Some x.stamp.epoch
added_alone x xs first count sorted inside =
    parts_here x (x ∷ xs) [] first count inside (from_first x xs sorted) tt
    (λ same. let head = count_head x xs in absurd (omega (arith, head, same)))

evicted_alone : (y : Element) (ys : List Element) (first count : ℕ) → IsMerged evict_moment (y ∷ ys) → is_within first count y ≡ true
    → first_failing (is_even [] (y ∷ ys)) first count ≡ Some y.stamp.epoch
evicted_alone y ys first count sorted inside =
    parts_here y [] (y ∷ ys) first count inside tt (from_first y ys sorted)
    (λ same. let head = count_head y ys in absurd (omega (arith, head, same)))

-- an evicted element that comes before all added ones is none of them
added_none : (x y : Element) (xs : List Element) → IsMerged evict_moment (x ∷ xs) → comes_before evict_moment y x ≡ true
    → AllByRecursion (λ z. same_element y z ≡ false) (x ∷ xs)
added_none x y xs sorted before = (
  none x (not_before_itself (comes_before evict_moment) (comes_before-order evict_moment) x),
  every-weaker (λ z. comes_before evict_moment z x ≡ false) (λ z. same_element y z ≡ false) none xs sorted.0,
)
  where
    none : (z : Element) → comes_before evict_moment z x ≡ false → same_element y z ≡ false
    none z after =
        never (same_element y z)
        (λ same. true≢false (sym before ∙ subst (λ (w : Element). comes_before evict_moment w x ≡ false) (sym (same_element-true y z same)) after))

-- an added element that isn't the first evicted one, and comes after none of them, is none of them
evicted_none : (x y : Element) (ys : List Element) → IsMerged evict_moment (y ∷ ys) → HaveOwnStamps (y ∷ ys)
    → same_element x y ≡ false → comes_before evict_moment y x ≡ false
    → AllByRecursion (λ z. same_element x z ≡ false) (y ∷ ys)
evicted_none x y ys sorted own differ after = (differ, further ys sorted.0 (IsDistinct-head same_evict y ys own))
  where
    not_both : (a b : Bool) → a ≡ false → b ≡ false → (not a && not b) ≡ true
    not_both true b is other = absurd (true≢false is)
    not_both false true is other = absurd (true≢false other)
    not_both false false is other = refl

    none : (z : Element) → comes_before evict_moment z y ≡ false → same_evict y z ≡ false → same_element x z ≡ false
    none z behind apart =
        never (same_element x z)
        (λ same.
        let is = same_element-true x z same in
        let back = subst (λ (w : Element). comes_before evict_moment w y ≡ false) (sym is) behind in
        let moment = one_moment (evict_moment y) (evict_moment x) (not_both (comes_before evict_moment y x) (comes_before evict_moment x y) after back) in
        true≢false (sym (same_evict-moment y x moment) ∙ subst (λ (w : Element). same_evict y w ≡ false) (sym is) apart))

    further : (zs : List Element) → AllByRecursion (λ z. comes_before evict_moment z y ≡ false) zs → AllByRecursion (λ z. same_evict y z ≡ false) zs
        → AllByRecursion (λ z. same_element x z ≡ false) zs
    further [] behind apart = tt
    further (z ∷ zs) behind apart = (none z behind.0 apart.0, further zs behind.1 apart.1)

-- where the first elements differ, the lists part at the lower of their epochs
differ_here : (x y : Element) (xs ys : List Element) (first count : ℕ) → IsMerged evict_moment (x ∷ xs) → IsMerged evict_moment (y ∷ ys)
    → HaveOwnStamps (y ∷ ys) → is_within first count x ≡ true → is_within first count y ≡ true → same_element x y ≡ false
    → first_failing (is_even (x ∷ xs) (y ∷ ys)) first count ≡ Some (min x.stamp.epoch y.stamp.epoch)
differ_here x y xs ys first count left right own x_inside y_inside differ = go (comes_before evict_moment y x) refl
  where
    lower : (a b : ℕ) → a ≤ b → min a b ≡ a
    lower a b below = omega arith

    higher : (a b : ℕ) → b ≤ a → min a b ≡ b
    higher a b below = omega arith

    earlier : comes_before evict_moment y x ≡ true → y.stamp.epoch ≤ x.stamp.epoch
    earlier before = no_earlier y x (is_before-order.one_way (evict_moment y) (evict_moment x) before)

    go : (b : Bool) → comes_before evict_moment y x ≡ b
        → first_failing (is_even (x ∷ xs) (y ∷ ys)) first count ≡ Some (min x.stamp.epoch y.stamp.epoch)
    go true before =
        parts_here y (x ∷ xs) (y ∷ ys) first count y_inside
        (from_below y.stamp.epoch x.stamp.epoch (x ∷ xs) (earlier before) (from_first x xs left)) (from_first y ys right)
        (λ same.
        let head = count_head y ys in
        let none = count_other y (x ∷ xs) (added_none x y xs left before) in
        absurd (omega (arith, head, none, same)))
        ∙ ap (λ (n : ℕ). Some n) (sym (higher x.stamp.epoch y.stamp.epoch (earlier before)))
    go false after =
        parts_here x (x ∷ xs) (y ∷ ys) first count x_inside
        (from_first x xs left) (from_below x.stamp.epoch y.stamp.epoch (y ∷ ys) (no_earlier x y after) (from_first y ys right))
        (λ same.
        let head = count_head x xs in
        let none = count_other x (y ∷ ys) (evicted_none x y ys right own differ after) in
        absurd (omega (arith, head, none, same)))
        ∙ ap (λ (n : ℕ). Some n) (sym (lower x.stamp.epoch y.stamp.epoch (no_earlier x y after)))

-- one element more in front of both
even_both : (x : Element) (xs ys : List Element) (epoch : ℕ) → is_even (x ∷ xs) (x ∷ ys) epoch ≡ is_even xs ys epoch
even_both x xs ys epoch = go (cases_eq x.stamp.epoch epoch)
  where
    X : List Element
    X = of_epoch epoch xs

    Y : List Element
    Y = of_epoch epoch ys

    go : (x.stamp.epoch ≡ epoch) ⊎ (x.stamp.epoch ≡ epoch → ⊥) → is_even (x ∷ xs) (x ∷ ys) epoch ≡ is_even xs ys epoch
    go (inl same) =
        ap (λ (zs : List Element). is_permutation zs (of_epoch epoch (x ∷ ys))) (of_epoch-own epoch x xs same)
        ∙ ap (λ (zs : List Element). is_permutation (x ∷ X) zs) (of_epoch-own epoch x ys same)
        ∙ ap (λ (o : Option (List Element)). permuted_behind o (λ rest. is_permutation X rest)) (ap (λ (b : Bool). if b then Some Y else option_map (λ (more : List Element). x ∷ more) (without_one x Y)) (same_element-self x))
    go (inr apart) =
        ap (λ (zs : List Element). is_permutation zs (of_epoch epoch (x ∷ ys))) (of_epoch-other epoch x xs apart)
        ∙ ap (λ (zs : List Element). is_permutation X zs) (of_epoch-other epoch x ys apart)

-- Lists in the order of their evicts part where they fail first.
pub parting_fails : (xs ys : List Element) (first count : ℕ) → IsMerged evict_moment xs → IsMerged evict_moment ys → HaveOwnStamps ys
    → AllByRecursion (λ x. is_within first count x ≡ true) xs → AllByRecursion (λ y. is_within first count y ≡ true) ys
    → first_failing (is_even xs ys) first count ≡ parting xs ys
parting_fails [] [] first count left right own x_inside y_inside = first_failing-none (is_even [] []) first count (λ epoch. refl)
parting_fails [] (y ∷ ys) first count left right own x_inside y_inside = evicted_alone y ys first count right y_inside.0
parting_fails (x ∷ xs) [] first count left right own x_inside y_inside = added_alone x xs first count left x_inside.0
parting_fails (x ∷ xs) (y ∷ ys) first count left right own x_inside y_inside =
    go (same_element x y) refl (parting_fails xs ys first count left.1 right.1 (IsDistinct-tail same_evict y ys own) x_inside.1 y_inside.1)
  where
    go : (b : Bool) → same_element x y ≡ b → first_failing (is_even xs ys) first count ≡ parting xs ys
        → first_failing (is_even (x ∷ xs) (y ∷ ys)) first count ≡ (if b then parting xs ys else Some (min x.stamp.epoch y.stamp.epoch))
    go true same further =
        ap (λ (z : Element). first_failing (is_even (x ∷ xs) (z ∷ ys)) first count) (sym (same_element-true x y same))
        ∙ first_failing-agree (is_even (x ∷ xs) (x ∷ ys)) (is_even xs ys) first count (λ epoch from below. even_both x xs ys epoch)
        ∙ further
    go false differ further = differ_here x y xs ys first count left right own x_inside.0 y_inside.0 differ

-- ---- audit events

all_inside : (first count : ℕ) (xs : List Element) → AllByRecursion (λ x. is_within first count x ≡ true) (merged evict_moment (within first count xs))
all_inside first count xs =
    every-in_order (comes_before evict_moment) (λ x. is_within first count x ≡ true) (within first count xs) (every-passes (is_within first count) xs)

-- The first uneven epoch is where the elements that were added and evicted part, in the order of their evicts.
pub uneven_parts : (audited : List AuditEvent) (first count : ℕ) → HaveOwnStamps (evicted_elements audited)
    → parting (merged evict_moment (within first count (added_elements audited))) (merged evict_moment (within first count (evicted_elements audited)))
    ≡ uneven_among audited first count
uneven_parts audited first count own =
    sym (parting_fails (merged evict_moment (within first count (added_elements audited))) (merged evict_moment (within first count (evicted_elements audited))) first count
    (merged-sorts evict_moment (within first count (added_elements audited))) (merged-sorts evict_moment (within first count (evicted_elements audited)))
    (own_stamps-ordered first count (evicted_elements audited) own)
    (all_inside first count (added_elements audited)) (all_inside first count (evicted_elements audited)))
    ∙ even_ordered first count (added_elements audited) (evicted_elements audited)
    ∙ sym (uneven_is_failing audited first count)
