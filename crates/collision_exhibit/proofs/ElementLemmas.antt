-- Lists are permutations where they have each element as often, so elements may be compared in the order of their
-- evicts, epoch by epoch.
use Rattle.std.proofs.Common.{◌≡◌, ℕ, zero, suc, ◌+◌, ◌<◌, ◌≤◌, ◌==◌, ◌&&◌, nat_le, nat_lt, Bool, true, false, List, [], ◌∷◌, Option, Some, None, refl, sym, ◌∙◌, ap, ◌⊎◌, inl, inr, filter, sum_by, IsPermutation, if◌then◌else◌, arith}
use Rattle.std.specs.List.{AllByRecursion}
use Rattle.std.proofs.lemmas.Bool.{true≢false, cond-true, cond-false, eq-eqb, ne_eqb, eqb-true, cases_eq}
use Rattle.std.proofs.lemmas.Bool.Decides.{nat_tests}
use Rattle.std.proofs.lemmas.List.Sorted.{sum_by-IsPermutation}
use Rattle.std.proofs.lemmas.List.Sums.{sum_by-cons}
use Rattle.record_text.specs.declared.element.Element.{Element}
use Rattle.stamp_order.specs.Merged.{merged}
use Rattle.stamp_order.proofs.MergedLaws.{merged-permutation, merged-filter}
use Rattle.soundness.specs.Certified.{of_epoch}
use Rattle.soundness.specs.Permutation.{same_element, count_of, without_one, permuted_behind, is_permutation}
use Rattle.soundness.proofs.PermutationLaws.{same_element-self, one_more, count_without, count_permuted, without_there}
use Rattle.collision_exhibit.specs.declared.audit_event.AuditEvent.{AuditEvent}
use Rattle.collision_exhibit.specs.Shown.{added_elements, evicted_elements, uneven_among}
use Rattle.collision_exhibit.specs.Elements.{evict_moment, is_within, within}

-- ---- permutations by counts

-- lists that have each element as often are permutations
pub permuted_counts : (xs ys : List Element) → ((z : Element) → count_of z xs ≡ count_of z ys) → is_permutation xs ys ≡ true
permuted_counts [] [] same = refl
permuted_counts [] (y ∷ ys) same =
    let one : count_of y (y ∷ ys) ≡ suc (count_of y ys) = ap (λ (b : Bool). one_more b (count_of y ys)) (same_element-self y) in
    absurd (omega (arith, same y, one))
permuted_counts (x ∷ xs) ys same = go (without_there x ys (count_of x xs) (sym (same x) ∙ own)) (λ rest. permuted_counts xs rest)
  where
    own : count_of x (x ∷ xs) ≡ suc (count_of x xs)
    own = ap (λ (b : Bool). one_more b (count_of x xs)) (same_element-self x)

    less : (b : Bool) (m n : ℕ) → one_more b m ≡ one_more b n → m ≡ n
    less true m n e = omega (arith, e)
    less false m n e = e

    go : (rest : List Element) × (without_one x ys ≡ Some rest)
        → ((rest : List Element) → ((z : Element) → count_of z xs ≡ count_of z rest) → is_permutation xs rest ≡ true)
        → is_permutation (x ∷ xs) ys ≡ true
    go (rest, out) further =
        ap (λ (o : Option (List Element)). permuted_behind o (λ rest. is_permutation xs rest)) out
        ∙ further rest (λ z. less (same_element z x) (count_of z xs) (count_of z rest) (same z ∙ count_without z x ys rest out))

-- only counts tell whether two lists are permutations
pub permutation_by_counts : (xs ys us vs : List Element) → ((z : Element) → count_of z us ≡ count_of z xs)
    → ((z : Element) → count_of z vs ≡ count_of z ys) → is_permutation xs ys ≡ is_permutation us vs
permutation_by_counts xs ys us vs left right = go (is_permutation xs ys) (is_permutation us vs) refl refl
  where
    go : (a b : Bool) → is_permutation xs ys ≡ a → is_permutation us vs ≡ b → a ≡ b
    go true true is other = refl
    go false false is other = refl
    go true false is other =
        absurd (true≢false (sym (permuted_counts us vs (λ z. left z ∙ count_permuted xs ys is z ∙ sym (right z))) ∙ other))
    go false true is other =
        absurd (true≢false (sym (permuted_counts xs ys (λ z. sym (left z) ∙ count_permuted us vs other z ∙ right z)) ∙ is))

-- what stands in the one list and not in the other
pub no_permutation : (z : Element) (xs ys : List Element) → (count_of z xs ≡ count_of z ys → ⊥) → is_permutation xs ys ≡ false
no_permutation z xs ys differ = go (is_permutation xs ys) refl
  where
    go : (b : Bool) → is_permutation xs ys ≡ b → is_permutation xs ys ≡ false
    go false is = is
    go true is = absurd (differ (count_permuted xs ys is z))

-- what none of a list is, is not counted there
pub count_none : (z : Element) (xs : List Element) → AllByRecursion (λ x. same_element z x ≡ false) xs → count_of z xs ≡ 0
count_none z [] none = refl
count_none z (x ∷ xs) none = ap (λ (b : Bool). one_more b (count_of z xs)) none.0 ∙ count_none z xs none.1

-- the count is a sum, so members may change places
count_sum : (z : Element) (xs : List Element) → count_of z xs ≡ sum_by (λ x. one_more (same_element z x) 0) xs
count_sum z [] = refl
count_sum z (x ∷ xs) =
    go (same_element z x) (count_sum z xs) ∙ sym (sum_by-cons (λ x. one_more (same_element z x) 0) x xs)
  where
    go : (b : Bool) → count_of z xs ≡ sum_by (λ x. one_more (same_element z x) 0) xs
        → one_more b (count_of z xs) ≡ one_more b 0 + sum_by (λ x. one_more (same_element z x) 0) xs
    go true further = omega (arith, further)
    go false further = omega (arith, further)

count_moved : (z : Element) (xs ys : List Element) → IsPermutation xs ys → count_of z ys ≡ count_of z xs
count_moved z xs ys moved = count_sum z ys ∙ sum_by-IsPermutation (λ x. one_more (same_element z x) 0) xs ys moved ∙ sym (count_sum z xs)

-- ---- the first epoch that fails a test

-- of so many epochs from this one on, the first at which the test fails
abbrev pub first_failing : (ℕ → Bool) → ℕ → ℕ → Option ℕ
first_failing test epoch zero = None
first_failing test epoch (suc count) = if test epoch then first_failing test (suc epoch) count else Some epoch

-- tests that agree at these epochs fail first at the same
pub first_failing-agree : (test other : ℕ → Bool) (first count : ℕ)
    → ((epoch : ℕ) → first ≤ epoch → epoch < first + count → test epoch ≡ other epoch)
    → first_failing test first count ≡ first_failing other first count
first_failing-agree test other first zero same = refl
first_failing-agree test other first (suc count) same =
    ap (λ (b : Bool). if b then first_failing test (suc first) count else Some first) (same first (omega arith) (omega arith))
    ∙ ap (λ (o : Option ℕ). if other first then o else Some first)
    (first_failing-agree test other (suc first) count (λ epoch from below. same epoch (omega arith) (omega arith)))

-- none where it never fails
pub first_failing-none : (test : ℕ → Bool) (first count : ℕ) → ((epoch : ℕ) → test epoch ≡ true) → first_failing test first count ≡ None
first_failing-none test first zero passes = refl
first_failing-none test first (suc count) passes =
    ap (λ (b : Bool). if b then first_failing test (suc first) count else Some first) (passes first)
    ∙ first_failing-none test (suc first) count passes

-- where it fails, and not before
pub first_failing-found : (test : ℕ → Bool) (first count at : ℕ) → first ≤ at → at < first + count
    → ((epoch : ℕ) → epoch < at → test epoch ≡ true) → test at ≡ false → first_failing test first count ≡ Some at
first_failing-found test first zero at from below passes fails = absurd (omega arith)
first_failing-found test first (suc count) at from below passes fails =
    go (cases_eq first at) (λ later within. first_failing-found test (suc first) count at later within passes fails)
  where
    go : (first ≡ at) ⊎ (first ≡ at → ⊥) → (suc first ≤ at → at < suc first + count → first_failing test (suc first) count ≡ Some at)
        → first_failing test first (suc count) ≡ Some at
    go (inl same) further =
        ap (λ (b : Bool). if b then first_failing test (suc first) count else Some first) (ap test same ∙ fails)
        ∙ ap (λ (n : ℕ). Some n) same
    go (inr apart) further =
        ap (λ (b : Bool). if b then first_failing test (suc first) count else Some first) (passes first (omega arith))
        ∙ further (omega arith) (omega arith)

-- the one list's elements of an epoch are a permutation of the other's
abbrev pub is_even : List Element → List Element → ℕ → Bool
is_even xs ys epoch = is_permutation (of_epoch epoch xs) (of_epoch epoch ys)

pub uneven_is_failing : (audited : List AuditEvent) (first count : ℕ)
    → uneven_among audited first count ≡ first_failing (is_even (added_elements audited) (evicted_elements audited)) first count
uneven_is_failing audited first zero = refl
uneven_is_failing audited first (suc count) =
    ap (λ (o : Option ℕ). if is_even (added_elements audited) (evicted_elements audited) first then o else Some first) (uneven_is_failing audited (suc first) count)

-- ---- lists

module _ {X : Type 0} where
  -- a filter of what a weaker filter kept
  filter_again : (p q : X → Bool) → ((x : X) → p x ≡ true → q x ≡ true) → (xs : List X) → filter p (filter q xs) ≡ filter p xs
  filter_again p q weaker [] = refl
  filter_again p q weaker (x ∷ xs) = go (q x) (p x) refl refl (filter_again p q weaker xs)
    where
      go : (a b : Bool) → q x ≡ a → p x ≡ b → filter p (filter q xs) ≡ filter p xs → filter p (filter q (x ∷ xs)) ≡ filter p (x ∷ xs)
      go true b keeps is further =
          ap (filter p) (cond-true (q x) _ _ keeps) ∙ ap (λ (zs : List X). if p x then x ∷ zs else zs) further
      go false true drops is further = absurd (true≢false (sym (weaker x is) ∙ drops))
      go false false drops is further =
          ap (filter p) (cond-false (q x) _ _ drops) ∙ further ∙ sym (cond-false (p x) _ _ is)

-- ---- elements of an epoch

pub of_epoch-own : (epoch : ℕ) (x : Element) (xs : List Element) → x.stamp.epoch ≡ epoch → of_epoch epoch (x ∷ xs) ≡ x ∷ of_epoch epoch xs
of_epoch-own epoch x xs is = cond-true (x.stamp.epoch == epoch) _ _ (eq-eqb x.stamp.epoch epoch is)

pub of_epoch-other : (epoch : ℕ) (x : Element) (xs : List Element) → (x.stamp.epoch ≡ epoch → ⊥) → of_epoch epoch (x ∷ xs) ≡ of_epoch epoch xs
of_epoch-other epoch x xs apart = cond-false (x.stamp.epoch == epoch) _ _ (ne_eqb x.stamp.epoch epoch apart)

-- elements of later epochs are none of this one
pub of_epoch-later : (epoch : ℕ) (xs : List Element) → AllByRecursion (λ x. epoch < x.stamp.epoch) xs → of_epoch epoch xs ≡ []
of_epoch-later epoch [] later = refl
of_epoch-later epoch (x ∷ xs) later =
    of_epoch-other epoch x xs (λ same. absurd (omega (arith, later.0))) ∙ of_epoch-later epoch xs later.1

-- in the order of their evicts, and of the epochs that are looked at, the elements of an epoch are as many
count_ordered : (first count epoch : ℕ) (xs : List Element) → first ≤ epoch → epoch < first + count → (z : Element)
    → count_of z (of_epoch epoch (merged evict_moment (within first count xs))) ≡ count_of z (of_epoch epoch xs)
count_ordered first count epoch xs from below z =
    ap (count_of z) (merged-filter evict_moment (λ x. x.stamp.epoch == epoch) (within first count xs))
    ∙ ap (λ (zs : List Element). count_of z (merged evict_moment zs))
    (filter_again (λ x. x.stamp.epoch == epoch) (is_within first count) (λ x is. inside x.stamp.epoch (eqb-true x.stamp.epoch epoch is)) xs)
    ∙ count_moved z (of_epoch epoch xs) (merged evict_moment (of_epoch epoch xs)) (merged-permutation evict_moment (of_epoch epoch xs))
  where
    inside : (e : ℕ) → e ≡ epoch → (nat_le first e && nat_lt e (first + count)) ≡ true
    inside e is = grind (arith, nat_tests)

pub even_ordered : (first count : ℕ) (xs ys : List Element)
    → first_failing (is_even (merged evict_moment (within first count xs)) (merged evict_moment (within first count ys))) first count
    ≡ first_failing (is_even xs ys) first count
even_ordered first count xs ys =
    sym (first_failing-agree (is_even xs ys) (is_even (merged evict_moment (within first count xs)) (merged evict_moment (within first count ys))) first count
    (λ epoch from below. permutation_by_counts (of_epoch epoch xs) (of_epoch epoch ys) _ _
    (count_ordered first count epoch xs from below) (count_ordered first count epoch ys from below)))
