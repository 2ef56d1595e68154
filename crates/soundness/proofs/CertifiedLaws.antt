-- What a certified epoch and an exhibit tell of each epoch.
use Rattle.std.proofs.Common.{◌≡◌, ◌⊎◌, ℕ, zero, suc, ◌+◌, ◌<◌, ◌≤◌, ◌==◌, Bool, true, false, List, Some, None, refl, sym, ◌∙◌, ap, subst, inl, inr, if◌then◌else◌, arith}
use Rattle.std.proofs.lemmas.Bool.{eqb-true, and_parts, cases_eq}
use Rattle.std.proofs.lemmas.Option.{none-some, same_Some}
use Rattle.multiset_sum.specs.Tally.{Tally}
use Rattle.merkle_records.specs.Scheme.{Scheme}
use Rattle.record_text.specs.Same.{same_bytes}
use Rattle.record_text.proofs.SameTestLaws.{same_bytes-true}
use Rattle.soundness.specs.History.{Event}
use Rattle.soundness.specs.Certified.{added_in, evicted_in, same_sum, is_balanced, balanced_from}
use Rattle.soundness.specs.Permutation.{is_permutation}
use Rattle.soundness.specs.Exhibit.{first_uneven}
use Rattle.soundness.specs.Sound.{AreBalanced}

pub same_sum-true : (a b : Tally) → same_sum a b ≡ true → a ≡ b
same_sum-true a b same =
    let parts = and_parts (same_bytes a.lanes b.lanes) (a.count == b.count) same in
    ap (λ (l : List ℕ). record { lanes = l; count = a.count }) (same_bytes-true a.lanes b.lanes parts.0)
    ∙ ap (λ (c : ℕ). record { lanes = b.lanes; count = c }) (eqb-true a.count b.count parts.1)

-- a number from one on is that one, or from the next on
cases_le : (a b : ℕ) → a ≤ b → (a ≡ b) ⊎ (suc a ≤ b)
cases_le a b within = go (cases_eq a b)
  where
    go : (a ≡ b) ⊎ (a ≡ b → ⊥) → (a ≡ b) ⊎ (suc a ≤ b)
    go (inl same) = inl same
    go (inr apart) = inr (omega (arith, within, apart))

-- the epochs that are counted as certified are balanced
pub counted_balanced : (scheme : Scheme) (events : List Event) (first sealed : ℕ) → AreBalanced scheme events first (balanced_from scheme events first sealed)
counted_balanced scheme events first zero epoch from below = absurd (omega (arith, from, below))
counted_balanced scheme events first (suc sealed) epoch from below = go (is_balanced scheme events first) refl (counted_balanced scheme events (suc first) sealed epoch) below
  where
    go : (b : Bool) → is_balanced scheme events first ≡ b
        → (suc first ≤ epoch → epoch < suc first + balanced_from scheme events (suc first) sealed → is_balanced scheme events epoch ≡ true)
        → epoch < first + (if b then suc (balanced_from scheme events (suc first) sealed) else 0) → is_balanced scheme events epoch ≡ true
    go true is further below = by (cases_le first epoch from)
      where
        by : (first ≡ epoch) ⊎ (suc first ≤ epoch) → is_balanced scheme events epoch ≡ true
        by (inl same) = subst (λ (e : ℕ). is_balanced scheme events e ≡ true) same is
        by (inr after) = further after (omega (arith, below))
    go false is further below = absurd (omega (arith, from, below))

-- ---- even and uneven epochs

-- where no epoch is uneven, each has each element added as often as evicted
pub even_where_none : (events : List Event) (first count : ℕ) → first_uneven events first count ≡ None
    → (epoch : ℕ) → first ≤ epoch → epoch < first + count → is_permutation (added_in epoch events) (evicted_in epoch events) ≡ true
even_where_none events first zero none epoch from below = absurd (omega (arith, from, below))
even_where_none events first (suc count) none epoch from below =
    go (is_permutation (added_in first events) (evicted_in first events)) refl (λ none after within. even_where_none events (suc first) count none epoch after within) none
  where
    go : (b : Bool) → is_permutation (added_in first events) (evicted_in first events) ≡ b
        → (first_uneven events (suc first) count ≡ None → suc first ≤ epoch → epoch < suc first + count → is_permutation (added_in epoch events) (evicted_in epoch events) ≡ true)
        → (if b then first_uneven events (suc first) count else Some first) ≡ None → is_permutation (added_in epoch events) (evicted_in epoch events) ≡ true
    go true is further none = by (cases_le first epoch from)
      where
        by : (first ≡ epoch) ⊎ (suc first ≤ epoch) → is_permutation (added_in epoch events) (evicted_in epoch events) ≡ true
        by (inl same) = subst (λ (e : ℕ). is_permutation (added_in e events) (evicted_in e events) ≡ true) same is
        by (inr after) = further none after (omega (arith, below))
    go false is further none = absurd (none-some first (sym none))

-- the epoch that is shown is uneven, and one of those asked for
pub uneven_where_some : (events : List Event) (first count shown : ℕ) → first_uneven events first count ≡ Some shown
    → (first ≤ shown) × (shown < first + count) × (is_permutation (added_in shown events) (evicted_in shown events) ≡ false)
uneven_where_some events first zero shown is = absurd (none-some shown is)
uneven_where_some events first (suc count) shown is =
    go (is_permutation (added_in first events) (evicted_in first events)) refl (λ found. uneven_where_some events (suc first) count shown found) is
  where
    go : (b : Bool) → is_permutation (added_in first events) (evicted_in first events) ≡ b
        → (first_uneven events (suc first) count ≡ Some shown
        → (suc first ≤ shown) × (shown < suc first + count) × (is_permutation (added_in shown events) (evicted_in shown events) ≡ false))
        → (if b then first_uneven events (suc first) count else Some first) ≡ Some shown
        → (first ≤ shown) × (shown < first + suc count) × (is_permutation (added_in shown events) (evicted_in shown events) ≡ false)
    go true even further is =
        let later = further is in
        (omega (arith, later.0), omega (arith, later.1), later.2)
    go false uneven further is =
        let same : first ≡ shown = same_Some first shown is in
        (omega (arith, same), omega (arith, same), subst (λ (e : ℕ). is_permutation (added_in e events) (evicted_in e events) ≡ false) same uneven)
