-- The order of moments is total, and moments that tie are one.
use Rattle.std.proofs.Common.{◌≡◌, ℕ, ◌<◌, true, false, not, refl, arith}
use Rattle.std.specs.declared.cmp.Ordering.{Ordering}
use Rattle.std.specs.declared.cmp.Ordering.TheVariants.{Less, Equal, Greater}
use Rattle.std.specs.Ordering.{nat_cmp, is_lt, is_le, ordering_then, ordering_reverse}
use Rattle.std.specs.Cmp.{IsTotalOrder, IsStrictWeakOrder}
use Rattle.std.specs.List.Sorted.{ties}
use Rattle.std.proofs.lemmas.Cmp.{on_total, then_total, nat_cmp_total}
use Rattle.std.proofs.lemmas.List.Sorted.{ranks_by}
use Rattle.std.proofs.lemmas.Bool.Decides.{nat_tests}
use Rattle.lamport_clocks.specs.Stamp.{stamp_cmp}
use Rattle.lamport_clocks.specs.declared.stamp.Stamp.{Stamp}
use Rattle.stamp_order.specs.declared.moment.Moment.{Moment}
use Rattle.stamp_order.specs.Moment.{moment_cmp, is_before, not_after}
use Rattle.stamp_order.specs.Merged.{comes_before}
use Rattle.stamp_order.proofs.OneOrderLaws.{untied}

pub stamp_cmp-total : IsTotalOrder stamp_cmp
stamp_cmp-total = then_total (on_total (λ (s : Stamp). s.epoch) nat_cmp_total) (on_total (λ (s : Stamp). s.counter) nat_cmp_total)

pub moment_cmp-total : IsTotalOrder moment_cmp
moment_cmp-total =
    then_total (on_total (λ (m : Moment). m.at) stamp_cmp-total) (then_total (on_total (λ (m : Moment). m.verifier) nat_cmp_total) (on_total (λ (m : Moment). m.index) nat_cmp_total))

pub is_before-order : IsStrictWeakOrder is_before
is_before-order = ranks_by moment_cmp-total (λ (m : Moment). m)

pub comes_before-order : {X : Type 0} (at : X → Moment) → IsStrictWeakOrder (comes_before at)
comes_before-order at = ranks_by moment_cmp-total at

-- where both are `Equal`
then_equal : (r s : Ordering) → ordering_then r s ≡ Equal → (r ≡ Equal) × (s ≡ Equal)
then_equal Less s e = absurd (cc)
then_equal Equal s e = (refl, e)
then_equal Greater s e = absurd (cc)

nat_equal : (a b : ℕ) → nat_cmp a b ≡ Equal → a ≡ b
nat_equal a b e = grind (arith, nat_tests)

-- neither is less than the other
neither_less : (r s : Ordering) → s ≡ ordering_reverse r → is_lt r ≡ false → is_lt s ≡ false → r ≡ Equal
neither_less Less s e there back = absurd (cc)
neither_less Equal s e there back = refl
neither_less Greater s e there back = absurd (cc)

moment_is : (e e' c c' v v' i i' : ℕ) → e ≡ e' → c ≡ c' → v ≡ v' → i ≡ i'
    → (let m : Moment = record { at = record { epoch = e; counter = c }; verifier = v; index = i } in m) ≡ record { at = record { epoch = e'; counter = c' }; verifier = v'; index = i' }
moment_is e e' c c' v v' i i' epoch counter verifier index = cc

pub moment_cmp-Equal : (m n : Moment) → moment_cmp m n ≡ Equal → m ≡ n
moment_cmp-Equal m n e =
    let clocks = then_equal (stamp_cmp m.at n.at) _ e in
    let rest = then_equal (nat_cmp m.verifier n.verifier) _ clocks.1 in
    let stamps = then_equal (nat_cmp m.at.epoch n.at.epoch) _ clocks.0 in
    moment_is _ _ _ _ _ _ _ _ (nat_equal m.at.epoch n.at.epoch stamps.0) (nat_equal m.at.counter n.at.counter stamps.1)
    (nat_equal m.verifier n.verifier rest.0) (nat_equal m.index n.index rest.1)

-- moments that tie are one moment
pub one_moment : (m n : Moment) → ties is_before m n ≡ true → m ≡ n
one_moment m n tie =
    let both = untied is_before is_before-order m n tie in
    moment_cmp-Equal m n (neither_less (moment_cmp m n) (moment_cmp n m) (moment_cmp-total.antisymm n m) both.0 both.1)

-- an earlier epoch comes before a later one
pub is_before-epoch : (m n : Moment) → m.at.epoch < n.at.epoch → is_before m n ≡ true
is_before-epoch m n earlier = grind (arith, nat_tests)

-- what is not after is before or the same
not_less : (r s : Ordering) → s ≡ ordering_reverse r → not (is_lt s) ≡ is_le r
not_less Less s e = rw e refl
not_less Equal s e = rw e refl
not_less Greater s e = rw e refl

pub not_after-cmp : (m n : Moment) → not_after m n ≡ is_le (moment_cmp m n)
not_after-cmp m n = not_less (moment_cmp m n) (moment_cmp n m) (moment_cmp-total.antisymm n m)
