-- The merged order of what several verifiers did.
use Rattle.std.specs.Prelude.{ℕ, ◌==◌, nat_le, Bool, List, filter}
use Rattle.stamp_order.specs.declared.moment.Moment.{Moment}
use Rattle.stamp_order.specs.Moment.{is_before}
use Rattle.stamp_order.specs.InOrder.{in_order, IsInOrder}

-- whether x comes before y, where `at` says the moment of each
abbrev pub comes_before : {X : Type 0} → (X → Moment) → X → X → Bool
comes_before at x y = is_before (at x) (at y)

-- the members in the order of their moments
abbrev pub merged : {X : Type 0} → (X → Moment) → List X → List X
merged at xs = in_order (comes_before at) xs

-- the members stand in the order of their moments
abbrev pub IsMerged : {X : Type 0} → (X → Moment) → List X → Type 0
IsMerged at xs = IsInOrder (comes_before at) xs

-- the members of epochs up to this one
abbrev pub up_to : {X : Type 0} → (X → Moment) → ℕ → List X → List X
up_to at epoch xs = filter (λ x. nat_le (at x).at.epoch epoch) xs

-- the members of this epoch
abbrev pub of_epoch : {X : Type 0} → (X → Moment) → ℕ → List X → List X
of_epoch at epoch xs = filter (λ x. (at x).at.epoch == epoch) xs

-- the members that are of this verifier
abbrev pub of_verifier : {X : Type 0} → (X → Moment) → ℕ → List X → List X
of_verifier at verifier xs = filter (λ x. (at x).verifier == verifier) xs
