-- The order of stamps, as a comparison and as a relation.
use Rattle.std.proofs.Common.{◌≡◌, ℕ, ◌<◌, ◌⊎◌, ◌↔◌, arith}
use Rattle.std.specs.Ordering.{nat_cmp, ordering_then}
use Rattle.std.specs.declared.cmp.Ordering.TheVariants.{Less}
use Rattle.std.proofs.lemmas.Bool.Decides.{nat_tests}
use Rattle.lamport_clocks.specs.declared.stamp.Stamp.{Stamp}
use Rattle.lamport_clocks.specs.Stamp.{IsLater, stamp_cmp}

-- of two numbers, then two more: the first pair is in order, or it is one number twice and the second pair is in order
pub in_order : (a b c d : ℕ) → ordering_then (nat_cmp a b) (nat_cmp c d) ≡ Less → (a < b) ⊎ ((a ≡ b) × (c < d))
in_order a b c d h = grind (arith, nat_tests)

pub IsLater-cmp : (s t : Stamp) → IsLater t s ↔ (stamp_cmp s t ≡ Less)
IsLater-cmp s t = (grind (arith, nat_tests), λ h. in_order s.epoch t.epoch s.counter t.counter h)
