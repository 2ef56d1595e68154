-- The order of stamps: by epoch, then by counter.
use Rattle.std.specs.Prelude.{◌≡◌, ◌<◌, ◌⊎◌}
use Rattle.std.specs.Ordering.{nat_cmp, ordering_then}
use Rattle.std.specs.declared.cmp.Ordering.{Ordering}
use Rattle.lamport_clocks.specs.declared.stamp.Stamp.{Stamp}

-- by epoch, then by counter (Lamport 1978: stamps are totally ordered)
abbrev pub stamp_cmp : Stamp → Stamp → Ordering
stamp_cmp s t = ordering_then (nat_cmp s.epoch t.epoch) (nat_cmp s.counter t.counter)

-- t is of an epoch after that of s, or of the same epoch with a greater counter
abbrev pub IsLater : Stamp → Stamp → Type 0
IsLater t s = (s.epoch < t.epoch) ⊎ ((s.epoch ≡ t.epoch) × (s.counter < t.counter))
