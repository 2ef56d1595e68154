-- The order of moments (Lamport 1978: the clock first, and ties of the clock by the process).
use Rattle.std.specs.Prelude.{Bool, not}
use Rattle.std.specs.declared.cmp.Ordering.{Ordering}
use Rattle.std.specs.Ordering.{nat_cmp, ordering_then, is_lt}
use Rattle.lamport_clocks.specs.Stamp.{stamp_cmp}
use Rattle.stamp_order.specs.declared.moment.Moment.{Moment}

-- by epoch, then counter, then verifier, then index
abbrev pub moment_cmp : Moment → Moment → Ordering
moment_cmp m n = ordering_then (stamp_cmp m.at n.at) (ordering_then (nat_cmp m.verifier n.verifier) (nat_cmp m.index n.index))

-- whether m comes before n
abbrev pub is_before : Moment → Moment → Bool
is_before m n = is_lt (moment_cmp m n)

-- whether m comes before n or is n
abbrev pub not_after : Moment → Moment → Bool
not_after m n = not (is_before n m)
