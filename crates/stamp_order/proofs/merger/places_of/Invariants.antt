use Rattle.std.proofs.Common.{◌≡◌, ◌≤◌, drop}
use Rattle.std.specs.List.{AllByRecursion}
use Rattle.stamp_order.specs.InOrder.{in_order}
use Rattle.stamp_order.specs.Places.{all_at, all_from, is_sooner, StandByStart}
use Rattle.stamp_order.proofs.merger.places_of.Given as goal

-- the places from this one on of lists that have operations
abbrev pub invariant-loop-place : goal.invariant-loop-place
invariant-loop-place l = record {
  from : AllByRecursion (λ q. l.place ≤ q) l.places.items;
  standing : StandByStart l.lists l.places.items;
  all : in_order is_sooner (all_at l.lists l.places.items) ≡ in_order is_sooner (all_from l.place (drop l.place l.lists));
}
