use Rattle.std.proofs.Common.{◌≡◌, ◌≤◌, ◌-◌, true, length, take, drop}
use Rattle.std.specs.List.{AllByRecursion}
use Rattle.stamp_order.specs.Places.{begins_sooner}
use Rattle.stamp_order.proofs.merger.place_for.Given as goal

-- the lists at the places before `from` begin later, and those from `to` on sooner
abbrev pub invariant-search : goal.invariant-search
invariant-search l = record {
  order : l.from ≤ l.to;
  within : l.to ≤ length l.places;
  later : AllByRecursion (λ q. begins_sooner l.lists l.place q ≡ true) (take l.from l.places);
  sooner : AllByRecursion (λ q. begins_sooner l.lists q l.place ≡ true) (drop l.to l.places);
}

abbrev pub decreases-search : goal.decreases-search
decreases-search l = l.to - l.from
