use Rattle.std.proofs.Common.{◌≡◌, ◌++◌, map, drop}
use Rattle.collision_exhibit.specs.Shown.{added_elements}
use Rattle.collision_exhibit.specs.Elements.{within}
use Rattle.collision_exhibit.proofs.elements.came_within.Given as goal

-- what was taken, and with what is to be taken of the audit events that are left it is all
abbrev pub invariant-loop-item : goal.invariant-loop-item
invariant-loop-item l =
    map (λ e. e.now) l.elements.items ++ within l.first l.epochs (added_elements (drop l.item-index l.audited))
    ≡ within l.first l.epochs (added_elements l.audited)
