use Rattle.std.proofs.Common.{◌≡◌, map, take}
use Rattle.collision_exhibit.proofs.elements.copies.Given as goal

abbrev pub invariant-loop-element : goal.invariant-loop-element
invariant-loop-element l = l.items.items ≡ map (λ e. e.now) (take l.element-index l.elements)
