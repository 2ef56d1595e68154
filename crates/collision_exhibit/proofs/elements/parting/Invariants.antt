use Rattle.std.proofs.Common.{◌≡◌, map, drop}
use Rattle.collision_exhibit.specs.Elements.{parting}
use Rattle.collision_exhibit.proofs.elements.parting.Given as goal

-- the lists part where what is left of them parts
abbrev pub invariant-loop-i : goal.invariant-loop-i
invariant-loop-i l =
    parting (map (λ e. e.now) (drop l.i l.added)) (map (λ e. e.now) (drop l.i l.evicted))
    ≡ parting (map (λ e. e.now) l.added) (map (λ e. e.now) l.evicted)
