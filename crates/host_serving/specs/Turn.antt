-- The events of one turn of a phase.
use Rattle.std.specs.Prelude.{ℕ, List, [], ◌∷◌}
use Rattle.host_core.specs.World.{Place}
use Rattle.host_core.specs.WorldEvent.{WorldEvent, takes, serves, gives}

-- a worker takes a place, serves a request there, and gives the place back
abbrev pub turn_at : {R : Type 0} → ℕ → Place → R → List (WorldEvent R)
turn_at i place request = takes i place ∷ serves i place request ∷ gives i place ∷ []
