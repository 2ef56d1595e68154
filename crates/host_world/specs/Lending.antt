-- What the places of shards have, lent and put back.
use Rattle.std.specs.Prelude.{List, [], ◌∷◌, length, take, drop}
use Rattle.std.specs.List.{flat_map}
use Rattle.host_core.specs.World.{Seats}

-- the contents of all places, each shard's in order, shard after shard
abbrev pub all_contents : {C : Type 0} → List (Seats C) → List C
all_contents shards = flat_map (λ seats. seats.contents) shards

-- the shards with these contents in that order, each with as many as it has
abbrev pub filled : {C : Type 0} → List (Seats C) → List C → List (Seats C)
filled [] contents = []
filled (seats ∷ shards) contents =
    record seats { contents = take (length seats.contents) contents } ∷ filled shards (drop (length seats.contents) contents)
