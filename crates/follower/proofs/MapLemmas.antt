-- The map that is followed, as the plain map.
use Rattle.std.proofs.Common.{◌≡◌, List, [], ◌∷◌, refl}
use Rattle.record_text.specs.declared.operation.Operation.{Operation}
use Rattle.stamp_order.specs.Serial.{map_after}
use Rattle.soundness.specs.World.{Stored, stored_behind}
use Rattle.follower.specs.Followed.{map_behind}

pub followed-is_stored : (map : Stored) (operations : List Operation) → map_behind map operations ≡ stored_behind map operations
followed-is_stored map [] = refl
followed-is_stored map (operation ∷ operations) = followed-is_stored (map_after operation map) operations
