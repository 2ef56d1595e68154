use Rattle.std.proofs.Common.{◌≡◌, map}
use Rattle.host_core.specs.World.{unmoved}
use Rattle.host_shard.specs.Shown.{shown_content}
use Rattle.shipped_host.specs.ShippedHost.{new_seats}
use Rattle.host_world.specs.Shown.{shown_seats}
use Rattle.host_world.proofs.seats.seats_for.Given as goal

-- the places of the contents so far
abbrev pub invariant-loop-content : goal.invariant-loop-content
invariant-loop-content l = map shown_seats l.shards.items ≡ map unmoved (map new_seats (map shown_content l.yielded))
