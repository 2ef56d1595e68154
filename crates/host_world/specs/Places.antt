-- The numbers of places.
use Rattle.std.specs.Prelude.{ℕ, suc, ◌/◌, ◌%◌}
use Rattle.host_core.specs.World.{Place, Holding}
use Rattle.host_world.specs.declared.worker.Held.{Held}
use Rattle.shipped_host.specs.ShippedHost.{hot_places}

-- how many places a shard has: one for itself, and its hot ones
abbrev pub places_each : ℕ
places_each = suc hot_places

-- the place of a number: each shard's places in order, shard after shard
abbrev pub place_of : ℕ → Place
place_of number = record { shard = number / places_each; seat = number % places_each }

-- what a worker holds, with the place of its number
abbrev pub shown_held : Held → Holding
shown_held held = record { place = place_of held.place; used = held.used }
