-- What the code's world shows: a world of the machine.
use Rattle.std.specs.Prelude.{List, ◌∷◌, map}
use Rattle.record_text.specs.declared.request.Request.{Request}
use Rattle.host_core.specs.World.{Place, Holding}
use Rattle.host_core.specs.World as machine
use Rattle.host_core.specs.WorldEvent.{WorldEvent, takes, loses, serves, gives, advances, moves, opens, raises, enters, scans, finishes, stops}
use Rattle.host_shard.specs.Content.{Content}
use Rattle.host_shard.specs.Shown.{shown_content}
use Rattle.script_text.specs.declared.task.Task.{Task}
use Rattle.host_world.specs.declared.event.Event.{Event}
use Rattle.host_world.specs.declared.event.Event.TheVariants as events
use Rattle.host_world.specs.declared.seats.Seats.{Seats}
use Rattle.shipped_host.specs.declared.settings.Settings.{Settings}
use Rattle.host_world.specs.declared.world.World.{World}
use Rattle.host_world.specs.Places.{place_of}
use Rattle.host_world.specs.Workers.{shown_worker}

-- the event, with the place of each number
abbrev pub shown_event : Event → WorldEvent Request
shown_event (events.Take worker place) = takes worker (place_of place)
shown_event (events.Lose worker place) = loses worker (place_of place)
shown_event (events.Serve worker place request) = serves worker (place_of place) request
shown_event (events.Give worker place) = gives worker (place_of place)
shown_event (events.Next worker) = advances worker
shown_event (events.Move worker shard) = moves worker shard
shown_event events.Open = opens
shown_event (events.Raise worker) = raises worker
shown_event (events.Enter worker) = enters worker
shown_event (events.Scan worker place) = scans worker (place_of place)
shown_event (events.Finish worker) = finishes worker
shown_event (events.Stop worker found) = stops worker found

-- what the seats have: the shard first, then its hot places
abbrev pub contents_of : Seats → List Content
contents_of seats = shown_content seats.first ∷ map shown_content seats.hot.items

-- the seats, with these contents
abbrev pub shown_seats : Seats → machine.Seats Content
shown_seats seats = record { contents = contents_of seats; moved = seats.moved }

-- the world, with the shards and workers so
abbrev pub shown_world : {D : Type 0} → World D → machine.World Content
shown_world world = record {
  shards = map shown_seats world.shards.items;
  workers = map shown_worker world.workers.items;
  phase = world.phase;
  closing = world.closing;
  over = world.over;
  newest = world.newest;
  scanned = world.scanned.items;
}

-- the value whose functions are the world's digests
abbrev pub digests_of : {D : Type 0} → World D → D
digests_of world = world.d.now

-- what is asked of the world's workers
abbrev pub requests_of : {D : Type 0} → World D → List (List Task)
requests_of world = world.requests.now

-- the numbers of the world's host
abbrev pub settings_of : {D : Type 0} → World D → Settings
settings_of world = world.settings
