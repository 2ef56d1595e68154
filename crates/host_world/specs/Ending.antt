-- Where a clock ends.
use Rattle.std.specs.Prelude.{ℕ, ◌==◌, is_none, get_or, Option, Some, None, if◌then◌else◌}
use Rattle.lamport_clocks.specs.Clock.{last_epoch}
use Rattle.host_core.specs.Host.{Host}
use Rattle.host_core.specs.World.{World, worker_at, shard_at}
use Rattle.host_core.specs.WorldEvent.{WorldEvent, takes, loses, serves, gives, advances, moves, opens, raises, enters, scans, finishes, stops}
use Rattle.host_world.specs.declared.fault.ClockEnd.{ClockEnd}

-- the end of a worker's clock, where it stands
abbrev pub end_at : {C R : Type 0} → Host C R → World C → ℕ → ClockEnd
end_at host world i = record { worker = i; at = (worker_at host world i).clock.at }

-- The end that an event comes to, if it does: of the worker's clock, where what it is to do takes a counter past the end;
-- and of worker 0's, where there is no epoch to come. A worker that stops by itself ends so.
abbrev pub end_of : {C R : Type 0} → Host C R → World C → WorldEvent R → Option ClockEnd
end_of host world (takes i place) = None
end_of host world (loses i place) = None
end_of host world (serves i place request) =
    if is_none (host.serve i (worker_at host world i).clock (get_or (shard_at world place.shard).contents place.seat host.vacant) request)
    then Some (end_at host world i) else None
end_of host world (gives i place) = None
end_of host world (advances i) =
    if (worker_at host world i).clock.at.epoch == last_epoch then Some (end_at host world 0) else None
end_of host world (moves i s) =
    if is_none (host.move i (worker_at host world i).clock s (shard_at world s).contents) then Some (end_at host world i) else None
end_of host world opens = None
end_of host world (raises i) = None
end_of host world (enters i) = None
end_of host world (scans i place) =
    if is_none (host.move i (worker_at host world i).clock place.shard (shard_at world place.shard).contents) then Some (end_at host world i) else None
end_of host world (finishes i) = None
end_of host world (stops i found) = Some (end_at host world i)
