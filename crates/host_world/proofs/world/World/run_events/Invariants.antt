use Rattle.std.proofs.Common.{◌≡◌, take, map}
use Rattle.host_core.specs.WorldEvent.{run_events}
use Rattle.host_world.specs.Shown.{shown_world, shown_event, digests_of}
use Rattle.host_world.specs.Behind.{host_of, StandsBehind, AreOfOneHost}
use Rattle.host_world.proofs.world.World.run_events.Given as goal

-- the events so far were run
abbrev pub invariant-loop-done : goal.invariant-loop-done
invariant-loop-done g l = record {
  host : AreOfOneHost l.initial.self l.self;
  behind : StandsBehind (g.D.Digests.functions (digests_of l.self)) l.self;
  run : shown_world l.self ≡ run_events (host_of (g.D.Digests.functions (digests_of l.initial.self)) l.initial.self) (shown_world l.initial.self) (take l.done (map shown_event l.events));
}
