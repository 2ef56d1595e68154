use Rattle.std.proofs.Common.{map}
use Rattle.host_world.specs.Shown.{shown_event}
use Rattle.host_tests.proofs.RoundLemmas.{AreEnabled-in_world}
use Rattle.host_tests.proofs.worlds.logs_behind.Goals as goal

pub run_events-requires-clause-enabled : goal.run_events-requires-clause-enabled
run_events-requires-clause-enabled g c =
    AreEnabled-in_world (map shown_event c.args.events.now) c.in-Ok.ensures.host c.in-Ok.ensures.set_up (c.requires.enabled _)
