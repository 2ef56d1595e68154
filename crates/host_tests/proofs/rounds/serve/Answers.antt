use Rattle.std.proofs.Common.{◌++◌, ◌∷◌, [], List, map, ap, ◌∙◌, ◌*◌}
use Rattle.record_text.specs.declared.request.Request.{Request}
use Rattle.host_core.specs.World.{Place}
use Rattle.host_core.specs.WorldEvent.{WorldEvent, takes, serves, gives}
use Rattle.host_world.specs.Shown.{shown_event}
use Rattle.host_world.specs.Places.{place_of}
use Rattle.host_tests.proofs.RoundLemmas.{place_of_shard, three_behind}
use Rattle.host_tests.proofs.rounds.serve.Goals as goal

pub returns : goal.returns
returns g c = record {
  served =
      c.push_event-3.ensures.pushed
      ∙ ap (λ (events : List (WorldEvent Request)). events ++ (gives c.args.worker (place_of (c.args.shard * 5)) ∷ []))
      (c.push_event-2.ensures.pushed
      ∙ ap (λ (events : List (WorldEvent Request)). events ++ (serves c.args.worker (place_of (c.args.shard * 5)) c.args.request ∷ []))
      c.push_event.ensures.pushed)
      ∙ three_behind (map shown_event c.args.events.now.items) (takes c.args.worker (place_of (c.args.shard * 5)))
      (serves c.args.worker (place_of (c.args.shard * 5)) c.args.request) (gives c.args.worker (place_of (c.args.shard * 5)))
      ∙ ap (λ (place : Place). map shown_event c.args.events.now.items
      ++ (takes c.args.worker place ∷ serves c.args.worker place c.args.request ∷ gives c.args.worker place ∷ []))
      (place_of_shard c.args.shard);
}
