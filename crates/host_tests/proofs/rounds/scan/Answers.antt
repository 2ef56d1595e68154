use Rattle.std.proofs.Common.{◌++◌, ◌∷◌, [], List, map, ap, ◌∙◌, ◌*◌}
use Rattle.record_text.specs.declared.request.Request.{Request}
use Rattle.host_core.specs.World.{Place}
use Rattle.host_core.specs.WorldEvent.{WorldEvent, takes, scans, gives}
use Rattle.host_world.specs.Shown.{shown_event}
use Rattle.host_world.specs.Places.{place_of}
use Rattle.host_tests.proofs.RoundLemmas.{place_of_shard, three_behind}
use Rattle.host_tests.proofs.rounds.scan.Goals as goal

pub returns : goal.returns
returns g c = record {
  scanned =
      c.push_event-3.ensures.pushed
      ∙ ap (λ (events : List (WorldEvent Request)). events ++ (gives c.args.worker (place_of (c.args.shard * 5)) ∷ []))
      (c.push_event-2.ensures.pushed
      ∙ ap (λ (events : List (WorldEvent Request)). events ++ (scans c.args.worker (place_of (c.args.shard * 5)) ∷ []))
      c.push_event.ensures.pushed)
      ∙ three_behind (map shown_event c.args.events.now.items) (takes c.args.worker (place_of (c.args.shard * 5)))
      (scans c.args.worker (place_of (c.args.shard * 5))) (gives c.args.worker (place_of (c.args.shard * 5)))
      ∙ ap (λ (place : Place). map shown_event c.args.events.now.items
      ++ (takes c.args.worker place ∷ scans c.args.worker place ∷ gives c.args.worker place ∷ []))
      (place_of_shard c.args.shard);
}
