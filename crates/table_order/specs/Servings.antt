-- What a table tells of a phase, as the machine over places and workers sees it.
use Rattle.std.specs.Prelude.{ℕ, zero, suc, ◌+◌, List, [], ◌∷◌, ◌++◌, map, Option, Some, None}
use Rattle.record_text.specs.declared.request.Request.{Request}
use Rattle.host_shard.specs.Content.{Content}
use Rattle.host_shard.specs.Shown.{shown_content}
use Rattle.host_order.specs.Serving.{Serving}
use Rattle.host_order.specs.Told as order
use Rattle.host_table.specs.declared.told.Service.{Service}
use Rattle.host_table.specs.declared.told.Stop.{Stop}
use Rattle.host_table.specs.declared.views.Row.{Row}
use Rattle.host_world.specs.Places.{places_each, place_of}

-- the service, at the place of its number, with the contents that it shows
abbrev pub serving_of : Service → Serving Content Request
serving_of service = record {
  place = place_of service.place;
  worker = service.worker;
  clock = service.clock;
  before = shown_content service.before;
  request = service.request;
  done = record { commands = service.plan.commands; after = shown_content service.after; clock = service.later };
}

abbrev pub servings_of : List Service → List (Serving Content Request)
servings_of services = map serving_of services

-- ---- by workers

-- what each worker served
abbrev pub lists_of : List Row → List (List (Serving Content Request))
lists_of rows = map (λ row. servings_of row.list) rows

-- where a worker's clock ended, if it did
abbrev pub stop_of : ℕ → Option Stop → List (order.Stop Request)
stop_of worker None = []
stop_of worker (Some stop) = record { place = place_of stop.place; worker = worker; request = stop.request } ∷ []

-- the same of all workers, from one on
abbrev pub stops_from : ℕ → List Row → List (order.Stop Request)
stops_from worker [] = []
stops_from worker (row ∷ rows) = stop_of worker row.stop ++ stops_from (suc worker) rows

abbrev pub stops_of : List Row → List (order.Stop Request)
stops_of rows = stops_from 0 rows

-- ---- by places

-- what was served at so many places, from one on
abbrev pub pasts_at : ℕ → ℕ → (ℕ → List Service) → List (List (Serving Content Request))
pasts_at place zero past = []
pasts_at place (suc count) past = servings_of (past place) ∷ pasts_at (suc place) count past

-- the same of so many shards, the first of which begins at a place
abbrev pub pasts_from : ℕ → ℕ → (ℕ → List Service) → List (List (List (Serving Content Request)))
pasts_from place zero past = []
pasts_from place (suc shards) past = pasts_at place places_each past ∷ pasts_from (place + places_each) shards past

-- what was served at the places of so many shards
abbrev pub pasts_of : ℕ → (ℕ → List Service) → List (List (List (Serving Content Request)))
pasts_of shards past = pasts_from 0 shards past
