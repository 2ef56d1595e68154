-- A phase that all workers served at once: where its requests were served, what the table tells of it, and where clocks ended.
use Rattle.std.specs.Prelude.{◌≡◌, ℕ, suc, ◌<◌, Bool, true, All, List, [], ◌∷◌, length, map, Option, Some, None, if◌then◌else◌}
use Rattle.record_text.specs.declared.request.Request.{Request}
use Rattle.script_text.specs.declared.task.Task.{Task}
use Rattle.host_core.specs.Host.{Host}
use Rattle.host_core.specs.World.{Worker, World, worker_at, shard_at}
use Rattle.host_core.specs.WorldEvent.{IsPlace}
use Rattle.host_shard.specs.declared.content.Content as code
use Rattle.host_shard.specs.Content.{Content}
use Rattle.host_shard.specs.Shown.{shown_content}
use Rattle.host_table.specs.declared.views.Row.{Row}
use Rattle.host_table.specs.Phase.{IsPhase, row_at}
use Rattle.host_table.specs.Terms.{Terms}
use Rattle.host_world.specs.declared.fault.ClockEnd.{ClockEnd}
use Rattle.host_world.specs.Lending.{filled}
use Rattle.host_world.specs.Places.{place_of}
use Rattle.host_serving.specs.Standing.{IsServedUpTo, NoneStopped}
use Rattle.table_order.specs.Phases.{AreTermsOf}
use Rattle.round_workers.specs.declared.turn.Turn.{Turn}
use Rattle.round_workers.specs.Parts.{asked_in}
use Rattle.worker_threads.specs.Parts.{asked_of, HasDone}

-- ---- places

-- the place of this number is there, and owns the request
pub record IsPlaceFor (host : Host Content Request) (world : World Content) (request : Request) (place : ℕ) : Type 0 where
  pub there : IsPlace world (place_of place)
  pub owns : host.owns (place_of place).shard (shard_at world (place_of place).shard).contents (place_of place).seat request ≡ true

-- What a worker's turns ask, each with its phase, is what it is asked, and each turn's place owns its request.
pub record IsAsked (host : Host Content Request) (world : World Content) (asked : List (ℕ × Request)) (turns : List Turn) : Type 0 where
  pub requests : asked_in turns ≡ asked
  pub places : All (λ turn. IsPlaceFor host world turn.task.request turn.place) turns

-- requests, each with the number of its phase
abbrev pub numbered : ℕ → List Request → List (ℕ × Request)
numbered phase requests = map (λ request. (phase, request)) requests

-- ---- ends

-- where the clock of the first stopped worker ended, of workers whose numbers begin at one
abbrev pub first_stopped : ℕ → List Worker → Option ClockEnd
first_stopped i [] = None
first_stopped i (worker ∷ workers) =
    if worker.stopped then Some (record { worker = i; at = worker.clock.at }) else first_stopped (suc i) workers

-- ---- the whole

-- The phase begins, a table was made of the world and told this of it, each worker has done its part of the tasks, and the
-- later world has the contents that the table gave.
pub record IsServedAtOnce (host : Host Content Request) (absent : Bool) (tasks : List Task) (world later : World Content) (terms : Terms)
    (after : List code.Content) (rows : List Row) : Type 0 where
  pub begins : IsServedUpTo host world world.phase 0
  pub running : NoneStopped host world
  pub made : AreTermsOf host absent world terms
  pub closed : IsPhase terms after rows
  pub count : length later.workers ≡ length world.workers
  pub parts : (i : ℕ) → i < length world.workers
      → HasDone (asked_of i tasks) (row_at rows i) (worker_at host world i) (worker_at host later i)
  pub is : later ≡ record world { shards = filled world.shards (map shown_content after); workers = later.workers }
