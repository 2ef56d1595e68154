-- When a table is that of a phase of the shipped host.
use Rattle.std.specs.Prelude.{◌≡◌, ℕ, suc, ◌+◌, ◌*◌, ◌<◌, Bool, false, List, [], ◌∷◌, length, slice_get, Option, Some, None}
use Rattle.std.specs.Option.{ForSome}
use Rattle.lamport_clocks.specs.Reading.{Reading}
use Rattle.record_hash.specs.Functions.{DigestFunctions}
use Rattle.record_text.specs.declared.request.Request.{Request}
use Rattle.merkle_records.specs.Merkle.{GivesDigests}
use Rattle.script_text.specs.declared.task.Task.{Task}
use Rattle.host_core.specs.Host.{Host, asked}
use Rattle.host_core.specs.World.{World, worker_at}
use Rattle.host_order.specs.Serving.{content_at}
use Rattle.host_order.specs.Told.{IsAtRest}
use Rattle.host_shard.specs.Content.{Content}
use Rattle.host_shard.specs.Shown.{shown_content}
use Rattle.host_table.specs.declared.told.Service.{Service}
use Rattle.host_table.specs.declared.told.Stop.{Stop}
use Rattle.host_table.specs.declared.views.Row.{Row}
use Rattle.host_table.specs.Phase.{row_at}
use Rattle.host_table.specs.Terms.{Terms, place_count, first_at}
use Rattle.shipped_host.specs.declared.settings.Settings.{Settings}
use Rattle.host_world.specs.Behind.{IsBehindSetup}
use Rattle.host_world.specs.Places.{places_each, place_of}
use Rattle.shipped_host.specs.ShippedHost.{shipped_host}

-- The table was made of the world: of its places in the order of their numbers, and for its workers, with the host's header
-- and digests, and is told as the host is whether a get of a key that has no record makes none.
pub record AreTermsOf (host : Host Content Request) (absent : Bool) (world : World Content) (terms : Terms) : Type 0 where
  pub header : terms.header ≡ host.header
  pub digest : terms.digest ≡ host.functions.digest
  pub absent_is : terms.absent ≡ absent
  pub workers : terms.workers ≡ length world.workers
  pub places : place_count terms ≡ length world.shards * places_each
  pub contents : (place : ℕ) → place < place_count terms → content_at host world (place_of place) ≡ shown_content (first_at terms place)

-- the clock of a worker's first service, or where it has none that of its stop
abbrev pub first_clock : List Service → Option Stop → Option Reading
first_clock (service ∷ services) stop = Some service.clock
first_clock [] (Some stop) = Some stop.clock
first_clock [] None = None

-- each service is of the next request that the script asks of the worker in the phase
abbrev pub AreNext : Host Content Request → ℕ → ℕ → ℕ → List Service → Type 0
AreNext host phase worker served [] = Unit {0}
AreNext host phase worker served (service ∷ services) =
    (slice_get (asked host worker) served ≡ Some (phase, service.request)) × AreNext host phase worker (suc served) services

-- What a worker did in the phase: it was running, began at its clock and took up its next requests in order, and where its
-- clock ended that was at the request behind them.
pub record AreTurnsOf (host : Host Content Request) (world : World Content) (worker : ℕ) (row : Row) : Type 0 where
  pub running : (worker_at host world worker).stopped ≡ false
  pub begins : ForSome (first_clock row.list row.stop) (λ clock. clock ≡ (worker_at host world worker).clock)
  pub next : AreNext host world.phase worker (worker_at host world worker).served row.list
  pub last : ForSome row.stop (λ stop.
      slice_get (asked host worker) ((worker_at host world worker).served + length row.list) ≡ Some (world.phase, stop.request))

-- The table is that of a phase of the shipped host: the world stands behind the setup and is at rest, the table was made of
-- it, and the workers took up their next requests. It is asked that digests have 32 bytes.
pub record IsTableOf (functions : DigestFunctions) (settings : Settings) (script : List (List Task)) (world : World Content)
    (terms : Terms) (rows : List Row) : Type 0 where
  pub digests : GivesDigests functions.digest
  pub behind : IsBehindSetup functions settings script world
  pub rest : IsAtRest (shipped_host functions settings script) world
  pub made : AreTermsOf (shipped_host functions settings script) settings.absent world terms
  pub turns : (worker : ℕ) → worker < length world.workers → AreTurnsOf (shipped_host functions settings script) world worker (row_at rows worker)
