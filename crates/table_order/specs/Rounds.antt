-- When a table with epochs is that of a round of the shipped host, and what it tells, as the machine over places and workers sees it.
use Rattle.std.specs.Prelude.{◌≡◌, ℕ, zero, suc, ◌+◌, ◌*◌, ◌<◌, ◌≤◌, ◌==◌, Bool, true, false, List, [], ◌∷◌, ◌++◌, length, map, slice_get, is_some, Option, Some, None, if◌then◌else◌}
use Rattle.std.specs.Option.{ForSome}
use Rattle.lamport_clocks.specs.Reading.{Reading}
use Rattle.record_hash.specs.Functions.{DigestFunctions}
use Rattle.record_text.specs.declared.element.Element.{Element}
use Rattle.record_text.specs.declared.request.Request.{Request}
use Rattle.merkle_records.specs.Merkle.{GivesDigests}
use Rattle.script_text.specs.declared.task.Task.{Task}
use Rattle.host_core.specs.Host.{Host, asked}
use Rattle.host_core.specs.World.{World, worker_at, epoch_of}
use Rattle.host_core.specs.WorldEvent.{WorldEvent, AreEnabled, run_events}
use Rattle.round_order.specs.Turn.{Turn, on_to, IsAsked, served_more, served_behind, clock_behind, content_at}
use Rattle.round_order.specs.Told.{IsLevel, EndsWith, RoundStop}
use Rattle.round_order.specs.Phase.{IsOfPhase}
use Rattle.host_order.specs.Told.{phase_events}
use Rattle.host_shard.specs.Content.{Content, pending}
use Rattle.host_shard.specs.Shown.{shown_content}
use Rattle.host_epochs.specs.declared.told.Entry.{Entry}
use Rattle.host_epochs.specs.declared.told.Meeting.{Meeting}
use Rattle.host_epochs.specs.declared.told.Stop.{Stop}
use Rattle.host_epochs.specs.declared.views.Row.{Row}
use Rattle.host_epochs.specs.Round.{row_at}
use Rattle.host_epochs.specs.Terms.{Terms, place_count, first_at, first_epoch, final_epoch}
use Rattle.host_table.specs.Services.{row_of}
use Rattle.shipped_host.specs.declared.settings.Settings.{Settings}
use Rattle.shipped_host.specs.ShippedHost.{shipped_host}
use Rattle.host_world.specs.Behind.{IsBehindSetup}
use Rattle.host_world.specs.Places.{places_each, place_of}
use Rattle.table_order.specs.Servings as servings

-- ---- what is told

-- the entry, at the place of its number, with the contents that it shows
abbrev pub turn_of : Entry → Turn Content Request
turn_of entry = record {
  place = place_of entry.place;
  worker = entry.worker;
  clock = entry.clock;
  before = shown_content entry.before;
  request = entry.request;
  done = record { commands = entry.plan.commands; after = shown_content entry.after; clock = entry.later };
}

abbrev pub turns_of : List Entry → List (Turn Content Request)
turns_of entries = map turn_of entries

-- what each worker did
abbrev pub lists_of : List Row → List (List (Turn Content Request))
lists_of rows = map (λ row. turns_of row.list) rows

-- what was done at so many places, from one on
abbrev pub pasts_at : ℕ → ℕ → (ℕ → List Entry) → List (List (Turn Content Request))
pasts_at place zero past = []
pasts_at place (suc count) past = turns_of (past place) ∷ pasts_at (suc place) count past

-- the same of so many shards, the first of which begins at a place
abbrev pub pasts_from : ℕ → ℕ → (ℕ → List Entry) → List (List (List (Turn Content Request)))
pasts_from place zero past = []
pasts_from place (suc shards) past = pasts_at place places_each past ∷ pasts_from (place + places_each) shards past

-- what was done at the places of so many shards
abbrev pub pasts_of : ℕ → (ℕ → List Entry) → List (List (List (Turn Content Request)))
pasts_of shards past = pasts_from 0 shards past

-- the last epoch of each worker
abbrev pub finals_of : Terms → List Row → ℕ → ℕ
finals_of terms rows worker = first_epoch terms + (row_at rows worker).entered

-- ---- stops

-- what stands in a clock's way: the element, if it is of the clock's epoch
abbrev pub in_way : Reading → Option Element → Option Element
in_way clock None = None
in_way clock (Some element) = if element.stamp.epoch == clock.at.epoch then Some element else None

-- the element with which what a worker met waits, if it stands in the way of the worker's clock
abbrev pub found_at : Reading → Option Meeting → Option Element
found_at clock None = None
found_at clock (Some met) = in_way clock (pending (shown_content met.content))

-- where a worker stopped, if it did
abbrev pub stop_of : ℕ → Option Stop → List RoundStop
stop_of worker None = []
stop_of worker (Some stop) = record { worker = worker; found = found_at stop.clock stop.met } ∷ []

-- the same of all workers, from one on
abbrev pub stops_from : ℕ → List Row → List RoundStop
stops_from worker [] = []
stops_from worker (row ∷ rows) = stop_of worker row.stop ++ stops_from (suc worker) rows

abbrev pub stops_of : List Row → List RoundStop
stops_of rows = stops_from 0 rows

-- ---- whose table it is

-- The table was made of the world: of its places in the order of their numbers, and for its workers, with the host's header and
-- digests, and is told as the host is whether a get of a key that has no record makes none. The last epoch that may be entered is
-- that of the host's phase.
pub record AreTermsOf (host : Host Content Request) (absent : Bool) (world : World Content) (terms : Terms) : Type 0 where
  pub header : terms.header ≡ host.header
  pub digest : terms.digest ≡ host.functions.digest
  pub absent_is : terms.absent ≡ absent
  pub workers : terms.workers ≡ length world.workers
  pub places : place_count terms ≡ length world.shards * places_each
  pub contents : (place : ℕ) → place < place_count terms → content_at host world (place_of place) ≡ shown_content (first_at terms place)
  pub final : final_epoch terms ≡ epoch_of host world

-- each request is the next that the script asks of the worker, and its phase has begun in the epoch of its clock
abbrev pub AreNext : Host Content Request → ℕ → ℕ → List Entry → Type 0
AreNext host worker served [] = Unit {0}
AreNext host worker served (entry ∷ entries) =
    IsAsked host worker served entry.clock.at.epoch entry.request × AreNext host worker (served_more served entry.request) entries

-- the clock of the first entry is this one, or stands at the beginning of a later epoch
abbrev pub BeginsAt : Reading → List Entry → Type 0
BeginsAt clock [] = Unit {0}
BeginsAt clock (entry ∷ entries) = (entry.clock ≡ on_to entry.clock.at.epoch clock) × (clock.at.epoch ≤ entry.clock.at.epoch)

-- What a worker did in the round: it was running, began at its clock and took up its next requests in order, and where it stopped
-- it did so at the clock behind all that.
pub record AreTurnsOf (host : Host Content Request) (world : World Content) (worker : ℕ) (row : Row) : Type 0 where
  pub running : (worker_at host world worker).stopped ≡ false
  pub begins : BeginsAt (worker_at host world worker).clock row.list
  pub next : AreNext host worker (worker_at host world worker).served row.list
  pub ends : ForSome row.stop (λ stop.
      stop.clock ≡ on_to stop.clock.at.epoch (clock_behind (worker_at host world worker).clock (turns_of row.list)))

-- The table is that of a round of the shipped host: the world stands behind the setup and is level, in the epoch of the making, the
-- table was made of it, and the workers took up their next requests. In a rolling host no epoch was entered yet. It is asked that
-- digests have 32 bytes.
pub record IsTableOfRound (functions : DigestFunctions) (settings : Settings) (script : List (List Task)) (world : World Content)
    (terms : Terms) (rows : List Row) : Type 0 where
  pub digests : GivesDigests functions.digest
  pub behind : IsBehindSetup functions settings script world
  pub level : IsLevel (shipped_host functions settings script) world (first_epoch terms)
  pub newest : settings.rolling ≡ true → (world.newest ≡ first_epoch terms) × (length world.scanned ≡ length world.workers)
  pub made : AreTermsOf (shipped_host functions settings script) settings.absent world terms
  pub turns : (worker : ℕ) → worker < length world.workers → AreTurnsOf (shipped_host functions settings script) world worker (row_at rows worker)

-- ---- how it ends

-- Each worker is through with the last epoch that may be entered, and served all that the script asks of it.
pub record AreThrough (host : Host Content Request) (world : World Content) (terms : Terms) (rows : List Row) : Type 0 where
  pub done : (worker : ℕ) → worker < length world.workers → (row_at rows worker).done ≡ terms.more
  pub served : (worker : ℕ) → worker < length world.workers
      → slice_get (asked host worker) (served_behind (worker_at host world worker).served (turns_of (row_at rows worker).list)) ≡ None

-- ---- one phase

-- each entry serves the next request that the script asks of the worker in the phase
abbrev pub AreOfPhase : Host Content Request → ℕ → ℕ → ℕ → List Entry → Type 0
AreOfPhase host phase worker served [] = Unit {0}
AreOfPhase host phase worker served (entry ∷ entries) =
    IsOfPhase host phase worker served entry.request × AreOfPhase host phase worker (served_more served entry.request) entries

-- the request for which a worker took the place at which it stopped
abbrev pub request_at : Option Meeting → Option Request
request_at None = None
request_at (Some met) = met.request

-- What a worker did is of the world's phase, and where it stopped it did so at its next request of it.
pub record IsOfOnePhase (host : Host Content Request) (world : World Content) (worker : ℕ) (row : Row) : Type 0 where
  pub next : AreOfPhase host world.phase worker (worker_at host world worker).served row.list
  pub last : ForSome row.stop (λ stop.
      IsOfPhase host world.phase worker (served_behind (worker_at host world worker).served (turns_of row.list)) (request_at stop.met))

-- The table is that of a phase of the shipped host, which is not rolling: a round with no further epoch.
pub record IsTableOfPhase (functions : DigestFunctions) (settings : Settings) (script : List (List Task)) (world : World Content)
    (terms : Terms) (rows : List Row) : Type 0 where
  pub table : IsTableOfRound functions settings script world terms rows
  pub plain : settings.rolling ≡ false
  pub of_phase : (worker : ℕ) → worker < length world.workers → IsOfOnePhase (shipped_host functions settings script) world worker (row_at rows worker)

-- what was served in the phase by the stamps of its evicts, and then the stops, each a take, a serve and a give
abbrev pub events_in : List Row → List (WorldEvent Request)
events_in rows = phase_events (servings.lists_of (map row_of rows)) (servings.stops_of (map row_of rows))

-- That is a list of enabled events, which ends where all is as it is told and stops the workers that stopped.
pub record EndsInPhase (host : Host Content Request) (world : World Content) (top : ℕ) (finals : ℕ → ℕ) (rows : List Row)
    (pasts : List (List (List (Turn Content Request)))) : Type 0 where
  pub enabled : AreEnabled host world (events_in rows)
  pub ends : EndsWith host world (run_events host world (events_in rows)) top finals (lists_of rows) pasts
  pub stopped : (i : ℕ) → i < length world.workers → (worker_at host (run_events host world (events_in rows)) i).stopped ≡ is_some (row_at rows i).stop
