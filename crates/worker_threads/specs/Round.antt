-- A round that all workers served at once: what it asks of each, what the table tells of it, and how far it went.
use Rattle.std.specs.Prelude.{◌≡◌, ℕ, zero, suc, ◌+◌, ◌-◌, ◌<◌, Bool, true, false, List, [], ◌∷◌, ◌++◌, length, map, get_or, max, replicate, Option, None, Some}
use Rattle.record_text.specs.declared.request.Request.{Request}
use Rattle.script_text.specs.declared.task.Task.{Task}
use Rattle.host_core.specs.Host.{Host}
use Rattle.host_core.specs.World.{Worker, World, worker_at}
use Rattle.host_shard.specs.declared.content.Content as code
use Rattle.host_shard.specs.Content.{Content}
use Rattle.host_shard.specs.Shown.{shown_content}
use Rattle.host_epochs.specs.declared.views.Row.{Row}
use Rattle.host_epochs.specs.Round.{IsRound, row_at}
use Rattle.host_epochs.specs.Terms.{Terms, first_epoch}
use Rattle.host_world.specs.declared.fault.ClockEnd.{ClockEnd}
use Rattle.host_world.specs.Lending.{filled}
use Rattle.host_serving.specs.Standing.{first_of_round, BeginsRound, NoneStopped}
use Rattle.table_order.specs.Rounds.{AreTermsOf}
use Rattle.round_workers.specs.declared.turn.Turn.{Turn}
use Rattle.round_workers.specs.Parts.{HasDone}
use Rattle.worker_threads.specs.Parts.{asked_of}
use Rattle.worker_threads.specs.Phase.{IsAsked, numbered, first_stopped}

-- ---- what is asked

-- what so many phases ask of a worker, from one on, each request with the number of its phase among them
abbrev pub asked_up_to : List (List Task) → ℕ → ℕ → ℕ → List (ℕ × Request)
asked_up_to script first i zero = []
asked_up_to script first i (suc count) = asked_up_to script first i count ++ numbered count (asked_of i (get_or script (first + count) []))

-- what a round asks of a worker: all phases from its first to that of the world
abbrev pub asked_in_round : {C R : Type 0} → Host C R → List (List Task) → World C → ℕ → List (ℕ × Request)
asked_in_round host script world i = asked_up_to script (first_of_round host world) i (suc (world.phase - first_of_round host world))

-- the turns of each worker are those of what it is asked
abbrev pub AreAskedSo : Host Content Request → World Content → (ℕ → List (ℕ × Request)) → List (List Turn) → Type 0
AreAskedSo host world asks turns = (i : ℕ) (d : List Turn) → i < length turns → IsAsked host world (asks i) (get_or turns i d)

-- the epoch in which a round begins: that of its first phase
abbrev pub begun_at : {C R : Type 0} → Host C R → World C → ℕ
begun_at host world = host.header.first + first_of_round host world

-- ---- how far it went

-- the newest of these workers' epochs, and of one more
abbrev pub newest_of : ℕ → List Worker → ℕ
newest_of newest [] = newest
newest_of newest (worker ∷ workers) = newest_of (max newest worker.clock.at.epoch) workers

-- the last epoch of which each worker noted that its shards are of it: the newest, or where a clock ended the one before, if one was entered
abbrev pub noted_of : Option ClockEnd → ℕ → ℕ → ℕ
noted_of None first newest = newest
noted_of (Some end) first newest = max (newest - 1) first

-- Behind a round of a rolling host the newest epoch is the newest of its workers', and each has noted the last epoch to which all came.
pub record NotesEpochs {C R : Type 0} (host : Host C R) (world later : World C) : Type 0 where
  pub plain : host.rolling ≡ false → (later.newest ≡ world.newest) × (later.scanned ≡ world.scanned)
  pub newest : host.rolling ≡ true → later.newest ≡ newest_of host.header.first later.workers
  pub scanned : host.rolling ≡ true
      → later.scanned ≡ replicate (length world.scanned) (noted_of (first_stopped 0 later.workers) host.header.first later.newest)

-- ---- the whole

-- The round begins, a table was made of the world in its epoch and told this of it, each worker has done its part of what is asked, and
-- the later world has the contents that the table gave, and what was noted.
pub record IsRoundServed (host : Host Content Request) (absent : Bool) (script : List (List Task)) (world later : World Content) (terms : Terms)
    (after : List code.Content) (rows : List Row) : Type 0 where
  pub begins : BeginsRound host world
  pub running : NoneStopped host world
  pub made : AreTermsOf host absent world terms
  pub epoch : first_epoch terms ≡ begun_at host world
  pub closed : IsRound terms after rows
  pub count : length later.workers ≡ length world.workers
  pub parts : (i : ℕ) → i < length world.workers
      → HasDone terms (asked_in_round host script world i) (row_at rows i) (worker_at host world i) (worker_at host later i)
  pub notes : NotesEpochs host world later
  pub is : later ≡ record world {
    shards = filled world.shards (map shown_content after);
    workers = later.workers;
    newest = later.newest;
    scanned = later.scanned;
  }
