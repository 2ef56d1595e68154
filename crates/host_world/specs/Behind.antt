-- A world behind the setup, and what a worker can move there.
use Rattle.std.specs.Prelude.{◌≡◌, ℕ, ◌^◌, ◌<◌, ◌≤◌, List, [], ◌∷◌, ◌++◌, length, get_or, IsTrue}
use Rattle.std.specs.List.{AllByRecursion}
use Rattle.tree_keys.specs.Path.{key_bits}
use Rattle.lamport_clocks.specs.Clock.{is_open}
use Rattle.lamport_clocks.specs.Reading.{Reading}
use Rattle.lamport_clocks.specs.declared.header.Header.{Header}
use Rattle.record_hash.specs.Functions.{DigestFunctions}
use Rattle.record_text.specs.declared.request.Request.{Request}
use Rattle.record_text.specs.Longest.{longest_blob, longest_of}
use Rattle.record_text.specs.Value.{IsBlob}
use Rattle.record_text.specs.Tree.{wide_of}
use Rattle.log_codec.specs.declared.command.Command.{Command}
use Rattle.merkle_records.specs.Merkle.{Digest}
use Rattle.host_core.specs.Host.{Host}
use Rattle.host_core.specs.World as machine
use Rattle.host_core.specs.WorldEvent.{WorldEvent, AreEnabled, run_events}
use Rattle.host_shard.specs.Content.{Content}
use Rattle.script_text.specs.declared.task.Task.{Task}
use Rattle.shipped_host.specs.declared.settings.Settings.{Settings}
use Rattle.host_world.specs.declared.world.World.{World}
use Rattle.shipped_host.specs.Ranges.{AreInRange, HaveShortValues}
use Rattle.shipped_host.specs.Settings.{IsSettings}
use Rattle.shipped_host.specs.Seated.{SeatsMirror, waiting_at}
use Rattle.shipped_host.specs.ShippedHost.{shipped_host}
use Rattle.host_world.specs.Shown.{shown_world, digests_of, requests_of}

-- The world of a shipped host behind its setup and some events, each of which was enabled.
pub record IsBehindSetup (functions : DigestFunctions) (settings : Settings) (script : List (List Task)) (world : machine.World Content) : Type 0 where
  pub settings_fit : IsSettings settings
  pub counters : settings.shards ≤ settings.header.end
  pub keys : AreInRange settings.header script
  pub values : HaveShortValues settings.header script
  pub events : List (WorldEvent Request)
  pub enabled : AreEnabled (shipped_host functions settings script) (machine.set_up (shipped_host functions settings script)) events
  pub is : world ≡ run_events (shipped_host functions settings script) (machine.set_up (shipped_host functions settings script)) events

-- the host of a world of the code
abbrev pub host_of : {D : Type 0} → DigestFunctions → World D → Host Content Request
host_of functions world = shipped_host functions world.settings (requests_of world)

-- a worker with these commands in front of its log
abbrev pub logged_before : List Command → machine.Worker → machine.Worker
logged_before log worker = record worker { log = log ++ worker.log }

-- workers with logs in front of their own, each as long as there is one
abbrev pub before_each : List (List Command) → List machine.Worker → List machine.Worker
before_each [] workers = workers
before_each (log ∷ logs) [] = []
before_each (log ∷ logs) (worker ∷ workers) = logged_before log worker ∷ before_each logs workers

-- the world with logs in front of its workers' own
abbrev pub with_logs : {C : Type 0} → List (List Command) → machine.World C → machine.World C
with_logs logs world = record world { workers = before_each logs world.workers }

-- The world of the code stands behind its host's setup, where its workers have handed out these logs.
pub record StandsWith {D : Type 0} (functions : DigestFunctions) (world : World D) (logs : List (List Command)) : Type 0 where
  pub each : length logs ≡ length (shown_world world).workers
  pub behind : IsBehindSetup functions world.settings (requests_of world) (with_logs logs (shown_world world))

-- The world of the code stands behind its host's setup, whatever its workers have handed out of their logs.
abbrev pub StandsBehind : {D : Type 0} → DigestFunctions → World D → Type 0
StandsBehind functions world = (logs : List (List Command)) × StandsWith functions world logs

-- Both are worlds of one host.
pub record AreOfOneHost {D : Type 0} (old new : World D) : Type 0 where
  pub settings : new.settings ≡ old.settings
  pub requests : requests_of new ≡ requests_of old
  pub digests : digests_of new ≡ digests_of old

-- A worker whose clock stands so can take a shard's seats in: they mirror, and the clock takes each stamp there.
pub record CanTakeSeats (digest : Digest) (clock : Reading) (seats : List Content) : Type 0 where
  pub mirrors : SeatsMirror longest_blob digest seats
  pub open_epochs : AllByRecursion (λ element. IsTrue (is_open clock element.stamp.epoch)) (waiting_at seats)

-- what a worker of the world has logged and not handed out
abbrev pub log_at : {D : Type 0} → World D → ℕ → List Command
log_at world i = (get_or (shown_world world).workers i (machine.fresh world.settings.header)).log
