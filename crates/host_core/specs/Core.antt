-- What holds of the world behind every list of enabled events.
use Rattle.std.specs.Prelude.{◌≡◌, ◌↔◌, ℕ, suc, ◌+◌, ◌-◌, ◌<◌, ◌≤◌, ◌%◌, Bool, true, false, List, ◌++◌, take, length}
use Rattle.std.specs.List.{flat_map}
use Rattle.record_text.specs.declared.element.Element.{Element}
use Rattle.verifier_commands.specs.State.{opening}
use Rattle.soundness.specs.History.{Event}
use Rattle.soundness.specs.PathHistory.{path_log_events, path_histories_of}
use Rattle.soundness.specs.Certified.{all_events, order_of, added_in, evicted_in, sealed_count, sealed_by_all, certified_count}
use Rattle.soundness.specs.Timed.{added_among, evicted_among}
use Rattle.soundness.specs.Permutation.{is_permutation}
use Rattle.host_core.specs.Accepted.{state_from, IsAccepted}
use Rattle.host_core.specs.Host.{Host, scheme, machinery, resting, asked, script_of}
use Rattle.host_core.specs.World.{Place, World, worker_at, shard_at, scanned_at, logs_of, epoch_of, set_up}
use Rattle.host_core.specs.WorldEvent.{WorldEvent, takes, loses, serves, gives, advances, moves, opens, raises, enters, scans, finishes, stops, AreUpTo, AreFrom, IsPlace, AllMoved, HasAdvanced, IsNext, IsDue, IsPhaseOver, IsRoundOver, IsEnabled, AreEnabled, run_events}
use Rattle.host_core.specs.Deeds.{answers_in, pending_of, IsAnswering, AreStamped, IsClock, IsReady, IsReadyAt, IsFit}

module _ {C R : Type 0} (host : Host C R) (world : World C) where
  -- the histories of all logs
  abbrev pub histories : List (List Event)
  histories = path_histories_of (scheme host) host.header (logs_of world)

  -- the pending elements of all contents
  abbrev pub pending_in : List Element
  pending_in = flat_map (λ shard. pending_of host shard.contents) world.shards

  -- the log of each worker is accepted, and its verifier rests with the worker's clock
  abbrev pub AreAccepted : Type 0
  AreAccepted = (i : ℕ) → i < length world.workers
      → let worker = worker_at host world i in
      IsAccepted (machinery host i) (opening i host.header) worker.log
      × (state_from (machinery host i) (opening i host.header) worker.log ≡ resting host i worker.clock)

  -- each worker's answers are what the script asks of it first, each in its phase's epoch
  abbrev pub AreAnswered : Type 0
  AreAnswered = (i : ℕ) → i < length world.workers
      → let worker = worker_at host world i in
      answers_in (path_log_events (scheme host) host.header i worker.log) ≡ take worker.served (script_of host i)

  -- the same of whatever host, each in time
  abbrev pub AreAnsweredInTime : Type 0
  AreAnsweredInTime = (i : ℕ) → i < length world.workers
      → let worker = worker_at host world i in
      IsAnswering host (answers_in (path_log_events (scheme host) host.header i worker.log)) (take worker.served (asked host i))

  -- behind its round each worker of a rolling host has answered all that is asked of it
  abbrev pub IsRoundDone : Type 0
  IsRoundDone = world.closing ≡ true → (i : ℕ) → i < length world.workers
      → IsAnswering host (answers_in (path_log_events (scheme host) host.header i (worker_at host world i).log)) (asked host i)

  -- all evicted elements together are a permutation of all added ones with the pending elements of all contents
  abbrev pub IsEven : Type 0
  IsEven =
      is_permutation (evicted_among (all_events histories)) (added_among (all_events histories) ++ pending_in) ≡ true

  -- in a phase each clock and each pending element is of its epoch, and no shard is moved
  abbrev pub IsInPhase : Type 0
  IsInPhase = world.closing ≡ false
      → ((i : ℕ) → i < length world.workers → (worker_at host world i).clock.at.epoch ≡ epoch_of host world)
      × ((s : ℕ) → s < length world.shards → AreStamped host (epoch_of host world) (shard_at world s).contents)
      × ((s : ℕ) → s < length world.shards → (shard_at world s).moved ≡ false)

  -- in a phase of a host that is not rolling, a request is due at a place exactly where it is the worker's next of the phase
  abbrev pub IsDueInPhase : Type 0
  IsDueInPhase = world.closing ≡ false
      → (i : ℕ) (place : Place) (request : R) → i < length world.workers → IsPlace world place
      → (IsDue host world i place request ↔ IsNext host world i request)

  -- In the round of a rolling host the newest epoch is not past that of the last phase, and at most one past what any worker has
  -- scanned; a worker has scanned in no later epoch than its own, which is not past the newest; and what waits in a shard is from
  -- what its owner has scanned up to the newest.
  pub record IsBounded : Type 0 where
    pub from_first : host.header.first ≤ world.newest
    pub within : world.newest ≤ epoch_of host world
    pub scanned : (i : ℕ) → i < length world.workers
        → (world.newest ≤ suc (scanned_at host world i)) × (scanned_at host world i ≤ (worker_at host world i).clock.at.epoch)
        × ((worker_at host world i).clock.at.epoch ≤ world.newest)
    pub waits : (s : ℕ) → s < length world.shards
        → AreFrom (scanned_at host world (s % length world.workers)) (pending_of host (shard_at world s).contents)
        × AreUpTo world.newest (pending_of host (shard_at world s).contents)

  -- So all clocks and all pending elements are of the newest epoch or of the one before.
  pub record IsNearNewest : Type 0 where
    pub clocks : (i : ℕ) → i < length world.workers
        → (world.newest ≤ suc (worker_at host world i).clock.at.epoch) × ((worker_at host world i).clock.at.epoch ≤ world.newest)
    pub waits : (s : ℕ) → s < length world.shards
        → AreFrom (world.newest - 1) (pending_of host (shard_at world s).contents)
        × AreUpTo world.newest (pending_of host (shard_at world s).contents)

  abbrev pub IsInRound : Type 0
  IsInRound = world.closing ≡ false → IsBounded × IsNearNewest

  -- where a rolling host's round is over, each clock and each pending element is of the epoch of the last phase
  abbrev pub IsLevelBehindRound : Type 0
  IsLevelBehindRound = IsRoundOver host world → IsInPhase

  -- behind a whole close each pending element is of the new epoch
  abbrev pub IsBehindClose : Type 0
  IsBehindClose = AllMoved world
      → (s : ℕ) → s < length world.shards → AreStamped host (suc (epoch_of host world)) (shard_at world s).contents

  -- each worker has sealed the epochs from the first up to the one before its clock's
  abbrev pub AreSealed : Type 0
  AreSealed = (i : ℕ) → i < length world.workers
      → let worker = worker_at host world i in
      sealed_count (path_log_events (scheme host) host.header i worker.log) ≡ worker.clock.at.epoch - (host.header.first + 1)

  -- of each epoch that all have sealed the added elements are a permutation of the evicted ones
  abbrev pub SealedArePermuted : Type 0
  SealedArePermuted = (epoch : ℕ) → host.header.first ≤ epoch → epoch < host.header.first + sealed_by_all histories
      → is_permutation (added_in epoch (order_of histories)) (evicted_in epoch (order_of histories)) ≡ true

  -- each epoch that all have sealed is certified
  abbrev pub AllCertified : Type 0
  AllCertified = certified_count (scheme host) host.header.first histories ≡ sealed_by_all histories

  -- behind a whole last close each phase's epoch is certified
  abbrev pub IsWhole : Type 0
  IsWhole = ((i : ℕ) → i < length world.workers → HasAdvanced host world i 2)
      → certified_count (scheme host) host.header.first histories ≡ suc world.phase

  -- where the last phase is over and no clock ended, each worker has answered all that the script asks of it
  abbrev pub IsDone : Type 0
  IsDone = length host.script ≤ suc world.phase → IsPhaseOver host world
      → ((i : ℕ) → i < length world.workers → (worker_at host world i).stopped ≡ false)
      → (i : ℕ) → i < length world.workers
      → answers_in (path_log_events (scheme host) host.header i (worker_at host world i).log) ≡ script_of host i

-- What an event does at a shard is ready to be done.
module _ {C R : Type 0} (mirrors : ℕ → List C → Type 0) (host : Host C R) (world : World C) where
  -- a worker at a shard that it moves or scans: all that waits there is of the epoch before its own
  pub record IsReadyToMove (i s : ℕ) : Type 0 where
    pub epoch : ℕ
    pub ready : IsReady mirrors host i (worker_at host world i).clock epoch s (shard_at world s).contents
    pub turned : (worker_at host world i).clock.at.epoch ≡ suc epoch

  abbrev pub IsReadyFor : WorldEvent R → Type 0
  IsReadyFor (takes i place) = Unit {0}
  IsReadyFor (loses i place) = Unit {0}
  IsReadyFor (serves i place request) =
      IsReadyAt mirrors host i (worker_at host world i).clock place.shard place.seat (shard_at world place.shard).contents
  IsReadyFor (gives i place) = Unit {0}
  IsReadyFor (advances i) = Unit {0}
  IsReadyFor (moves i s) = IsReadyToMove i s
  IsReadyFor opens = Unit {0}
  IsReadyFor (raises i) = Unit {0}
  IsReadyFor (enters i) = Unit {0}
  IsReadyFor (scans i place) = IsReadyToMove i place.shard
  IsReadyFor (finishes i) = Unit {0}
  IsReadyFor (stops i found) = Unit {0}

  -- there are as many workers and shards as behind the setup, each worker's clock is one of the host, each shard mirrors, and
  -- whatever is enabled is ready
  pub record IsStanding : Type 0 where
    pub workers : length world.workers ≡ host.header.verifiers
    pub marks : length world.scanned ≡ length world.workers
    pub shards : length world.shards ≡ length host.setup.after
    pub clocks : (i : ℕ) → i < length world.workers → IsClock host (worker_at host world i).clock
    pub mirrored : (s : ℕ) → s < length world.shards → mirrors s (shard_at world s).contents
    pub ready : (event : WorldEvent R) → IsEnabled host world event → IsReadyFor event

-- P holds of the world behind every list of events that are enabled from the setup on, where whatever the host does fits.
abbrev pub HoldsBehind : {C R : Type 0} → (ℕ → List C → Type 0) → Host C R → (World C → Type 0) → Type 0
HoldsBehind mirrors host P =
    IsFit mirrors host → (events : List (WorldEvent _)) → AreEnabled host (set_up host) events → P (run_events host (set_up host) events)

-- The same for whatever test says that a shard mirrors.
abbrev pub HoldsAlways : {C R : Type 0} → Host C R → (World C → Type 0) → Type 0
HoldsAlways {C} host P = (mirrors : ℕ → List C → Bool) → HoldsBehind (λ s contents. mirrors s contents ≡ true) host P
