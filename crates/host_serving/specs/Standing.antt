-- How a world stands while its script is served: within a round, and at its end. A round serves one phase, or in a rolling host
-- all of them.
use Rattle.std.specs.Prelude.{◌≡◌, ◌⊎◌, ℕ, suc, ◌+◌, ◌<◌, ◌≤◌, true, false, List, [], length, take, get_or, Option, None, IfSome, if◌then◌else◌}
use Rattle.host_core.specs.Host.{Host, asked_in, asked_from}
use Rattle.host_core.specs.World.{Worker, World, worker_at, scanned_at}
use Rattle.host_core.specs.WorldEvent.{IsPhaseOver, IsRoundOver, HasAdvanced}
use Rattle.host_world.specs.declared.fault.ClockEnd.{ClockEnd}
use Rattle.host_serving.specs.Leading.{CanDoNoMore}

-- what a phase asks, each request with its worker
abbrev pub turns_of : {C R : Type 0} → Host C R → ℕ → List (ℕ × R)
turns_of host phase = get_or host.script phase []

-- the first phase of the round that the world is in, which is also how many rounds there were before it: a rolling host serves all
-- phases in one round, and another each phase in one of its own
abbrev pub first_of_round : {C R : Type 0} → Host C R → World C → ℕ
first_of_round host world = if host.rolling then 0 else world.phase

-- how many requests a worker is asked in so many phases, and in so many turns of the next
abbrev pub asked_by : {C R : Type 0} → Host C R → ℕ → ℕ → ℕ → ℕ
asked_by host i phase turns =
    length (asked_from i 0 (take phase host.script)) + length (asked_in i phase (take turns (turns_of host phase)))

-- The worker holds nothing, and its clock ended in this round or it has served so many requests.
pub record HasServedUpTo (worker : Worker) (count : ℕ) : Type 0 where
  pub idle : worker.holds ≡ None
  pub going : worker.stuck ≡ false
  pub served : (worker.stopped ≡ true) ⊎ ((worker.stopped ≡ false) × (worker.served ≡ count))

module _ {C R : Type 0} (host : Host C R) (world : World C) where
  -- all that is asked before a phase and so many of its turns are served, each by its worker or not because its clock ended
  pub record IsServedUpTo (at turns : ℕ) : Type 0 where
    pub going : world.over ≡ false
    pub phase : world.closing ≡ false
    pub within : world.phase < length host.script
    pub each : (i : ℕ) → i < length world.workers → HasServedUpTo (worker_at host world i) (asked_by host i at turns)

  -- A round begins: nothing of it is served. In a rolling host no later epoch may be entered yet, and each worker has scanned its
  -- shards in the first.
  pub record BeginsRound : Type 0 where
    pub served : IsServedUpTo (first_of_round host world) 0
    pub newest : host.rolling ≡ true → world.newest ≡ host.header.first
    pub marks : host.rolling ≡ true → (i : ℕ) → i < length world.workers → scanned_at host world i ≡ host.header.first

  -- each worker has served all that is asked of it before the round
  abbrev pub HaveServedBefore : Type 0
  HaveServedBefore = (i : ℕ) → i < length world.workers → asked_by host i (first_of_round host world) 0 ≤ (worker_at host world i).served

  -- all turns of the phase are served so, and no worker has more to do in it, nor in a rolling host in the round
  pub record IsServedOut : Type 0 where
    pub served : IsServedUpTo world.phase (length (turns_of host world.phase))
    pub over : IsPhaseOver host world
    pub settled : host.rolling ≡ true → IsRoundOver host world

  -- no worker's clock ended in this round
  abbrev pub NoneStopped : Type 0
  NoneStopped = (i : ℕ) → i < length world.workers → (worker_at host world i).stopped ≡ false

  -- a worker's clock did
  abbrev pub SomeStopped : Type 0
  SomeStopped = (i : ℕ) × (i < length world.workers) × ((worker_at host world i).stopped ≡ true)

  -- A clock ended in the round of a rolling host, and no place is held: no close follows.
  pub record IsRoundStopped : Type 0 where
    pub rolling : host.rolling ≡ true
    pub going : world.over ≡ false
    pub phase : world.closing ≡ false
    pub within : world.phase < length host.script
    pub idle : (i : ℕ) → i < length world.workers → (worker_at host world i).holds ≡ None
    pub stopped : SomeStopped

  -- a round is done: it is served out, or in a rolling host a clock ended in it
  abbrev pub EndsRound : Type 0
  EndsRound = IsServedOut ⊎ IsRoundStopped

  -- nothing follows: no event is enabled any more, or the round of a rolling host was stopped
  abbrev pub NothingFollows : Type 0
  NothingFollows = CanDoNoMore host world ⊎ IsRoundStopped

  -- no clock of a worker below this one ended in this close
  abbrev pub NoneStuckBelow : ℕ → Type 0
  NoneStuckBelow worker = (i : ℕ) → i < worker → (worker_at host world i).stuck ≡ false

  -- The worker that an end names is the lowest whose clock ended with it: no clock below it ended in the round, and none in the
  -- close, unless its own ended in the round.
  abbrev pub IsLowest : Option ClockEnd → Type 0
  IsLowest end = IfSome end (λ found. (i : ℕ) → i < found.worker
      → ((worker_at host world i).stopped ≡ false)
      × ((worker_at host world found.worker).stopped ≡ false → (worker_at host world i).stuck ≡ false))

  -- The last close is whole: all workers have advanced twice, and what they served before stands.
  pub record IsClosed : Type 0 where
    pub over : IsPhaseOver host world
    pub advanced : (i : ℕ) → i < length world.workers → HasAdvanced host world i 2

  -- The script is served: its last phase is closed, and no clock ended.
  pub record IsAllServed : Type 0 where
    pub last : length host.script ≤ suc world.phase
    pub closed : IsClosed
    pub running : NoneStopped
