-- The steps of a close: all workers advance, and each moves its shards.
use Rattle.std.specs.Prelude.{◌≡◌, ◌≢◌, ◌⊎◌, ℕ, ◌<◌, ◌≤◌, ◌%◌, true, false, length, Option, Some, None, ◌∷◌, []}
use Rattle.log_codec.specs.declared.command.Command.TheVariants.{NextEpoch}
use Rattle.host_core.specs.Host.{Host}
use Rattle.host_core.specs.World.{Worker, World, worker_at, shard_at}
use Rattle.host_core.specs.WorldEvent.{IsPhaseOver, IsRoundOver, IsLast, AllMoved, HasAdvanced, logging, next_clock}
use Rattle.host_world.specs.declared.fault.ClockEnd.{ClockEnd}
use Rattle.host_serving.specs.Leading.{CanDoNoMore}
use Rattle.host_serving.specs.Standing.{NoneStuckBelow}

-- a worker that went to the next epoch
abbrev pub advanced : Worker → Worker
advanced worker = logging worker (NextEpoch ∷ []) (next_clock worker.clock)

-- What a close leaves of a worker: what it holds, what it has served, and whether its clock ended in the phase.
pub record IsKept (worker later : Worker) : Type 0 where
  pub holds : later.holds ≡ worker.holds
  pub served : later.served ≡ worker.served
  pub stopped : later.stopped ≡ worker.stopped

module _ {C R : Type 0} (host : Host C R) (world : World C) where
  -- ---- one worker's shards

  -- the worker has moved all shards of its own, and its clock has not ended
  pub record IsThroughMoves (i : ℕ) : Type 0 where
    pub running : (worker_at host world i).stuck ≡ false
    pub moved : (s : ℕ) → s < length world.shards → s % length world.workers ≡ i → (shard_at world s).moved ≡ true

  -- its clock ended, and there is a shard of its own that it has not moved
  pub record IsStuckInMoves (i : ℕ) : Type 0 where
    pub stuck : (worker_at host world i).stuck ≡ true
    pub left : (s : ℕ) × (s < length world.shards) × (s % length world.workers ≡ i) × ((shard_at world s).moved ≡ false)

  -- it has moved none of them, and its clock has not ended
  pub record IsBeforeMoves (i : ℕ) : Type 0 where
    pub running : (worker_at host world i).stuck ≡ false
    pub still : (s : ℕ) → s < length world.shards → s % length world.workers ≡ i → (shard_at world s).moved ≡ false

  -- ---- what may be begun

  -- every worker may advance, if there is an epoch to come
  pub record CanAllAdvance : Type 0 where
    pub going : world.over ≡ false
    pub through : IsPhaseOver host world
    pub settled : host.rolling ≡ true → IsRoundOver host world
    pub turns : (i : ℕ) → i < length world.workers
        → HasAdvanced host world i 0 ⊎ (HasAdvanced host world i 1 × IsLast host world × AllMoved world)

  -- all workers have advanced once
  pub record HaveTurned : Type 0 where
    pub going : world.over ≡ false
    pub closing : world.closing ≡ true
    pub turned : (i : ℕ) → i < length world.workers → HasAdvanced host world i 1

  -- all have, and this one has not begun to move its shards
  pub record CanMoveOwn (i : ℕ) : Type 0 where
    pub all : HaveTurned
    pub there : i < length world.workers
    pub before : IsBeforeMoves i

  -- all have, and none has begun
  pub record CanMoveAll : Type 0 where
    pub all : HaveTurned
    pub before : (i : ℕ) → i < length world.workers → IsBeforeMoves i

  -- ---- what comes of it

  -- The workers below one have advanced.
  pub record HaveAdvanced (later : World C) (count : ℕ) : Type 0 where
    pub before : (i : ℕ) → i < count → worker_at host later i ≡ advanced (worker_at host world i)
    pub behind : (i : ℕ) → count ≤ i → worker_at host later i ≡ worker_at host world i
    pub shards : later.shards ≡ world.shards
    pub phase : later.phase ≡ world.phase
    pub scanned : later.scanned ≡ world.scanned
    pub going : later.over ≡ false
    pub workers : length later.workers ≡ length world.workers
    pub closing : 0 < count → later.closing ≡ true

  -- all have advanced, or there is no epoch to come, for which worker 0 is named, and each keeps what a close leaves
  abbrev pub EndsAdvance : World C → Option ClockEnd → Type 0
  EndsAdvance later None = HaveAdvanced later (length world.workers)
  EndsAdvance later (Some end) =
      (later.over ≡ true) × (end.worker ≡ 0) × ((i : ℕ) → IsKept (worker_at host world i) (worker_at host later i))

  -- What moves leave of the world and its workers.
  pub record KeepsTurned (later : World C) : Type 0 where
    pub phase : later.phase ≡ world.phase
    pub scanned : later.scanned ≡ world.scanned
    pub going : later.over ≡ world.over
    pub closing : later.closing ≡ world.closing
    pub workers : length later.workers ≡ length world.workers
    pub shards : length later.shards ≡ length world.shards
    pub kept : (i : ℕ) → IsKept (worker_at host world i) (worker_at host later i)
    pub epochs : (i : ℕ) → (worker_at host later i).clock.at.epoch ≡ (worker_at host world i).clock.at.epoch

  -- the same, where only this worker did something, and to its own shards
  pub record OnlyMoves (i : ℕ) (later : World C) : Type 0 where
    pub keeps : KeepsTurned later
    pub others : (j : ℕ) → j ≢ i → (worker_at host later j).stuck ≡ (worker_at host world j).stuck
    pub foreign : (s : ℕ) → s % length world.workers ≢ i → (shard_at later s).moved ≡ (shard_at world s).moved

-- The worker moved its shards, or its clock ended, and it is named.
abbrev pub EndsOwn : {C R : Type 0} → Host C R → World C → ℕ → World C → Option ClockEnd → Type 0
EndsOwn host world i later None = OnlyMoves host world i later × IsThroughMoves host later i
EndsOwn host world i later (Some end) = OnlyMoves host world i later × IsStuckInMoves host later i × (end.worker ≡ i)

-- Each worker moved its shards.
pub record HaveAllMoved {C R : Type 0} (host : Host C R) (world later : World C) : Type 0 where
  pub keeps : KeepsTurned host world later
  pub each : (i : ℕ) → i < length world.workers → IsThroughMoves host later i

-- Each worker moved its shards, or its clock ended; and some worker's did.
pub record HaveSomeStuck {C R : Type 0} (host : Host C R) (world later : World C) : Type 0 where
  pub keeps : KeepsTurned host world later
  pub each : (i : ℕ) → i < length world.workers → IsThroughMoves host later i ⊎ IsStuckInMoves host later i
  pub some : (i : ℕ) × (i < length world.workers) × IsStuckInMoves host later i

-- It is so, the first where no end is told and the second where one is, which is the lowest such worker's.
abbrev pub EndsMoves : {C R : Type 0} → Host C R → World C → World C → Option ClockEnd → Type 0
EndsMoves host world later None = HaveAllMoved host world later
EndsMoves host world later (Some end) = HaveSomeStuck host world later × NoneStuckBelow host later end.worker

-- All workers advanced once, all shards are moved, and no clock ended.
pub record ShardsAreClosed {C R : Type 0} (host : Host C R) (world later : World C) : Type 0 where
  pub all : HaveTurned host later
  pub through : IsPhaseOver host later
  pub settled : host.rolling ≡ true → IsRoundOver host later
  pub phase : later.phase ≡ world.phase
  pub workers : length later.workers ≡ length world.workers
  pub kept : (i : ℕ) → IsKept (worker_at host world i) (worker_at host later i)
  pub running : (i : ℕ) → i < length world.workers → (worker_at host later i).stuck ≡ false
  pub moved : AllMoved later

-- It is so, or a clock ended and nothing can follow; no lower worker's did, and each keeps what a close leaves.
abbrev pub EndsShards : {C R : Type 0} → Host C R → World C → World C → Option ClockEnd → Type 0
EndsShards host world later None = ShardsAreClosed host world later
EndsShards host world later (Some end) =
    CanDoNoMore host later × NoneStuckBelow host later end.worker × ((i : ℕ) → IsKept (worker_at host world i) (worker_at host later i))
