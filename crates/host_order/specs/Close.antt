-- A close as its workers tell it, and the list of events that it was: all advance, and then each moves its shards.
use Rattle.std.specs.Prelude.{◌≡◌, ℕ, zero, suc, ◌+◌, ◌<◌, ◌≤◌, ◌==◌, ◌%◌, ◌/◌, Bool, true, false, List, [], ◌∷◌, ◌++◌, length, get_or, slice_get, Option, Some, None}
use Rattle.std.specs.List.{flat_map}
use Rattle.lamport_clocks.specs.Reading.{Reading}
use Rattle.lamport_clocks.specs.Clock.{last_epoch}
use Rattle.log_codec.specs.declared.command.Command.TheVariants.{NextEpoch}
use Rattle.host_core.specs.Host.{Host, Done}
use Rattle.host_core.specs.World.{Seats, World, worker_at, shard_at, epoch_of}
use Rattle.host_core.specs.WorldEvent.{WorldEvent, advances, moves, opens, next_clock, IsPhaseOver, IsRoundOver, IsLast, IsEnabled, AreEnabled, run_events}
use Rattle.host_core.specs.Core.{IsInPhase}

-- what a worker made of its shards in a close, in their order, and whether its clock ended at the next of them
pub record Moves (Content : Type 0) : Type 0 where
  pub dones : List (Done (List Content))
  pub stuck : Bool

abbrev pub moves_of : {C : Type 0} → List (Moves C) → ℕ → Moves C
moves_of close i = get_or close i (record { dones = []; stuck = false })

-- a moved shard leaves the clock in its epoch
abbrev pub MovesKeepEpoch : {C R : Type 0} → Host C R → Type 0
MovesKeepEpoch {C} host = (i : ℕ) (clock : Reading) (s : ℕ) (contents : List C) (done : Done (List C))
    → host.move i clock s contents ≡ Some done → done.clock.at.epoch ≡ clock.at.epoch

abbrev pub last_clock : {C : Type 0} → Reading → List (Done (List C)) → Reading
last_clock clock [] = clock
last_clock clock (done ∷ dones) = last_clock done.clock dones

module _ {C R : Type 0} (host : Host C R) (world : World C) where
  -- A worker's moves, from a shard of its own on: each is what the host makes of it, from the clock that the one before
  -- left; and these are all of its shards, or the clock ends at the next.
  abbrev pub AreMoves : ℕ → ℕ → Reading → List (Done (List C)) → Bool → Type 0
  AreMoves i s clock [] false = length world.shards ≤ s
  AreMoves i s clock [] true = (s < length world.shards) × (host.move i clock s (shard_at world s).contents ≡ None)
  AreMoves i s clock (done ∷ dones) stuck =
      (s < length world.shards) × (host.move i clock s (shard_at world s).contents ≡ Some done)
      × AreMoves i (s + length world.workers) done.clock dones stuck

  -- a phase that is over, or in a rolling host the round, with an epoch to come
  pub record IsToClose : Type 0 where
    pub some : 0 < length world.workers
    pub going : world.over ≡ false
    pub phase : world.closing ≡ false
    pub through : IsPhaseOver host world
    pub settled : host.rolling ≡ true → IsRoundOver host world
    pub epochs : IsInPhase host world
    pub running : (i : ℕ) → i < length world.workers → (worker_at host world i).stuck ≡ false
    pub more : (epoch_of host world == last_epoch) ≡ false

  -- each worker tells its moves, from its clock in the next epoch
  pub record IsCloseTold (close : List (Moves C)) : Type 0 where
    pub count : length close ≡ length world.workers
    pub each : (i : ℕ) → i < length world.workers
        → AreMoves i i (next_clock (worker_at host world i).clock) (moves_of close i).dones (moves_of close i).stuck

-- ---- the events

-- so many workers advance, from one on
abbrev pub advances_from : {R : Type 0} → ℕ → ℕ → List (WorldEvent R)
advances_from i zero = []
advances_from i (suc count) = advances i ∷ advances_from (suc i) count

-- a worker moves its shards, from one on, among so many workers
abbrev pub move_events : {C R : Type 0} → ℕ → ℕ → ℕ → List (Done (List C)) → Bool → List (WorldEvent R)
move_events workers i s [] false = []
move_events workers i s [] true = moves i s ∷ []
move_events workers i s (done ∷ dones) stuck = moves i s ∷ move_events workers i (s + workers) dones stuck

-- all workers do, from one on
abbrev pub all_move_events : {C R : Type 0} → ℕ → ℕ → List (Moves C) → List (WorldEvent R)
all_move_events workers i [] = []
all_move_events workers i (one ∷ close) = move_events workers i i one.dones one.stuck ++ all_move_events workers (suc i) close

-- The events of a close.
abbrev pub close_events : {C R : Type 0} → World C → List (Moves C) → List (WorldEvent R)
close_events world close = advances_from 0 (length world.workers) ++ all_move_events (length world.workers) 0 close

-- ---- where they lead

-- a shard, moved or not
abbrev pub seats_after : {C : Type 0} → Seats C → Option (Done (List C)) → Seats C
seats_after seats None = seats
seats_after seats (Some done) = record { contents = done.after; moved = true }

-- Each worker advanced and logged its moves; each shard is what its worker made of it. No epoch was raised or noted as scanned.
pub record EndsClosed {C R : Type 0} (host : Host C R) (world later : World C) (close : List (Moves C)) : Type 0 where
  pub logs : (i : ℕ) → i < length world.workers → (worker_at host later i).log
      ≡ ((worker_at host world i).log ++ NextEpoch ∷ []) ++ flat_map (λ done. done.commands) (moves_of close i).dones
  pub clocks : (i : ℕ) → i < length world.workers
      → (worker_at host later i).clock ≡ last_clock (next_clock (worker_at host world i).clock) (moves_of close i).dones
  pub served : (i : ℕ) → i < length world.workers → (worker_at host later i).served ≡ (worker_at host world i).served
  pub stopped : (i : ℕ) → i < length world.workers → (worker_at host later i).stopped ≡ (worker_at host world i).stopped
  pub stuck : (i : ℕ) → i < length world.workers → (worker_at host later i).stuck ≡ (moves_of close i).stuck
  pub idle : (i : ℕ) → i < length world.workers → (worker_at host later i).holds ≡ None
  pub shards : (s : ℕ) → s < length world.shards → shard_at later s
      ≡ seats_after (shard_at world s) (slice_get (moves_of close (s % length world.workers)).dones (s / length world.workers))
  pub counts : (length later.workers ≡ length world.workers) × (length later.shards ≡ length world.shards)
  pub phase : (later.phase ≡ world.phase) × (later.over ≡ false)
  pub words : (later.newest ≡ world.newest) × (later.scanned ≡ world.scanned)

-- no clock ended in the close
abbrev pub NoneStuck : {C : Type 0} → World C → List (Moves C) → Type 0
NoneStuck world close = (i : ℕ) → i < length world.workers → (moves_of close i).stuck ≡ false

-- What is told of a close was one list of enabled events, which ends where all is as it is told. Where no clock ended, the
-- next phase may open behind it; or, where the close is the last, all workers may advance once more, or worker 0 finds that
-- there is no epoch to come.
pub record HasOneClose {C R : Type 0} (host : Host C R) (world : World C) (close : List (Moves C)) : Type 0 where
  pub enabled : AreEnabled host world (close_events world close)
  pub ends : EndsClosed host world (run_events host world (close_events world close)) close
  pub opened : NoneStuck world close → (IsLast host world → ⊥) → IsEnabled host (run_events host world (close_events world close)) opens
  pub last : NoneStuck world close → IsLast host world → (suc (epoch_of host world) == last_epoch) ≡ false
      → AreEnabled host (run_events host world (close_events world close)) (advances_from 0 (length world.workers))
  pub ended : NoneStuck world close → IsLast host world
      → IsEnabled host (run_events host world (close_events world close)) (advances 0)

-- It is so wherever the workers tell their moves of a phase that is over.
abbrev pub OrdersClose : {C R : Type 0} → Host C R → Type 0
OrdersClose {C} host = (world : World C) (close : List (Moves C))
    → MovesKeepEpoch host → IsToClose host world → IsCloseTold host world close → HasOneClose host world close
