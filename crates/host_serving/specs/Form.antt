-- The form of a run's list of events: rounds and closes in turn, the events of each in one order. A round serves one phase, or in a
-- rolling host all of them.
use Rattle.std.specs.Prelude.{◌≡◌, ◌↔◌, ◌⊎◌, ℕ, zero, suc, ◌≤◌, ◌==◌, ◌%◌, Bool, true, false, List, [], ◌∷◌, ◌++◌, length, is_none, if◌then◌else◌}
use Rattle.host_core.specs.Host.{Host}
use Rattle.host_core.specs.World.{World, worker_at}
use Rattle.host_core.specs.WorldEvent.{WorldEvent, moves, opens, IsLast, step, run_events}
use Rattle.host_order.specs.Serving.{Serving, in_one_order, replay}
use Rattle.host_order.specs.Told.{Stop, AreDone, AreEnded, replay_stops}
use Rattle.host_order.specs.Close.{advances_from}
use Rattle.round_order.specs.Turn as rounds
use Rattle.round_order.specs.Told.{RoundStop, AreTold, list_of, whole_events, stopped_events}
use Rattle.host_world.specs.Ending.{end_of}
use Rattle.host_serving.specs.Leading.{first_end}
use Rattle.host_serving.specs.Loop.{KeepsToLoop}

-- ---- a phase

-- each is of a higher worker than the one before it, from one on
abbrev pub AreRising : {R : Type 0} → ℕ → List (Stop R) → Type 0
AreRising i [] = Unit {0}
AreRising i (stop ∷ stops) = (i ≤ stop.worker) × AreRising (suc stop.worker) stops

-- The events of a phase: take, serve and give of each served request, by the clocks behind them and where these tie by worker, and
-- then the same of each request at which a clock ended, by worker.
pub record AreOfPhase {C R : Type 0} (host : Host C R) (world : World C) (events : List (WorldEvent R)) : Type 0 where
  pub servings : List (Serving C R)
  pub stops : List (Stop R)
  pub done : AreDone host world (in_one_order servings)
  pub ended : AreEnded host (run_events host world (replay (in_one_order servings))) stops
  pub rising : AreRising 0 stops
  pub are : events ≡ replay (in_one_order servings) ++ replay_stops stops

-- ---- the round of a rolling host

-- each is of a higher worker than the one before it, from one on
abbrev pub AreByWorker : ℕ → List RoundStop → Type 0
AreByWorker i [] = Unit {0}
AreByWorker i (stop ∷ stops) = (i ≤ stop.worker) × AreByWorker (suc stop.worker) stops

-- the turns of workers in one order, with the epochs that they go on by where these first become due; then each notes that its shards
-- are of the last epoch, or, where clocks ended, the stops
abbrev pub rolling_events : {C R : Type 0} → World C → (ℕ → ℕ) → ℕ → List (List (rounds.Turn C R)) → List RoundStop → List (WorldEvent R)
rolling_events world finals top lists [] = whole_events world finals top world.newest lists
rolling_events world finals top lists (stop ∷ stops) = stopped_events world finals top world.newest lists (stop ∷ stops)

-- They are those events, of what the workers did as each tells it and each place, up to the newest epoch and to each worker's last.
-- Where there is one worker, it keeps to its loop. The stops stand by worker.
pub record AreRolling {C R : Type 0} (host : Host C R) (world : World C) (events : List (WorldEvent R)) : Type 0 where
  pub top : ℕ
  pub finals : ℕ → ℕ
  pub lists : List (List (rounds.Turn C R))
  pub pasts : List (List (List (rounds.Turn C R)))
  pub stops : List RoundStop
  pub told : AreTold host host.rolling world top finals lists pasts
  pub loop : length world.workers ≡ 1 → KeepsToLoop host (worker_at host world 0).served world.newest (list_of lists 0)
  pub by_worker : AreByWorker 0 stops
  pub are : events ≡ rolling_events world finals top lists stops

-- The events of a round: those of a phase, or in a rolling host of all phases together, of which nothing may have happened yet.
pub record AreOfRound {C R : Type 0} (host : Host C R) (world : World C) (events : List (WorldEvent R)) : Type 0 where
  pub plain : host.rolling ≡ false → AreOfPhase host world events
  pub rolling : host.rolling ≡ true → (events ≡ []) ⊎ AreRolling host world events

-- ---- a close

module _ {C R : Type 0} (host : Host C R) where
  -- these events one after another, up to the first at which a clock ends
  abbrev pub until_end : World C → List (WorldEvent R) → List (WorldEvent R)
  until_end world [] = []
  until_end world (event ∷ events) = event ∷ (if is_none (end_of host world event) then until_end (step host world event) events else [])

  -- these events, and unless a clock ends among them what follows in the world behind them
  abbrev pub unless_ended : World C → List (WorldEvent R) → (World C → List (WorldEvent R)) → List (WorldEvent R)
  unless_ended world events next = events ++ (if is_none (first_end host world events) then next (run_events host world events) else [])

-- of so many shards, from one on, each that is the worker's own is moved, where there are so many workers
abbrev pub own_moves_from : {R : Type 0} → ℕ → ℕ → ℕ → ℕ → List (WorldEvent R)
own_moves_from workers i s zero = []
own_moves_from workers i s (suc count) =
    if s % workers == i then moves i s ∷ own_moves_from workers i (suc s) count else own_moves_from workers i (suc s) count

module _ {C R : Type 0} (host : Host C R) where
  -- All workers advance, in the order of their numbers, or the first finds that there is no epoch to come.
  abbrev pub all_advance : World C → List (WorldEvent R)
  all_advance world = until_end host world (advances_from 0 (length world.workers))

  -- A worker moves its own shards, in their order, until its clock ends.
  abbrev pub own_moves : World C → ℕ → List (WorldEvent R)
  own_moves world i = until_end host world (own_moves_from (length world.workers) i 0 (length world.shards))

  -- so do so many workers, from one on, also behind one whose clock ended
  abbrev pub moves_of_each : World C → ℕ → ℕ → List (WorldEvent R)
  moves_of_each world i zero = []
  moves_of_each world i (suc count) = own_moves world i ++ moves_of_each (run_events host world (own_moves world i)) (suc i) count

  abbrev pub all_move : World C → List (WorldEvent R)
  all_move world = moves_of_each world 0 (length world.workers)

  -- All advance, and then each moves its shards.
  abbrev pub events_of_shards : World C → List (WorldEvent R)
  events_of_shards world = unless_ended host world (all_advance world) all_move

  -- The events of a close, which is the last or not: behind the moves all advance once more, or the next phase opens; unless a clock
  -- ended before.
  abbrev pub events_of_close : World C → Bool → List (WorldEvent R)
  events_of_close world last = unless_ended host world (events_of_shards world) (λ moved. if last then all_advance moved else opens ∷ [])

-- They are those of a close that is the last where the script's end or a clock's makes it so.
pub record AreOfClose {C R : Type 0} (host : Host C R) (world : World C) (events : List (WorldEvent R)) : Type 0 where
  pub last : Bool
  pub is_last : (last ≡ true) ↔ IsLast host world
  pub are : events ≡ events_of_close host world last

-- ---- a run

-- the events of a round, and of its close
pub record Round (Ask : Type 0) : Type 0 where
  pub served : List (WorldEvent Ask)
  pub close : List (WorldEvent Ask)

-- the events of rounds in turn
abbrev pub events_of : {R : Type 0} → List (Round R) → List (WorldEvent R)
events_of [] = []
events_of (round ∷ rounds) = (round.served ++ round.close) ++ events_of rounds

-- each round and each close is of its form, in the world where it begins
abbrev pub AreInForm : {C R : Type 0} → Host C R → World C → List (Round R) → Type 0
AreInForm host world [] = Unit {0}
AreInForm host world (round ∷ rounds) =
    AreOfRound host world round.served × AreOfClose host (run_events host world round.served) round.close
    × AreInForm host (run_events host world (round.served ++ round.close)) rounds

-- The events of a run so far: closed rounds, and then a round that is not closed, of which nothing has happened where a close came
-- last.
pub record AreInRounds {C R : Type 0} (host : Host C R) (world : World C) (events : List (WorldEvent R)) : Type 0 where
  pub rounds : List (Round R)
  pub whole : AreInForm host world rounds
  pub served : List (WorldEvent R)
  pub begun : AreOfRound host (run_events host world (events_of rounds)) served
  pub are : events ≡ events_of rounds ++ served
