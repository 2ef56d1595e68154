-- A phase as its workers and its places tell it, and the one list of events that it was.
use Rattle.std.specs.Prelude.{◌≡◌, ◌≢◌, ℕ, ◌+◌, ◌<◌, Bool, true, false, ◌==◌, ◌||◌, List, [], ◌∷◌, ◌++◌, length, get_or, slice_get, None, Some}
use Rattle.std.specs.List.{flat_map, AllByRecursion}
use Rattle.std.specs.List.Sorted.{IsPermutation}
use Rattle.host_core.specs.Host.{Host, asked}
use Rattle.host_core.specs.World.{Place, World, worker_at, shard_at}
use Rattle.host_core.specs.WorldEvent.{WorldEvent, takes, serves, gives, IsPlace, AreEnabled, run_events}
use Rattle.host_core.specs.Core.{IsInPhase}
use Rattle.host_order.specs.Serving.{Serving, IsPlaceChain, IsWorkerChain, content_behind, clock_behind, commands_in, content_at, IsHad, in_one_order, replay}
use Rattle.host_order.specs.Steady.{IsSteady}

-- ---- what is told

-- the lists of all workers joined
abbrev pub joined : {C R : Type 0} → List (List (Serving C R)) → List (Serving C R)
joined lists = flat_map (λ servings. servings) lists

-- the pasts of all places joined, shard by shard
abbrev pub joined_pasts : {C R : Type 0} → List (List (List (Serving C R))) → List (Serving C R)
joined_pasts pasts = flat_map joined pasts

abbrev pub list_of : {C R : Type 0} → List (List (Serving C R)) → ℕ → List (Serving C R)
list_of lists i = get_or lists i []

abbrev pub past_of : {C R : Type 0} → List (List (List (Serving C R))) → Place → List (Serving C R)
past_of pasts place = get_or (get_or pasts place.shard []) place.seat []

module _ {C R : Type 0} (host : Host C R) (world : World C) where
  -- the worker runs, the place is there, and it owns the request
  pub record IsOpenTo (worker : ℕ) (place : Place) (request : R) : Type 0 where
    pub there : worker < length world.workers
    pub at : IsPlace world place
    pub running : (worker_at host world worker).stopped ≡ false
    pub owns : host.owns place.shard (shard_at world place.shard).contents place.seat request ≡ true

  -- what the host does for the request at the place, from that clock and content
  pub record IsServed (serving : Serving C R) : Type 0 where
    pub may : IsOpenTo serving.worker serving.place serving.request
    pub serves : host.serve serving.worker serving.clock serving.before serving.request ≡ Some serving.done

  -- a phase in which no place is held, and all is of its epoch
  pub record IsAtRest : Type 0 where
    pub going : world.over ≡ false
    pub phase : world.closing ≡ false
    pub idle : (i : ℕ) → i < length world.workers → (worker_at host world i).holds ≡ None
    pub epochs : IsInPhase host world

  -- Each worker's list is chained from its clock, each place's past from its content, and the lists have the servings
  -- of the pasts.
  pub record AreTold (lists : List (List (Serving C R))) (pasts : List (List (List (Serving C R)))) : Type 0 where
    pub served : AllByRecursion IsServed (joined lists)
    pub same : IsPermutation (joined lists) (joined_pasts pasts)
    pub own_worker : (i : ℕ) → AllByRecursion (λ serving. serving.worker ≡ i) (list_of lists i)
    pub own_place : (place : Place) → AllByRecursion (λ serving. serving.place ≡ place) (past_of pasts place)
    pub workers : (i : ℕ)
        → IsWorkerChain host world.phase i (worker_at host world i).clock (worker_at host world i).served (list_of lists i)
    pub places : (place : Place) → IsPlaceChain (content_at host world place) (past_of pasts place)

-- ---- stops

-- a request at which a worker's clock ends
pub record Stop (Ask : Type 0) : Type 0 where
  pub place : Place
  pub worker : ℕ
  pub request : Ask

-- a worker's clock ended in the phase: behind its list, at its next request, at a content that the place has had
pub record IsNoted {C R : Type 0} (host : Host C R) (world : World C) (lists : List (List (Serving C R)))
    (pasts : List (List (List (Serving C R)))) (stop : Stop R) : Type 0 where
  pub may : IsOpenTo host world stop.worker stop.place stop.request
  pub next : slice_get (asked host stop.worker) ((worker_at host world stop.worker).served + length (list_of lists stop.worker))
      ≡ Some (world.phase, stop.request)
  pub noted : C
  pub had : IsHad (content_at host world stop.place) (past_of pasts stop.place) noted
  pub ends : host.serve stop.worker (clock_behind (worker_at host world stop.worker).clock (list_of lists stop.worker)) noted stop.request ≡ None

-- each is of another worker
abbrev pub AreOfOthers : {R : Type 0} → List (Stop R) → Type 0
AreOfOthers [] = Unit {0}
AreOfOthers (stop ∷ stops) = AllByRecursion (λ other. stop.worker ≢ other.worker) stops × AreOfOthers stops

-- each as a take, a serve and a give
abbrev pub replay_stops : {R : Type 0} → List (Stop R) → List (WorldEvent R)
replay_stops [] = []
replay_stops (stop ∷ stops) =
    takes stop.worker stop.place ∷ serves stop.worker stop.place stop.request ∷ gives stop.worker stop.place ∷ replay_stops stops

-- one of them is of this worker
abbrev pub stops_by : {R : Type 0} → ℕ → List (Stop R) → Bool
stops_by i [] = false
stops_by i (stop ∷ stops) = stop.worker == i || stops_by i stops

-- ---- one order

-- the servings by their moments, then the stops as they stand
abbrev pub phase_events : {C R : Type 0} → List (List (Serving C R)) → List (Stop R) → List (WorldEvent R)
phase_events lists stops = replay (in_one_order (joined lists)) ++ replay_stops stops

-- each is what the host does for its request, from the clock and the content that stand there and then
abbrev pub AreDone : {C R : Type 0} → Host C R → World C → List (Serving C R) → Type 0
AreDone host world [] = Unit {0}
AreDone host world (serving ∷ servings) =
    (host.serve serving.worker (worker_at host world serving.worker).clock (content_at host world serving.place) serving.request ≡ Some serving.done)
    × AreDone host (run_events host world (replay (serving ∷ []))) servings

-- each ends its worker's clock, there and then
abbrev pub AreEnded : {C R : Type 0} → Host C R → World C → List (Stop R) → Type 0
AreEnded host world [] = Unit {0}
AreEnded host world (stop ∷ stops) =
    (host.serve stop.worker (worker_at host world stop.worker).clock (content_at host world stop.place) stop.request ≡ None)
    × AreEnded host (run_events host world (replay_stops (stop ∷ []))) stops

-- The later world has the last contents and the last clocks; each worker has logged its commands, and those of the stops
-- are stopped. No epoch was raised or noted as scanned.
pub record EndsWith {C R : Type 0} (host : Host C R) (world later : World C) (lists : List (List (Serving C R)))
    (pasts : List (List (List (Serving C R)))) (stops : List (Stop R)) : Type 0 where
  pub contents : (place : Place) → content_at host later place ≡ content_behind (content_at host world place) (past_of pasts place)
  pub logs : (i : ℕ) → (worker_at host later i).log ≡ (worker_at host world i).log ++ commands_in (list_of lists i)
  pub clocks : (i : ℕ) → (worker_at host later i).clock ≡ clock_behind (worker_at host world i).clock (list_of lists i)
  pub served : (i : ℕ) → (worker_at host later i).served ≡ (worker_at host world i).served + length (list_of lists i)
  pub stopped : (i : ℕ) → i < length world.workers
      → (worker_at host later i).stopped ≡ ((worker_at host world i).stopped || stops_by i stops)
  pub stuck : (i : ℕ) → (worker_at host later i).stuck ≡ (worker_at host world i).stuck
  pub idle : (i : ℕ) → i < length world.workers → (worker_at host later i).holds ≡ None
  pub phase : (later.phase ≡ world.phase) × (later.closing ≡ false) × (later.over ≡ false)
  pub words : (later.newest ≡ world.newest) × (later.scanned ≡ world.scanned)

-- What is told of a phase was one list of enabled events, in which each serving was done as it is told and each stop ended its
-- worker's clock, and which ends where all is as it is told.
pub record HasOneOrder {C R : Type 0} (host : Host C R) (world : World C) (lists : List (List (Serving C R)))
    (pasts : List (List (List (Serving C R)))) (stops : List (Stop R)) : Type 0 where
  pub enabled : AreEnabled host world (phase_events lists stops)
  pub done : AreDone host world (in_one_order (joined lists))
  pub ended : AreEnded host (run_events host world (replay (in_one_order (joined lists)))) stops
  pub ends : EndsWith host world (run_events host world (phase_events lists stops)) lists pasts stops

-- It is so wherever the workers' lists and the places' pasts are of a phase at rest, and the stops are noted.
abbrev pub OrdersPhase : {C R : Type 0} → Host C R → Type 0
OrdersPhase {C} {R} host =
    (world : World C) (lists : List (List (Serving C R))) (pasts : List (List (List (Serving C R)))) (stops : List (Stop R))
    → IsSteady host → IsAtRest host world → AreTold host world lists pasts
    → AllByRecursion (IsNoted host world lists pasts) stops → AreOfOthers stops
    → HasOneOrder host world lists pasts stops
