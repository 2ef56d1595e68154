-- A phase as its workers and its places tell it: a round of one epoch.
use Rattle.std.specs.Prelude.{◌≡◌, ℕ, ◌<◌, false, List, [], ◌∷◌, ◌++◌, length, slice_get, Option, Some, None}
use Rattle.std.specs.List.{AllByRecursion}
use Rattle.std.specs.List.Sorted.{IsPermutation}
use Rattle.lamport_clocks.specs.Reading.{Reading}
use Rattle.host_core.specs.Host.{Host, asked}
use Rattle.host_core.specs.World.{Place, World, worker_at, epoch_of}
use Rattle.host_core.specs.WorldEvent.{WorldEvent, IsPlace}
use Rattle.round_order.specs.Turn.{Turn, IsPlaceChain, served_more, content_at, in_one_order}
use Rattle.round_order.specs.Steady.{IsSteady}
use Rattle.round_order.specs.Told.{IsDid, IsLevel, AreTold, joined, joined_pasts, list_of, past_of, done_events, round_events}

-- the request is the worker's next, and of this phase
abbrev pub IsOfPhase : {C R : Type 0} → Host C R → ℕ → ℕ → ℕ → Option R → Type 0
IsOfPhase host phase i served None = ⊥
IsOfPhase host phase i served (Some request) = slice_get (asked host i) served ≡ Some (phase, request)

-- those of a worker: each is of its next request of the phase, from the clock that the one before it left
abbrev pub IsPhaseChain : {C R : Type 0} → Host C R → ℕ → ℕ → Reading → ℕ → List (Turn C R) → Type 0
IsPhaseChain host phase i clock served [] = Unit {0}
IsPhaseChain host phase i clock served (turn ∷ turns) =
    (turn.clock ≡ clock) × IsOfPhase host phase i served turn.request
    × IsPhaseChain host phase i turn.done.clock (served_more served turn.request) turns

module _ {C R : Type 0} (host : Host C R) (world : World C) where
  -- the worker runs, the place is there, and it does what the host does
  pub record IsServedTurn (turn : Turn C R) : Type 0 where
    pub there : turn.worker < length world.workers
    pub at : IsPlace world turn.place
    pub running : (worker_at host world turn.worker).stopped ≡ false
    pub did : IsDid host false world turn turn.request

  pub record ArePhaseTold (lists : List (List (Turn C R))) (pasts : List (List (List (Turn C R)))) : Type 0 where
    pub served : AllByRecursion IsServedTurn (joined lists)
    pub same : IsPermutation (joined lists) (joined_pasts pasts)
    pub own_worker : (i : ℕ) → AllByRecursion (λ turn. turn.worker ≡ i) (list_of lists i)
    pub own_place : (place : Place) → AllByRecursion (λ turn. turn.place ≡ place) (past_of pasts place)
    pub workers : (i : ℕ) → IsPhaseChain host world.phase i (worker_at host world i).clock (worker_at host world i).served (list_of lists i)
    pub places : (place : Place) → IsPlaceChain (content_at host world place) (past_of pasts place)

-- each as a take, a serve and a give
abbrev pub replay : {C R : Type 0} → List (Turn C R) → List (WorldEvent R)
replay [] = []
replay (turn ∷ turns) = done_events turn ++ replay turns

-- What is told of a phase is told of a round of its epoch, whose events are the turns alone.
pub record IsRoundOfOne {C R : Type 0} (host : Host C R) (world : World C) (lists : List (List (Turn C R))) (pasts : List (List (List (Turn C R)))) : Type 0 where
  pub told : AreTold host false world (epoch_of host world) (λ i. epoch_of host world) lists pasts
  pub events : round_events (λ i. epoch_of host world) (length world.workers) (epoch_of host world) (epoch_of host world) (in_one_order (joined lists))
      ≡ replay (in_one_order (joined lists))

abbrev pub PhasesAreRounds : {C R : Type 0} → Host C R → Type 0
PhasesAreRounds {C} {R} host =
    (world : World C) (lists : List (List (Turn C R))) (pasts : List (List (List (Turn C R))))
    → IsSteady host false → IsLevel host world (epoch_of host world) → ArePhaseTold host world lists pasts
    → IsRoundOfOne host world lists pasts
