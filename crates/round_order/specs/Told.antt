-- A round as its workers and its places tell it, and the one list of events that it was. A phase is a round of one epoch.
use Rattle.record_text.specs.declared.element.Element.{Element}
use Rattle.std.specs.Prelude.{◌≡◌, ℕ, zero, suc, ◌-◌, ◌<◌, ◌≤◌, ◌%◌, true, false, List, [], ◌∷◌, ◌++◌, length, get_or, nat_lt, Option, None, Some, if◌then◌else◌, ◌≢◌, ◌⊎◌, ◌==◌, ◌||◌, slice_get, Bool, ◌+◌}
use Rattle.std.specs.List.{flat_map, AllByRecursion}
use Rattle.std.specs.List.Sorted.{IsPermutation}
use Rattle.lamport_clocks.specs.Clock.{last_epoch}
use Rattle.lamport_clocks.specs.Reading.{Reading}
use Rattle.host_core.specs.Host.{Host, asked}
use Rattle.host_core.specs.World.{Place, World, worker_at, shard_at, scanned_at, epoch_of}
use Rattle.host_core.specs.WorldEvent.{WorldEvent, takes, serves, gives, raises, enters, finishes, stops, IsPhaseOver, IsRoundOver, IsPlace, AreUpTo, AreEnabled, run_events, AreFrom}
use Rattle.host_core.specs.WorldEvent as machine
use Rattle.host_core.specs.Deeds.{pending_of}
use Rattle.round_order.specs.Turn.{Turn, IsPlaceChain, IsWorkerChain, content_behind, clock_behind, served_behind, logged, on_to, content_at, in_one_order}
use Rattle.round_order.specs.Steady.{HasOne, scanned_done, IsSteady}

-- ---- what is told

-- the lists of all workers joined
abbrev pub joined : {C R : Type 0} → List (List (Turn C R)) → List (Turn C R)
joined lists = flat_map (λ turns. turns) lists

-- the pasts of all places joined, shard by shard
abbrev pub joined_pasts : {C R : Type 0} → List (List (List (Turn C R))) → List (Turn C R)
joined_pasts pasts = flat_map joined pasts

abbrev pub list_of : {C R : Type 0} → List (List (Turn C R)) → ℕ → List (Turn C R)
list_of lists i = get_or lists i []

abbrev pub past_of : {C R : Type 0} → List (List (List (Turn C R))) → Place → List (Turn C R)
past_of pasts place = get_or (get_or pasts place.shard []) place.seat []

-- the contents of a shard's other seats than the first
abbrev pub others_in : {C : Type 0} → List C → List C
others_in [] = []
others_in (content ∷ contents) = contents

-- the contents of a shard's other seats
abbrev pub others_at : {C : Type 0} → World C → ℕ → List C
others_at world s = others_in (shard_at world s).contents

module _ {C R : Type 0} (host : Host C R) (world : World C) where
  -- no place is held, and all clocks and all that waits are of one epoch
  pub record IsLevel (epoch : ℕ) : Type 0 where
    pub going : world.over ≡ false
    pub phase : world.closing ≡ false
    pub idle : (i : ℕ) → i < length world.workers → (worker_at host world i).holds ≡ None
    pub clocks : (i : ℕ) → i < length world.workers → (worker_at host world i).clock.at.epoch ≡ epoch
    pub waits : (s : ℕ) → s < length world.shards → AllByRecursion (λ element. element.stamp.epoch ≡ epoch) (pending_of host (shard_at world s).contents)

  -- a world from which workers go on from this epoch up to another
  pub record CanRoll (epoch top : ℕ) : Type 0 where
    pub rolling : host.rolling ≡ true
    pub newest : world.newest ≡ epoch
    pub within : top ≤ epoch_of host world
    pub last : top ≤ last_epoch
    pub marks : length world.scanned ≡ length world.workers
    pub some : 0 < length world.workers
    pub running : (i : ℕ) → i < length world.workers → (worker_at host world i).stopped ≡ false

module _ {C R : Type 0} (host : Host C R) (scans : Bool) (world : World C) where
  -- a scan is at the first place of a shard of the worker's own, at whose other places nothing waits, of an element of an epoch
  -- before the worker's
  pub record IsScan (turn : Turn C R) : Type 0 where
    pub rolling : host.rolling ≡ true
    pub scanned : scans ≡ true
    pub first : turn.place.seat ≡ 0
    pub own : turn.place.shard % length world.workers ≡ turn.worker
    pub alone : pending_of host (others_at world turn.place.shard) ≡ []
    pub waits : HasOne host turn.before
    pub before : ℕ
    pub turned : turn.clock.at.epoch ≡ suc before
    pub earlier : AreUpTo before (host.pending turn.before)
    pub moves : host.move turn.worker turn.clock turn.place.shard (turn.before ∷ others_at world turn.place.shard)
        ≡ Some (scanned_done (others_at world turn.place.shard) turn.done)

  -- what the host does for the request at a place that owns it, or for a scan
  abbrev pub IsDid : Turn C R → Option R → Type 0
  IsDid turn None = IsScan turn
  IsDid turn (Some request) =
      (host.owns turn.place.shard (shard_at world turn.place.shard).contents turn.place.seat request ≡ true)
      × (host.serve turn.worker turn.clock turn.before request ≡ Some turn.done)

  -- the worker runs, the place is there, what waits there is of its epoch or of the one before, and it does what the host does;
  -- where places are scanned it is the first of its shard
  pub record IsTaken (turn : Turn C R) : Type 0 where
    pub there : turn.worker < length world.workers
    pub at : IsPlace world turn.place
    pub running : (worker_at host world turn.worker).stopped ≡ false
    pub reached : AreUpTo turn.clock.at.epoch (host.pending turn.before)
    pub near : AllByRecursion (λ element. turn.clock.at.epoch ≤ suc element.stamp.epoch) (host.pending turn.before)
    pub alone : scans ≡ true → turn.place.seat ≡ 0
    pub did : IsDid turn turn.request

  -- Each worker's list is chained from its clock, each place's past from its content, and the lists have the turns of the pasts.
  -- At the end each worker is in the newest epoch or in the one before, and so is what waits at each place.
  pub record AreTold (top : ℕ) (finals : ℕ → ℕ) (lists : List (List (Turn C R))) (pasts : List (List (List (Turn C R)))) : Type 0 where
    pub taken : AllByRecursion IsTaken (joined lists)
    pub same : IsPermutation (joined lists) (joined_pasts pasts)
    pub own_worker : (i : ℕ) → AllByRecursion (λ turn. turn.worker ≡ i) (list_of lists i)
    pub own_place : (place : Place) → AllByRecursion (λ turn. turn.place ≡ place) (past_of pasts place)
    pub workers : (i : ℕ) → IsWorkerChain host i (worker_at host world i).clock (worker_at host world i).served (list_of lists i)
    pub places : (place : Place) → IsPlaceChain (content_at host world place) (past_of pasts place)
    pub final : (i : ℕ) → i < length world.workers
        → ((clock_behind (worker_at host world i).clock (list_of lists i)).at.epoch ≤ finals i) × (finals i ≤ top) × (top ≤ suc (finals i))
    pub ends : (place : Place) → IsPlace world place
        → AllByRecursion (λ element. top ≤ suc element.stamp.epoch) (host.pending (content_behind (content_at host world place) (past_of pasts place)))

-- ---- the events

-- so many workers note that their shards are of their epoch, from one on
abbrev pub finishes_from : {R : Type 0} → ℕ → ℕ → List (WorldEvent R)
finishes_from i zero = []
finishes_from i (suc count) = finishes i ∷ finishes_from (suc i) count

-- and those of them go on that are to be in a later epoch than this at the end
abbrev pub enters_from : {R : Type 0} → (ℕ → ℕ) → ℕ → ℕ → ℕ → List (WorldEvent R)
enters_from finals epoch i zero = []
enters_from finals epoch i (suc count) =
    if nat_lt epoch (finals i) then enters i ∷ enters_from finals epoch (suc i) count else enters_from finals epoch (suc i) count

-- from an epoch to the next
abbrev pub step_up : {R : Type 0} → (ℕ → ℕ) → ℕ → ℕ → List (WorldEvent R)
step_up finals workers epoch = finishes_from 0 workers ++ (raises 0 ∷ enters_from finals epoch 0 workers)

-- so many times
abbrev pub climb : {R : Type 0} → (ℕ → ℕ) → ℕ → ℕ → ℕ → List (WorldEvent R)
climb finals workers epoch zero = []
climb finals workers epoch (suc count) = step_up finals workers epoch ++ climb finals workers (suc epoch) count

-- a serve or a scan
abbrev pub act_of : {C R : Type 0} → Turn C R → Option R → WorldEvent R
act_of turn None = machine.scans turn.worker turn.place
act_of turn (Some request) = serves turn.worker turn.place request

-- a take, a serve or a scan, and a give
abbrev pub done_events : {C R : Type 0} → Turn C R → List (WorldEvent R)
done_events turn = takes turn.worker turn.place ∷ act_of turn turn.request ∷ gives turn.worker turn.place ∷ []

-- The turns as they stand, and before each and at the end the epochs that the workers go on by, where they first become due.
abbrev pub round_events : {C R : Type 0} → (ℕ → ℕ) → ℕ → ℕ → ℕ → List (Turn C R) → List (WorldEvent R)
round_events finals workers top epoch [] = climb finals workers epoch (top - epoch)
round_events finals workers top epoch (turn ∷ turns) =
    climb finals workers epoch (turn.clock.at.epoch - epoch)
    ++ (done_events turn ++ round_events finals workers top turn.clock.at.epoch turns)

-- ---- where they lead

-- The later world has the last contents and the last clocks, and each worker has logged its commands and the epochs that it went on by.
pub record EndsWith {C R : Type 0} (host : Host C R) (world later : World C) (top : ℕ) (finals : ℕ → ℕ) (lists : List (List (Turn C R)))
    (pasts : List (List (List (Turn C R)))) : Type 0 where
  pub contents : (place : Place) → content_at host later place ≡ content_behind (content_at host world place) (past_of pasts place)
  pub logs : (i : ℕ) → i < length world.workers
      → (worker_at host later i).log ≡ (worker_at host world i).log ++ logged (finals i) (worker_at host world i).clock (list_of lists i)
  pub clocks : (i : ℕ) → i < length world.workers
      → (worker_at host later i).clock ≡ on_to (finals i) (clock_behind (worker_at host world i).clock (list_of lists i))
  pub served : (i : ℕ) → (worker_at host later i).served ≡ served_behind (worker_at host world i).served (list_of lists i)
  pub stuck : (i : ℕ) → (worker_at host later i).stuck ≡ (worker_at host world i).stuck
  pub idle : (i : ℕ) → i < length world.workers → (worker_at host later i).holds ≡ None
  pub counts : (length later.workers ≡ length world.workers) × (length later.shards ≡ length world.shards) × (length later.scanned ≡ length world.scanned)
  pub phase : (later.phase ≡ world.phase) × (later.closing ≡ false) × (later.over ≡ false)

-- From this epoch on the newest came to the top, and each worker noted that its shards are of the epoch before that; or none went on.
pub record IsRaised {C R : Type 0} (host : Host C R) (world later : World C) (epoch top : ℕ) : Type 0 where
  pub still : epoch ≡ top → (later.newest ≡ world.newest) × (later.scanned ≡ world.scanned)
  pub newest : epoch < top → later.newest ≡ top
  pub marks : epoch < top → (i : ℕ) → i < length world.workers → suc (scanned_at host later i) ≡ top

-- What is told of a round was one list of enabled events, which ends where all is as it is told and stops no worker.
pub record HasOneOrder {C R : Type 0} (host : Host C R) (world : World C) (epoch top : ℕ) (finals : ℕ → ℕ) (lists : List (List (Turn C R)))
    (pasts : List (List (List (Turn C R)))) : Type 0 where
  pub enabled : AreEnabled host world (round_events finals (length world.workers) top epoch (in_one_order (joined lists)))
  pub ends : EndsWith host world (run_events host world (round_events finals (length world.workers) top epoch (in_one_order (joined lists)))) top finals lists pasts
  pub stopped : (i : ℕ) → (worker_at host (run_events host world (round_events finals (length world.workers) top epoch (in_one_order (joined lists)))) i).stopped
      ≡ (worker_at host world i).stopped
  pub raised : IsRaised host world (run_events host world (round_events finals (length world.workers) top epoch (in_one_order (joined lists)))) epoch top

-- It is so wherever the workers' lists and the places' pasts are of a world that is level.
abbrev pub OrdersRound : {C R : Type 0} → Host C R → Type 0
OrdersRound {C} {R} host =
    (scans : Bool) (world : World C) (epoch top : ℕ) (finals : ℕ → ℕ) (lists : List (List (Turn C R))) (pasts : List (List (List (Turn C R))))
    → IsSteady host scans → IsLevel host world epoch → epoch ≤ top → (epoch < top → CanRoll host world epoch top)
    → AreTold host scans world top finals lists pasts
    → HasOneOrder host world epoch top finals lists pasts

-- ---- how a round ends

-- a worker's clock behind its turns, in the last epoch that it comes to
abbrev pub final_clock : {C R : Type 0} → Host C R → World C → (ℕ → ℕ) → List (List (Turn C R)) → ℕ → Reading
final_clock host world finals lists i = on_to (finals i) (clock_behind (worker_at host world i).clock (list_of lists i))

-- Each worker came to the epoch of the last phase and served all that it is asked, and so did all that waits.
pub record IsWholeRound {C R : Type 0} (host : Host C R) (world : World C) (top : ℕ) (finals : ℕ → ℕ) (lists : List (List (Turn C R)))
    (pasts : List (List (List (Turn C R)))) : Type 0 where
  pub rolling : host.rolling ≡ true
  pub last : top ≡ epoch_of host world
  pub come : (i : ℕ) → i < length world.workers → finals i ≡ top
  pub served : (i : ℕ) → i < length world.workers → slice_get (asked host i) (served_behind (worker_at host world i).served (list_of lists i)) ≡ None
  pub reached : (place : Place) → IsPlace world place → AreFrom top (host.pending (content_behind (content_at host world place) (past_of pasts place)))
  pub running : (i : ℕ) → i < length world.workers → (worker_at host world i).stopped ≡ false
  pub marks : length world.scanned ≡ length world.workers

-- the turns, the epochs between them, and at the end all note that their shards are of the last
abbrev pub whole_events : {C R : Type 0} → World C → (ℕ → ℕ) → ℕ → ℕ → List (List (Turn C R)) → List (WorldEvent R)
whole_events world finals top epoch lists =
    round_events finals (length world.workers) top epoch (in_one_order (joined lists)) ++ finishes_from 0 (length world.workers)

-- Then the round is over, and so is the phase, and a close may follow.
pub record EndsWhole {C R : Type 0} (host : Host C R) (world : World C) (epoch top : ℕ) (finals : ℕ → ℕ) (lists : List (List (Turn C R)))
    (pasts : List (List (List (Turn C R)))) : Type 0 where
  pub enabled : AreEnabled host world (whole_events world finals top epoch lists)
  pub ends : EndsWith host world (run_events host world (whole_events world finals top epoch lists)) top finals lists pasts
  pub over : IsRoundOver host (run_events host world (whole_events world finals top epoch lists))
  pub through : IsPhaseOver host (run_events host world (whole_events world finals top epoch lists))

-- a worker that stopped, and the element that stood in its way, if any
pub record RoundStop : Type 0 where
  pub worker : ℕ
  pub found : Option Element

-- an element of a clock's epoch behind which there are not two counters more, of a worker whose last clock has come to its stamp
pub record IsInTheWay {C R : Type 0} (host : Host C R) (world : World C) (finals : ℕ → ℕ) (lists : List (List (Turn C R))) (clock : Reading) (found : Option Element) : Type 0 where
  pub element : Element
  pub is : found ≡ Some element
  pub of_epoch : element.stamp.epoch ≡ clock.at.epoch
  pub there : element.verifier < length world.workers
  pub come : (element.stamp.epoch < (final_clock host world finals lists element.verifier).at.epoch)
      ⊎ ((element.stamp.epoch ≡ (final_clock host world finals lists element.verifier).at.epoch)
      × (element.stamp.counter ≤ (final_clock host world finals lists element.verifier).at.counter))
  pub ends : clock.end < element.stamp.counter + 2

-- the worker's last clock has ended: there is no number for an epoch to come, or there are not two counters more
pub record IsStopTold {C R : Type 0} (host : Host C R) (world : World C) (finals : ℕ → ℕ) (lists : List (List (Turn C R))) (stop : RoundStop) : Type 0 where
  pub rolling : host.rolling ≡ true
  pub there : stop.worker < length world.workers
  pub running : (worker_at host world stop.worker).stopped ≡ false
  pub ended : let clock = final_clock host world finals lists stop.worker in
      ((clock.at.epoch ≡ last_epoch) × (clock.at.epoch < epoch_of host world))
      ⊎ (clock.end < clock.at.counter + 2)
      ⊎ IsInTheWay host world finals lists clock stop.found

-- each is of another worker
abbrev pub AreOfOthers : List RoundStop → Type 0
AreOfOthers [] = Unit {0}
AreOfOthers (stop ∷ list) = AllByRecursion (λ other. stop.worker ≢ other.worker) list × AreOfOthers list

abbrev pub stop_events : {R : Type 0} → List RoundStop → List (WorldEvent R)
stop_events [] = []
stop_events (stop ∷ list) = stops stop.worker stop.found ∷ stop_events list

-- one of them is of this worker
abbrev pub stops_by : ℕ → List RoundStop → Bool
stops_by i [] = false
stops_by i (stop ∷ list) = stop.worker == i || stops_by i list

abbrev pub stopped_events : {C R : Type 0} → World C → (ℕ → ℕ) → ℕ → ℕ → List (List (Turn C R)) → List RoundStop → List (WorldEvent R)
stopped_events world finals top epoch lists list =
    round_events finals (length world.workers) top epoch (in_one_order (joined lists)) ++ stop_events list

-- Where clocks ended, the stops stand behind the turns, as they stand.
pub record EndsStopped {C R : Type 0} (host : Host C R) (world : World C) (epoch top : ℕ) (finals : ℕ → ℕ) (lists : List (List (Turn C R)))
    (pasts : List (List (List (Turn C R)))) (list : List RoundStop) : Type 0 where
  pub enabled : AreEnabled host world (stopped_events world finals top epoch lists list)
  pub ends : EndsWith host world (run_events host world (stopped_events world finals top epoch lists list)) top finals lists pasts
  pub stopped : (i : ℕ) → i < length world.workers
      → (worker_at host (run_events host world (stopped_events world finals top epoch lists list)) i).stopped ≡ ((worker_at host world i).stopped || stops_by i list)
  pub raised : IsRaised host world (run_events host world (stopped_events world finals top epoch lists list)) epoch top

-- It is so of whatever is told.
abbrev pub EndsRounds : {C R : Type 0} → Host C R → Type 0
EndsRounds {C} {R} host =
    (scans : Bool) (world : World C) (epoch top : ℕ) (finals : ℕ → ℕ) (lists : List (List (Turn C R))) (pasts : List (List (List (Turn C R))))
    → IsSteady host scans → IsLevel host world epoch → epoch ≤ top → (epoch < top → CanRoll host world epoch top)
    → AreTold host scans world top finals lists pasts
    → (IsWholeRound host world top finals lists pasts → EndsWhole host world epoch top finals lists pasts)
    × ((list : List RoundStop) → AllByRecursion (IsStopTold host world finals lists) list → AreOfOthers list
    → EndsStopped host world epoch top finals lists pasts list)
