-- The events of a world: one atomic action of one worker each, when each is enabled, and what it changes.
use Rattle.std.specs.Prelude.{◌≡◌, ◌≢◌, ◌⊎◌, ℕ, suc, ◌+◌, ◌<◌, ◌≤◌, ◌==◌, ◌%◌, max, Bool, true, false, List, [], ◌∷◌, ◌++◌, map, length, get_or, set, slice_get, Option, Some, None, if◌then◌else◌}
use Rattle.std.specs.List.{AllByRecursion}
use Rattle.lamport_clocks.specs.Reading.{Reading}
use Rattle.lamport_clocks.specs.Clock.{last_epoch}
use Rattle.log_codec.specs.declared.command.Command.{Command}
use Rattle.log_codec.specs.declared.command.Command.TheVariants.{NextEpoch}
use Rattle.record_text.specs.declared.element.Element.{Element}
use Rattle.host_core.specs.Host.{Host, Done, asked}
use Rattle.host_core.specs.World.{Place, Worker, Seats, World, unmoved, worker_at, shard_at, scanned_at, epoch_of}
use Rattle.host_core.specs.Deeds.{pending_of}

pub data WorldEvent (Ask : Type 0) : Type 0 where
  -- a worker takes a place
  takes : ℕ → Place → WorldEvent Ask
  -- a worker finds a place held
  loses : ℕ → Place → WorldEvent Ask
  -- a worker serves a request at the place that it holds
  serves : ℕ → Place → Ask → WorldEvent Ask
  -- a worker gives its place back
  gives : ℕ → Place → WorldEvent Ask
  -- a worker advances to the next epoch
  advances : ℕ → WorldEvent Ask
  -- a worker moves a shard
  moves : ℕ → ℕ → WorldEvent Ask
  -- the next phase begins
  opens : WorldEvent Ask
  -- a worker of a rolling host lets all go on to the epoch behind its own
  raises : ℕ → WorldEvent Ask
  -- a worker of a rolling host goes on to the next epoch
  enters : ℕ → WorldEvent Ask
  -- a worker of a rolling host takes a shard of its own into its epoch
  scans : ℕ → Place → WorldEvent Ask
  -- a worker of a rolling host notes that all of its shards are of its epoch
  finishes : ℕ → WorldEvent Ask
  -- a worker of a rolling host stops, its clock having ended by itself or at an element
  stops : ℕ → Option Element → WorldEvent Ask

-- ---- what changes

-- another worker of this number
abbrev pub with_worker : {C : Type 0} → World C → ℕ → Worker → World C
with_worker world i worker = record world { workers = set world.workers i worker }

-- other seats of a shard
abbrev pub with_shard : {C : Type 0} → World C → ℕ → Seats C → World C
with_shard world s shard = record world { shards = set world.shards s shard }

-- these commands join the worker's log, and its clock is then this
abbrev pub logging : Worker → List Command → Reading → Worker
logging worker commands clock = record worker { log = worker.log ++ commands; clock = clock }

-- the worker has served one request more, at this place
abbrev pub having_served : Worker → Place → Worker
having_served worker place = record worker { served = suc worker.served; holds = Some (record { place = place; used = true }) }

-- the worker has scanned the shard at this place
abbrev pub having_scanned : Worker → Place → Worker
having_scanned worker place = record worker { holds = Some (record { place = place; used = true }) }

-- once a request was served, or the worker's clock would have passed its end
abbrev pub after_serve : {C : Type 0} → World C → ℕ → Worker → Place → Seats C → Option (Done C) → World C
after_serve world i worker place shard None = with_worker world i (record worker { stopped = true })
after_serve world i worker place shard (Some done) =
    with_shard (with_worker world i (having_served (logging worker done.commands done.clock) place))
    place.shard (record shard { contents = set shard.contents place.seat done.after })

-- the same of a shard that is moved
abbrev pub after_move : {C : Type 0} → World C → ℕ → Worker → ℕ → Option (Done (List C)) → World C
after_move world i worker s None = with_worker world i (record worker { stuck = true })
after_move world i worker s (Some done) =
    with_shard (with_worker world i (logging worker done.commands done.clock)) s (record { contents = done.after; moved = true })

-- the same of a shard that is scanned at this place
abbrev pub after_scan : {C : Type 0} → World C → ℕ → Worker → Place → Seats C → Option (Done (List C)) → World C
after_scan world i worker place shard None = with_worker world i (record worker { stopped = true })
after_scan world i worker place shard (Some done) =
    with_shard (with_worker world i (having_scanned (logging worker done.commands done.clock) place))
    place.shard (record shard { contents = done.after })

-- the clock of the next epoch
abbrev pub next_clock : Reading → Reading
next_clock clock = record clock { at = record { epoch = clock.at.epoch + 1; counter = 0 } }

abbrev pub after_advance : {C : Type 0} → World C → ℕ → Worker → World C
after_advance world i worker =
    if worker.clock.at.epoch == last_epoch
    then record world { over = true }
    else record (with_worker world i (logging worker (NextEpoch ∷ []) (next_clock worker.clock))) { closing = true }

-- What an event changes.
abbrev pub step : {C R : Type 0} → Host C R → World C → WorldEvent R → World C
step host world (takes i place) =
    with_worker world i (record (worker_at host world i) { holds = Some (record { place = place; used = false }) })
step host world (loses i place) = world
step host world (serves i place request) =
    let worker = worker_at host world i in
    let shard = shard_at world place.shard in
    after_serve world i worker place shard (host.serve i worker.clock (get_or shard.contents place.seat host.vacant) request)
step host world (gives i place) = with_worker world i (record (worker_at host world i) { holds = None })
step host world (advances i) = after_advance world i (worker_at host world i)
step host world (moves i s) =
    let worker = worker_at host world i in
    after_move world i worker s (host.move i worker.clock s (shard_at world s).contents)
step host world opens = record world {
  shards = map (λ shard. unmoved shard.contents) world.shards;
  phase = suc world.phase;
  closing = false;
}
step host world (raises i) = record world { newest = max world.newest (suc (worker_at host world i).clock.at.epoch) }
step host world (enters i) =
    let worker = worker_at host world i in
    with_worker world i (logging worker (NextEpoch ∷ []) (next_clock worker.clock))
step host world (scans i place) =
    let worker = worker_at host world i in
    let shard = shard_at world place.shard in
    after_scan world i worker place shard (host.move i worker.clock place.shard shard.contents)
step host world (finishes i) = record world { scanned = set world.scanned i (worker_at host world i).clock.at.epoch }
step host world (stops i element) = with_worker world i (record (worker_at host world i) { stopped = true })

-- ---- what may happen

-- the place is there
abbrev pub IsPlace : {C : Type 0} → World C → Place → Type 0
IsPlace world place = (place.shard < length world.shards) × (place.seat < length (shard_at world place.shard).contents)

-- the worker holds the place, and has served there since it took it or not
abbrev pub Holds : Worker → Place → Bool → Type 0
Holds worker place used = worker.holds ≡ Some (record { place = place; used = used })

-- no worker holds the place
abbrev pub IsFree : {C R : Type 0} → Host C R → World C → Place → Type 0
IsFree host world place = (i : ℕ) (used : Bool) → i < length world.workers → Holds (worker_at host world i) place used → ⊥

-- another worker holds the place
abbrev pub IsHeldByOther : {C R : Type 0} → Host C R → World C → ℕ → Place → Type 0
IsHeldByOther host world i place =
    (other : ℕ) × (used : Bool) × (other ≢ i) × (other < length world.workers) × Holds (worker_at host world other) place used

-- the next request of a worker, if it is of this phase
abbrev pub IsNext : {C R : Type 0} → Host C R → World C → ℕ → R → Type 0
IsNext host world i request = slice_get (asked host i) (worker_at host world i).served ≡ Some (world.phase, request)

-- what waits there is of no later epoch than this
abbrev pub AreUpTo : ℕ → List Element → Type 0
AreUpTo epoch elements = AllByRecursion (λ element. element.stamp.epoch ≤ epoch) elements

-- what waits there is of this epoch or of a later one
abbrev pub AreFrom : ℕ → List Element → Type 0
AreFrom epoch elements = AllByRecursion (λ element. epoch ≤ element.stamp.epoch) elements

-- the request is the worker's next, its phase has begun in the worker's epoch, and what waits at the place is of no later epoch
pub record IsDue {C R : Type 0} (host : Host C R) (world : World C) (i : ℕ) (place : Place) (request : R) : Type 0 where
  pub phase : ℕ
  pub next : slice_get (asked host i) (worker_at host world i).served ≡ Some (phase, request)
  pub begun : host.header.first + phase ≤ (worker_at host world i).clock.at.epoch
  pub reached : AreUpTo (worker_at host world i).clock.at.epoch (host.pending (get_or (shard_at world place.shard).contents place.seat host.vacant))

-- the worker holds nothing, and is stopped or has served the phase
abbrev pub IsThrough : {C R : Type 0} → Host C R → World C → ℕ → Type 0
IsThrough host world i =
    ((worker_at host world i).holds ≡ None)
    × (((worker_at host world i).stopped ≡ true) ⊎ ((request : _) → IsNext host world i request → ⊥))

-- each worker is through with the phase
abbrev pub IsPhaseOver : {C R : Type 0} → Host C R → World C → Type 0
IsPhaseOver host world = (i : ℕ) → i < length world.workers → IsThrough host world i

-- the close is the last: at the script's end, or behind a phase in which a clock ended
abbrev pub IsLast : {C R : Type 0} → Host C R → World C → Type 0
IsLast host world =
    (length host.script ≤ suc world.phase) ⊎ ((i : ℕ) × (i < length world.workers) × ((worker_at host world i).stopped ≡ true))

-- each shard is moved
abbrev pub AllMoved : {C : Type 0} → World C → Type 0
AllMoved world = (s : ℕ) → s < length world.shards → (shard_at world s).moved ≡ true

-- the worker's clock is so many epochs past the phase's
abbrev pub HasAdvanced : {C R : Type 0} → Host C R → World C → ℕ → ℕ → Type 0
HasAdvanced host world i times = (worker_at host world i).clock.at.epoch ≡ epoch_of host world + times

-- the round is over: no worker is stopped, each has served all that it is asked, and each has scanned its shards in the epoch
-- of the last phase
abbrev pub IsRoundOver : {C R : Type 0} → Host C R → World C → Type 0
IsRoundOver host world = (i : ℕ) → i < length world.workers
    → ((worker_at host world i).stopped ≡ false)
    × (slice_get (asked host i) (worker_at host world i).served ≡ None)
    × (scanned_at host world i ≡ epoch_of host world)

-- the clock of the worker that evicted the element has come to its stamp, as it has for each element that a place has had
pub record HasComeTo {C R : Type 0} (host : Host C R) (world : World C) (element : Element) : Type 0 where
  pub there : element.verifier < length world.workers
  pub come : (element.stamp.epoch < (worker_at host world element.verifier).clock.at.epoch)
      ⊎ ((element.stamp.epoch ≡ (worker_at host world element.verifier).clock.at.epoch)
      × (element.stamp.counter ≤ (worker_at host world element.verifier).clock.at.counter))

-- a clock ends at an element of its epoch: there are not two counters more behind the element's
pub record EndsAtElement {C R : Type 0} (host : Host C R) (world : World C) (clock : Reading) (found : Option Element) : Type 0 where
  pub element : Element
  pub is : found ≡ Some element
  pub of_epoch : element.stamp.epoch ≡ clock.at.epoch
  pub had : HasComeTo host world element
  pub ends : clock.end < element.stamp.counter + 2

-- A clock has ended: there is an epoch to come and no number for it, or there are not two counters more behind its own, or it
-- ends at the element that is named.
abbrev pub HasEnded : {C R : Type 0} → Host C R → World C → Reading → Option Element → Type 0
HasEnded host world clock found =
    ((clock.at.epoch ≡ last_epoch) × (clock.at.epoch < epoch_of host world))
    ⊎ (clock.end < clock.at.counter + 2)
    ⊎ EndsAtElement host world clock found

-- there is such a worker, and it may do something in a phase
pub record IsServing {C R : Type 0} (host : Host C R) (world : World C) (i : ℕ) : Type 0 where
  pub going : world.over ≡ false
  pub phase : world.closing ≡ false
  pub there : i < length world.workers

-- it holds nothing, is not stopped, and the place is free
pub record MayTake {C R : Type 0} (host : Host C R) (world : World C) (i : ℕ) (place : Place) : Type 0 where
  pub serving : IsServing host world i
  pub there : IsPlace world place
  pub free : IsFree host world place
  pub empty : (worker_at host world i).holds ≡ None
  pub running : (worker_at host world i).stopped ≡ false

-- it holds nothing, and another holds the place
pub record MayLose {C R : Type 0} (host : Host C R) (world : World C) (i : ℕ) (place : Place) : Type 0 where
  pub serving : IsServing host world i
  pub held : IsHeldByOther host world i place
  pub empty : (worker_at host world i).holds ≡ None

-- it holds the request's place and has not served there since it took it, and the request is due
pub record MayServe {C R : Type 0} (host : Host C R) (world : World C) (i : ℕ) (place : Place) (request : R) : Type 0 where
  pub serving : IsServing host world i
  pub there : IsPlace world place
  pub holds : Holds (worker_at host world i) place false
  pub due : IsDue host world i place request
  pub owns : host.owns place.shard (shard_at world place.shard).contents place.seat request ≡ true

-- it holds the place
pub record MayGive {C R : Type 0} (host : Host C R) (world : World C) (i : ℕ) (place : Place) : Type 0 where
  pub serving : IsServing host world i
  pub holds : (used : Bool) × Holds (worker_at host world i) place used

-- the phase is over, and in a rolling host the round; in a last close a worker advances a second time, once all shards are moved
pub record MayAdvance {C R : Type 0} (host : Host C R) (world : World C) (i : ℕ) : Type 0 where
  pub going : world.over ≡ false
  pub there : i < length world.workers
  pub through : IsPhaseOver host world
  pub settled : host.rolling ≡ true → IsRoundOver host world
  pub turns : HasAdvanced host world i 0 ⊎ (HasAdvanced host world i 1 × IsLast host world × AllMoved world)

-- it has advanced, the shard is its own, and it has moved those of its own before
pub record MayMove {C R : Type 0} (host : Host C R) (world : World C) (i s : ℕ) : Type 0 where
  pub going : world.over ≡ false
  pub closing : world.closing ≡ true
  pub there : i < length world.workers
  pub shard : s < length world.shards
  pub turned : HasAdvanced host world i 1
  pub running : (worker_at host world i).stuck ≡ false
  pub own : s % length world.workers ≡ i
  pub still : (shard_at world s).moved ≡ false
  pub in_order : (t : ℕ) → t < s → t % length world.workers ≡ i → (shard_at world t).moved ≡ true

-- all have advanced, all shards are moved, and the close is not the last
pub record MayOpen {C R : Type 0} (host : Host C R) (world : World C) : Type 0 where
  pub going : world.over ≡ false
  pub through : IsPhaseOver host world
  pub turned : (i : ℕ) → i < length world.workers → HasAdvanced host world i 1
  pub moved : AllMoved world
  pub more : IsLast host world → ⊥

-- the host is rolling, and the worker is not stopped in its round
pub record IsRolling {C R : Type 0} (host : Host C R) (world : World C) (i : ℕ) : Type 0 where
  pub serving : IsServing host world i
  pub rolling : host.rolling ≡ true
  pub running : (worker_at host world i).stopped ≡ false

-- there is an epoch to come behind its own, and each worker has scanned its shards in an epoch that is not before its own
pub record MayRaise {C R : Type 0} (host : Host C R) (world : World C) (i : ℕ) : Type 0 where
  pub rolling : IsRolling host world i
  pub wanted : (worker_at host world i).clock.at.epoch < epoch_of host world
  pub more : (worker_at host world i).clock.at.epoch < last_epoch
  pub scanned : (j : ℕ) → j < length world.workers → (worker_at host world i).clock.at.epoch ≤ scanned_at host world j

-- the newest epoch is past its own
pub record MayEnter {C R : Type 0} (host : Host C R) (world : World C) (i : ℕ) : Type 0 where
  pub rolling : IsRolling host world i
  pub newer : (worker_at host world i).clock.at.epoch < world.newest
  pub more : (worker_at host world i).clock.at.epoch < last_epoch

-- it holds the shard's first place, and has not served there since it took it; the shard is its own, and all that waits there is
-- of an epoch before its own
pub record MayScan {C R : Type 0} (host : Host C R) (world : World C) (i : ℕ) (place : Place) : Type 0 where
  pub rolling : IsRolling host world i
  pub shard : place.shard < length world.shards
  pub first : place.seat ≡ 0
  pub holds : Holds (worker_at host world i) place false
  pub own : place.shard % length world.workers ≡ i
  pub before : ℕ
  pub turned : (worker_at host world i).clock.at.epoch ≡ suc before
  pub earlier : AreUpTo before (pending_of host (shard_at world place.shard).contents)

-- nothing in its shards waits in an earlier epoch than its own
pub record MayFinish {C R : Type 0} (host : Host C R) (world : World C) (i : ℕ) : Type 0 where
  pub rolling : IsRolling host world i
  pub reached : (s : ℕ) → s < length world.shards → s % length world.workers ≡ i
      → AreFrom (worker_at host world i).clock.at.epoch (pending_of host (shard_at world s).contents)

-- its clock has ended
pub record MayStop {C R : Type 0} (host : Host C R) (world : World C) (i : ℕ) (found : Option Element) : Type 0 where
  pub rolling : IsRolling host world i
  pub ended : HasEnded host world (worker_at host world i).clock found

-- What may happen.
abbrev pub IsEnabled : {C R : Type 0} → Host C R → World C → WorldEvent R → Type 0
IsEnabled host world (takes i place) = MayTake host world i place
IsEnabled host world (loses i place) = MayLose host world i place
IsEnabled host world (serves i place request) = MayServe host world i place request
IsEnabled host world (gives i place) = MayGive host world i place
IsEnabled host world (advances i) = MayAdvance host world i
IsEnabled host world (moves i s) = MayMove host world i s
IsEnabled host world opens = MayOpen host world
IsEnabled host world (raises i) = MayRaise host world i
IsEnabled host world (enters i) = MayEnter host world i
IsEnabled host world (scans i place) = MayScan host world i place
IsEnabled host world (finishes i) = MayFinish host world i
IsEnabled host world (stops i found) = MayStop host world i found

-- each of these events is enabled behind those before it
abbrev pub AreEnabled : {C R : Type 0} → Host C R → World C → List (WorldEvent R) → Type 0
AreEnabled host world [] = Unit {0}
AreEnabled host world (event ∷ events) = IsEnabled host world event × AreEnabled host (step host world event) events

-- The world behind events.
abbrev pub run_events : {C R : Type 0} → Host C R → World C → List (WorldEvent R) → World C
run_events host world [] = world
run_events host world (event ∷ events) = run_events host (step host world event) events
