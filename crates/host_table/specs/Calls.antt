-- What the calls do to a worker's hand.
use Rattle.std.specs.Prelude.{◌≡◌, ◌≢◌, ℕ, suc, ◌<◌, List, [], ◌∷◌, ◌++◌, length, slice_index_or, All, Option, Some, None}
use Rattle.lamport_clocks.specs.declared.stamp.Stamp.{Stamp}
use Rattle.lamport_clocks.specs.Reading.{Reading}
use Rattle.record_text.specs.declared.request.Request.{Request}
use Rattle.atomic_table.specs.Seated.{TableId}
use Rattle.host_shard.specs.declared.content.Content.{Content}
use Rattle.host_plan.specs.declared.plans.Plan.{Plan}
use Rattle.host_epochs.specs.declared.answers.Taking.{Taking}
use Rattle.host_epochs.specs.declared.answers.Taking.TheVariants as taking
use Rattle.host_epochs.specs.declared.hand.Hand.{Hand}
use Rattle.host_epochs.specs.declared.told.Loss.{Loss}
use Rattle.host_epochs.specs.Terms.{clock_of}
use Rattle.host_table.specs.declared.views.Row.{Row}
use Rattle.host_table.specs.declared.told.Service.{Service}
use Rattle.host_table.specs.declared.told.Stop.{Stop}
use Rattle.host_table.specs.declared.answers.Attempt.{Attempt}
use Rattle.host_table.specs.declared.answers.Attempt.TheVariants as attempt
use Rattle.host_table.specs.Hands.{worker_of, services, losses, stop, content, history, IsFree, Holds}
use Rattle.host_table.specs.Terms.{Terms, first_at}
use Rattle.host_table.specs.Told.{IsSame, IsServed, IsStop, Leads, TakesUp}

-- ---- all hands of a table

-- the hands of all workers, in the order of their numbers, and none holds a place
pub record AreAll (z : TableId) (workers : ℕ) (hands : List Hand) : Type 0 where
  pub count : length hands ≡ workers
  pub numbers : (i : ℕ) (d : Hand) → i < length hands → worker_of (slice_index_or hands i d) ≡ i
  pub free : All (IsFree z) hands

-- a worker that has done nothing yet
pub record IsNew (hand : Hand) : Type 0 where
  pub services : services hand ≡ []
  pub losses : losses hand ≡ []
  pub stop : stop hand ≡ None

-- what a hand tells
abbrev pub told_by : Hand → Row
told_by hand = record { list = services hand; stop = stop hand }

-- ---- what a call does

-- It is the same worker's, and has told this much more: services, losses, and where its clock ended.
pub record IsAfter (old new : Hand) (served : List Service) (found : List Loss) (ended : Option Stop) : Type 0 where
  pub worker : worker_of new ≡ worker_of old
  pub services : services new ≡ services old ++ served
  pub losses : losses new ≡ losses old ++ found
  pub stop : stop new ≡ ended

-- one loss more: the place's word was found held, and not by this worker
pub record Loses (old new : Hand) (place : ℕ) : Type 0 where
  pub found : ℕ
  pub held : found ≢ 0
  pub other : found ≢ suc (worker_of old)
  pub after : IsAfter old new [] (record { place = place; found = found } ∷ []) (stop old)

-- A try takes the content of the place, with its history, or finds the word held.
abbrev pub Tries : Terms → TableId → Hand → ℕ → Taking → Hand → Type 0
Tries terms z old place (taking.Taken x) new = IsAfter old new [] [] (stop old) × Holds z new place × (content new ≡ x)
    × Leads terms place (first_at terms place) (history new) x × (worker_of new < terms.workers)
Tries terms z old place taking.Busy new = Loses old new place × IsFree z new

-- ---- to give

-- a clock of the bundle that stands so
abbrev pub clock_at : Terms → Stamp → Reading
clock_at terms stamp = clock_of terms.header stamp

-- the service is what the worker served at the place that it holds: this request, from this clock, to this content
pub record IsServiceOf (terms : Terms) (old : Hand) (place : ℕ) (clock : Reading) (request : Request) (after : Content) (service : Service) : Type 0 where
  pub place_is : service.place ≡ place
  pub worker_is : service.worker ≡ worker_of old
  pub before_is : service.before ≡ content old
  pub clock_is : service.clock ≡ clock
  pub request_is : service.request ≡ request
  pub after_is : service.after ≡ after
  pub served : IsServed terms service

-- What is given back is what was taken; or it is what serving this request makes of it, from the clock that the worker's
-- last service left.
abbrev pub MayGive : Terms → Hand → ℕ → Content → Option (Stamp × Request) → Type 0
MayGive terms old place given None = IsSame (content old) given
MayGive terms old place given (Some served) = (stop old ≡ None) × TakesUp (services old) (clock_at terms served.0)
    × ((service : Service) × IsServiceOf terms old place (clock_at terms served.0) served.1 given service)

abbrev pub Gives : Terms → Hand → ℕ → Content → Option (Stamp × Request) → Hand → Type 0
Gives terms old place given None new = IsAfter old new [] [] (stop old)
Gives terms old place given (Some served) new =
    (service : Service) × IsServiceOf terms old place (clock_at terms served.0) served.1 given service × IsAfter old new (service ∷ []) [] (stop old)

-- ---- to attempt

-- one service more: of this request at this place, from the clock before to the clock after, with this plan
pub record Serves (terms : Terms) (old new : Hand) (place : ℕ) (request : Request) (clock later : Reading) (plan : Plan) : Type 0 where
  pub service : Service
  pub after : IsAfter old new (service ∷ []) [] (stop old)
  pub place_is : service.place ≡ place
  pub worker_is : service.worker ≡ worker_of old
  pub clock_is : service.clock ≡ clock
  pub request_is : service.request ≡ request
  pub plan_is : service.plan ≡ plan
  pub later_is : service.later ≡ later
  pub served : IsServed terms service

-- the clock ended: the worker notes the request and the content, which the place has had
pub record Ends (terms : Terms) (old new : Hand) (place : ℕ) (request : Request) (clock : Reading) : Type 0 where
  pub ended : Stop
  pub after : IsAfter old new [] [] (Some ended)
  pub place_is : ended.place ≡ place
  pub clock_is : ended.clock ≡ clock
  pub request_is : ended.request ≡ request
  pub past : List Service
  pub is : IsStop terms past (services old) ended

-- What an attempt does: it serves, or finds the word held, or its clock ends, or it wants memory. Only the first changes the
-- clock.
abbrev pub Attempts : Terms → Hand → ℕ → Request → Reading → Attempt → Hand → Reading → Type 0
Attempts terms old place request clock (attempt.Served plan) new later = Serves terms old new place request clock later plan
Attempts terms old place request clock attempt.Busy new later = Loses old new place × (later ≡ clock)
Attempts terms old place request clock attempt.ClockEnd new later = Ends terms old new place request clock × (later ≡ clock)
Attempts terms old place request clock attempt.Memory new later = IsAfter old new [] [] (stop old) × (later ≡ clock)
