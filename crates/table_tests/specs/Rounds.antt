-- Workers of a round in their threads.
use Rattle.std.specs.Prelude.{◌≡◌, ℕ, suc, ◌+◌, ◌<◌, ◌≤◌, List, length, slice_index_or, All, None}
use Rattle.lamport_clocks.specs.Clock.{last_epoch}
use Rattle.lamport_clocks.specs.Reading.{Reading}
use Rattle.atomic_table.specs.Seated.{TableId}
use Rattle.host_shard.specs.declared.content.Content.{Content}
use Rattle.host_epochs.specs.declared.hand.Hand.{Hand}
use Rattle.host_epochs.specs.Calls.{HasReached}
use Rattle.host_epochs.specs.Hands.{worker_of, row_of, entries, stop, entered, done, left, seen, content, IsFree, Holds}
use Rattle.host_epochs.specs.Terms.{Terms, IsNear, first_epoch, place_count}
use Rattle.host_epochs.specs.Told.{IsClockBehind}
use Rattle.table_tests.specs.declared.round_workers.RoundEnd.TheVariants.{Going}
use Rattle.table_tests.specs.declared.round_workers.RoundWorker.{RoundWorker}

-- so many places and workers, and so many epochs more, which are few
pub record IsShape (terms : Terms) (places workers more : ℕ) : Type 0 where
  pub places_are : places ≡ place_count terms
  pub workers_are : workers ≡ terms.workers
  pub more_are : more ≡ terms.more
  pub few : first_epoch terms + more < last_epoch

-- it has not stopped, and this is its clock
pub record IsGoing (terms : Terms) (hand : Hand) (clock : Reading) : Type 0 where
  pub going : stop hand ≡ None
  pub behind : IsClockBehind terms (entries hand) (entered hand) clock

-- it knows its numbers, and how many epochs it entered; as long as it goes on it has a clock
pub record IsOf (terms : Terms) (worker : RoundWorker) : Type 0 where
  pub counted : worker.entered ≡ entered worker.hand
  pub known : worker_of worker.hand < terms.workers
  pub started : terms.header.first ≤ first_epoch terms
  pub going : worker.end ≡ Going → IsGoing terms worker.hand worker.clock

-- and it holds nothing
pub record IsWorkerOf (terms : Terms) (table : TableId) (worker : RoundWorker) : Type 0 where
  pub free : IsFree table worker.hand
  pub of : IsOf terms worker

-- the same worker, which noted more, in the same epoch
pub record Stays (old new : RoundWorker) : Type 0 where
  pub worker : worker_of new.hand ≡ worker_of old.hand
  pub entered_is : entered new.hand ≡ entered old.hand
  pub done_is : done new.hand ≡ done old.hand
  pub left_more : (place least : ℕ) → HasReached (left old.hand) place least → HasReached (left new.hand) place least
  pub seen_more : (worker least : ℕ) → HasReached (seen old.hand) worker least → HasReached (seen new.hand) worker least

pub record GoesOn (terms : Terms) (table : TableId) (old new : RoundWorker) : Type 0 where
  pub is : IsWorkerOf terms table new
  pub stays : Stays old new

-- it holds a place with this content
pub record Has (terms : Terms) (table : TableId) (place : ℕ) (x : Content) (worker : RoundWorker) : Type 0 where
  pub holds : Holds table worker.hand place
  pub content_is : content worker.hand ≡ x
  pub near : IsNear terms (entered worker.hand) (done worker.hand) x
  pub scanning : done worker.hand < entered worker.hand
  pub of : IsOf terms worker
  pub going : worker.end ≡ Going

pub record HasTaken (terms : Terms) (table : TableId) (place : ℕ) (x : Content) (old new : RoundWorker) : Type 0 where
  pub holds : Holds table new.hand place
  pub content_is : content new.hand ≡ x
  pub near : IsNear terms (entered new.hand) (done new.hand) x
  pub of : IsOf terms new
  pub going : new.end ≡ Going
  pub stays : Stays old new

-- the place was given back with an element of the worker's epoch
pub record HasScanned (terms : Terms) (place : ℕ) (worker : RoundWorker) : Type 0 where
  pub going : worker.end ≡ Going
  pub reached : HasReached (left worker.hand) place (first_epoch terms + entered worker.hand)

-- all workers were seen to be through with the worker's epoch
abbrev pub HasSeenAll : Terms → Hand → Type 0
HasSeenAll terms hand = (worker : ℕ) → worker < terms.workers → HasReached (seen hand) worker (entered hand)

-- there is one more epoch to enter
pub record HasMore (terms : Terms) (hand : Hand) : Type 0 where
  pub more : entered hand < terms.more
  pub room : first_epoch terms + entered hand < last_epoch

-- the clock turned
pub record HasTurned (old new : RoundWorker) : Type 0 where
  pub hand_is : new.hand ≡ old.hand
  pub end_is : new.end ≡ old.end
  pub counted : new.entered ≡ old.entered + 1
  pub clock_is : new.clock ≡ record (old.clock) { at = record { epoch = old.clock.at.epoch + 1; counter = 0 } }

-- it entered one epoch more
pub record HasEntered (old new : RoundWorker) : Type 0 where
  pub going : new.end ≡ Going
  pub entered_is : entered new.hand ≡ suc (entered old.hand)
  pub done_is : done new.hand ≡ done old.hand

-- the same worker, still of the round
pub record Works (terms : Terms) (table : TableId) (old new : RoundWorker) : Type 0 where
  pub is : IsWorkerOf terms table new
  pub worker : worker_of new.hand ≡ worker_of old.hand

-- ---- all workers

abbrev pub hand_in : RoundWorker → Hand
hand_in worker = worker.hand

-- a worker before its first epoch
pub record IsNewWorker (clock : Reading) (worker : RoundWorker) : Type 0 where
  pub at : worker.clock ≡ clock
  pub counted : worker.entered ≡ 0
  pub going : worker.end ≡ Going

-- it goes on, and is through with its epoch
pub record IsReadyWorker (terms : Terms) (table : TableId) (worker : RoundWorker) : Type 0 where
  pub is : IsWorkerOf terms table worker
  pub going : worker.end ≡ Going
  pub through : done worker.hand ≡ entered worker.hand

-- what a worker asks of its part
pub record CanWorkRound (terms : Terms) (table : TableId) (places workers more : ℕ) (worker : RoundWorker) : Type 0 where
  pub shape : IsShape terms places workers more
  pub ready : IsReadyWorker terms table worker

-- all workers at the start of a round, in the order of their numbers
pub record AreAtStart (terms : Terms) (table : TableId) (workers : List RoundWorker) : Type 0 where
  pub each : All (IsReadyWorker terms table) workers
  pub numbers : (i : ℕ) (d : RoundWorker) → i < length workers → worker_of (slice_index_or workers i d).hand ≡ i
  pub count : length workers ≡ terms.workers

-- and at its end
pub record AreRoundWorkers (terms : Terms) (table : TableId) (workers : List RoundWorker) : Type 0 where
  pub each : All (IsWorkerOf terms table) workers
  pub numbers : (i : ℕ) (d : RoundWorker) → i < length workers → worker_of (slice_index_or workers i d).hand ≡ i
