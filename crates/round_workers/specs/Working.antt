-- A worker in its thread: before its part of a round, in the middle of it, and behind it.
use Rattle.std.specs.Prelude.{◌≡◌, ℕ, ◌<◌, true, false, List, [], ◌∷◌, get_or, None}
use Rattle.record_hash.specs.Functions.{DigestFunctions}
use Rattle.record_text.specs.declared.request.Request.{Request}
use Rattle.worker_log.specs.Logged.{text_of}
use Rattle.atomic_table.specs.Seated.{TableId}
use Rattle.host_core.specs.World as machine
use Rattle.host_epochs.specs.declared.hand.Hand.{Hand}
use Rattle.host_epochs.specs.Calls.{IsNew}
use Rattle.host_epochs.specs.Hands.{worker_of, row_of, entries, entered, done, stop, warned, IsFree}
use Rattle.host_epochs.specs.Table.{table, terms}
use Rattle.host_epochs.specs.Terms.{Terms, IsClockOf, first_epoch}
use Rattle.host_epochs.specs.Told.{IsClockBehind}
use Rattle.host_world.specs.Workers.{shown_worker, writer_in}
use Rattle.verifier_feeds.specs.Feeds.{sent_bytes, HasSentFrontOf, KeepsPlace, SameOutbox}
use Rattle.round_workers.specs.declared.turn.Turn.{Turn}
use Rattle.round_workers.specs.declared.shared_round.SharedRound.{SharedRound}
use Rattle.round_workers.specs.declared.worker_thread.WorkerThread.{WorkerThread}
use Rattle.round_workers.specs.Order.{CallsFor}
use Rattle.round_workers.specs.Parts.{asked_in, HasDone, HasDoneUpTo}
use Rattle.round_workers.specs.Sharing.{turns_in, IsSharedRound}

-- ---- before it and behind it

-- A worker before the round: it runs, its clock stands in the epoch of the making, its hand has done nothing, and it has sent
-- nothing yet.
pub record IsReady (terms : Terms) (table : TableId) (thread : WorkerThread) : Type 0 where
  pub free : IsFree table thread.hand
  pub new : IsNew thread.hand
  pub begun : thread.entered ≡ 0
  pub running : thread.worker.stopped ≡ false
  pub clock : IsClockOf terms thread.worker.clock
  pub epoch : thread.worker.clock.at.epoch ≡ first_epoch terms
  pub empty : sent_bytes thread.outbox ≡ []
  pub place : KeepsPlace thread.outbox
  pub number : worker_of thread.hand < terms.workers

-- A worker behind it: its log has the writer that it had, and where memory was not wanting it has done its part.
pub record IsThrough (terms : Terms) (table : TableId) (turns : List (List Turn)) (old new : WorkerThread) : Type 0 where
  pub free : IsFree table new.hand
  pub number : worker_of new.hand ≡ worker_of old.hand
  pub writer : writer_in new.worker ≡ writer_in old.worker
  pub part : new.wanting ≡ false
      → HasDone terms (asked_in (get_or turns (worker_of old.hand) [])) (row_of new.hand)
      (shown_worker old.worker) (shown_worker new.worker)

-- What its outbox has sent is a front of its log. Where memory was not wanting all of the log is written.
pub record HasSent (old new : WorkerThread) : Type 0 where
  pub front : HasSentFrontOf new.outbox (text_of new.worker.log)
  pub settled : new.wanting ≡ false → new.worker.log.settled ≡ true
  pub lane : SameOutbox old.outbox new.outbox

-- what a worker asks of what it has in its thread
pub record CanServe {D : Type 0} (functions : D → DigestFunctions) (shared : SharedRound D) (thread : WorkerThread) : Type 0 where
  pub shared_is : IsSharedRound functions shared
  pub ready : IsReady (terms functions shared.epochs.now) (table shared.epochs.now) thread

-- ---- in the middle of it

-- What it has sent is a front of its log, and there is a place for its last parcel.
pub record IsSending (thread : WorkerThread) : Type 0 where
  pub front : HasSentFrontOf thread.outbox (text_of thread.worker.log)
  pub place : KeepsPlace thread.outbox

-- the same worker, the same end of a lane, and the same writer of its log
pub record GoesOnAs (old new : WorkerThread) : Type 0 where
  pub number : worker_of new.hand ≡ worker_of old.hand
  pub writer : writer_in new.worker ≡ writer_in old.worker
  pub lane : SameOutbox old.outbox new.outbox

-- It did not stop, its clock is behind what it did, in the last epoch that it entered, and it knows how many it entered.
pub record IsRunning (terms : Terms) (thread : WorkerThread) : Type 0 where
  pub known : worker_of thread.hand < terms.workers
  pub counted : thread.entered ≡ entered thread.hand
  pub behind : IsClockBehind terms (entries thread.hand) (entered thread.hand) thread.worker.clock
  pub going : stop thread.hand ≡ None

-- the same, and it is through with that epoch
pub record IsOn (terms : Terms) (thread : WorkerThread) : Type 0 where
  pub going : IsRunning terms thread
  pub settled : done thread.hand ≡ entered thread.hand

-- it ended before it was through with all: it stopped, or read that one stopped
abbrev pub HasEnded : Hand → Type 0
HasEnded hand = stop hand ≡ None → warned hand ≡ true

-- ---- what it has done so far

-- what its turns ask of it
abbrev pub own_asked : {D : Type 0} → SharedRound D → WorkerThread → List (ℕ × Request)
own_asked shared thread = asked_in (get_or (turns_in shared) (worker_of thread.hand) [])

-- from this worker on, up to this rest of what it was asked
abbrev pub HasCome : Terms → List (ℕ × Request) → List (ℕ × Request) → machine.Worker → WorkerThread → Type 0
HasCome terms asked rest start thread =
    HasDoneUpTo terms asked rest (row_of thread.hand) start (shown_worker thread.worker)

-- as much is left to do as before
abbrev pub Keeps : Terms → WorkerThread → WorkerThread → Type 0
Keeps terms old new = (asked rest : List (ℕ × Request)) (start : machine.Worker) → HasCome terms asked rest start old → HasCome terms asked rest start new

-- the same, where what is left calls for so many epochs, or there are other workers
abbrev pub KeepsUpTo : ℕ → Terms → WorkerThread → WorkerThread → Type 0
KeepsUpTo epochs terms old new = (asked rest : List (ℕ × Request)) (start : machine.Worker) → (terms.workers ≡ 1 → CallsFor rest epochs)
    → HasCome terms asked rest start old → HasCome terms asked rest start new

-- the next request, of this phase, is done
abbrev pub Serves : Terms → ℕ → Request → WorkerThread → WorkerThread → Type 0
Serves terms phase request old new = (asked rest : List (ℕ × Request)) (start : machine.Worker)
    → HasCome terms asked ((phase, request) ∷ rest) start old → HasCome terms asked rest start new

-- where the next request is of this phase, it ended with some rest
abbrev pub EndsBy : Terms → ℕ → Request → WorkerThread → WorkerThread → Type 0
EndsBy terms phase request old new = (asked rest : List (ℕ × Request)) (start : machine.Worker)
    → HasCome terms asked ((phase, request) ∷ rest) start old → (left : List (ℕ × Request)) × HasCome terms asked left start new
