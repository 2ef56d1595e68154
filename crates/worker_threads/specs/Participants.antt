-- The workers, hands and runs of pairs, and what all workers did at a table.
use Rattle.std.specs.Prelude.{◌≡◌, ℕ, ◌<◌, ◌≤◌, false, List, [], length, map, get_or, All}
use Rattle.record_hash.specs.Functions.{DigestFunctions}
use Rattle.worker_log.specs.Logged.{text_of}
use Rattle.atomic_table.specs.Seated.{TableId}
use Rattle.verifier_run.specs.Progress.{weight}
use Rattle.certified_epochs.specs.declared.fed_run.FedRun.{FedRun}
use Rattle.host_rounds.specs.Feeding.{Reads}
use Rattle.host_epochs.specs.declared.hand.Hand.{Hand}
use Rattle.host_epochs.specs.Calls.{AreAll, IsNew}
use Rattle.host_epochs.specs.Hands.{row_of}
use Rattle.host_epochs.specs.Round.{row_at}
use Rattle.host_epochs.specs.Terms.{Terms, IsClockOf, first_epoch}
use Rattle.host_world.specs.declared.worker.Worker.{Worker}
use Rattle.host_world.specs.Workers.{shown_worker, writer_in}
use Rattle.verifier_feeds.specs.Feeds.{is_wanting}
use Rattle.round_workers.specs.declared.turn.Turn.{Turn}
use Rattle.round_workers.specs.Parts.{asked_in, HasDone}
use Rattle.worker_threads.specs.declared.worker_pair.WorkerPair.{WorkerPair}

abbrev pub worker_in : WorkerPair → Worker
worker_in pair = pair.thread.worker

abbrev pub hand_in : WorkerPair → Hand
hand_in pair = pair.thread.hand

-- memory was wanting neither for the worker nor for its verifier
pub record HaveAll (pair : WorkerPair) : Type 0 where
  pub worker : pair.thread.wanting ≡ false
  pub verifier : is_wanting pair.inbox ≡ false

-- The workers and their hands as a round begins: a hand for each, which has done nothing, and each runs, in the epoch of the making.
pub record AreToServe (terms : Terms) (table : TableId) (workers : List Worker) (hands : List Hand) : Type 0 where
  pub all : AreAll table terms.workers hands
  pub count : length workers ≡ terms.workers
  pub new : All IsNew hands
  pub running : All (λ worker. worker.stopped ≡ false) workers
  pub clocks : All (λ worker. IsClockOf terms worker.clock) workers
  pub epochs : All (λ worker. worker.clock.at.epoch ≡ first_epoch terms) workers

-- The runs of their verifiers: one for each, which was fed so many bytes at most.
pub record AreToWatch (workers : List Worker) (bytes : ℕ) (runs : List FedRun) : Type 0 where
  pub count : length runs ≡ length workers
  pub few : All (λ fed. weight fed.run ≤ bytes) runs

-- The same behind it: each worker has done what its turns asked of it, and its log has the writer that it had.
pub record HaveServed (terms : Terms) (table : TableId) (turns : List (List Turn)) (old new : List Worker) (hands : List Hand) : Type 0 where
  pub all : AreAll table terms.workers hands
  pub count : length new ≡ length old
  pub writers : map writer_in new ≡ map writer_in old
  pub parts : (i : ℕ) (d : Worker) → i < length old
      → HasDone terms (asked_in (get_or turns i [])) (row_at (map row_of hands) i)
      (shown_worker (get_or old i d)) (shown_worker (get_or new i d))

-- Each verifier's run took just what is in its worker's log.
pub record HaveReadLogs (functions : DigestFunctions) (workers : List Worker) (old new : List FedRun) : Type 0 where
  pub olds : length old ≡ length workers
  pub news : length new ≡ length workers
  pub each : (i : ℕ) (d : Worker) (run : FedRun) → i < length workers
      → Reads functions (text_of (get_or workers i d).log) (get_or old i run) (get_or new i run)
