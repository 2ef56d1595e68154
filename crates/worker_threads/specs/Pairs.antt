-- A worker and its verifier beside it, before a round and behind it.
use Rattle.std.specs.Prelude.{◌≡◌, ℕ, ◌<◌, false, List, [], length, get_or}
use Rattle.record_hash.specs.Functions.{DigestFunctions}
use Rattle.worker_log.specs.Logged.{text_of}
use Rattle.atomic_table.specs.Seated.{TableId}
use Rattle.certified_epochs.specs.declared.fed_run.FedRun.{FedRun}
use Rattle.host_rounds.specs.Feeding.{Reads}
use Rattle.log_rings.specs.Lanes.{received_by}
use Rattle.host_epochs.specs.Table.{table, terms}
use Rattle.host_epochs.specs.Terms.{Terms}
use Rattle.verifier_feeds.specs.Feeds.{sent_bytes, AreEndsOfOne, HasRoom, KeepsPlace, is_wanting, parcels_of, run_of}
use Rattle.round_workers.specs.declared.shared_round.SharedRound.{SharedRound}
use Rattle.round_workers.specs.Sharing.{turns_in, IsSharedRound}
use Rattle.round_workers.specs.Working.{IsReady, IsThrough}
use Rattle.worker_threads.specs.declared.worker_pair.WorkerPair.{WorkerPair}

-- the run of the verifier
abbrev pub run_in : WorkerPair → FedRun
run_in pair = run_of pair.inbox

-- how many parcels the verifier took
abbrev pub parcels_in : WorkerPair → ℕ
parcels_in pair = parcels_of pair.inbox

-- A pair whose feed is open: nothing was sent, nothing has come out, and the worker entered no epoch.
pub record IsOpened (pair : WorkerPair) : Type 0 where
  pub empty : sent_bytes pair.thread.outbox ≡ []
  pub begun : pair.thread.entered ≡ 0
  pub place : KeepsPlace pair.thread.outbox
  pub ends : AreEndsOfOne pair.thread.outbox pair.inbox
  pub fresh : received_by pair.inbox.receiver ≡ []
  pub room : HasRoom pair.inbox

-- A pair before the round: the worker is ready, and nothing has come through the lane to the verifier.
pub record IsPairReady (terms : Terms) (table : TableId) (pair : WorkerPair) : Type 0 where
  pub ready : IsReady terms table pair.thread
  pub ends : AreEndsOfOne pair.thread.outbox pair.inbox
  pub fresh : received_by pair.inbox.receiver ≡ []
  pub room : HasRoom pair.inbox

-- A pair behind it: where memory was not wanting for either, the verifier's run took just what is in the worker's log.
abbrev pub HasFed : DigestFunctions → WorkerPair → WorkerPair → Type 0
HasFed functions old new =
    new.thread.wanting ≡ false → is_wanting new.inbox ≡ false
    → Reads functions (text_of new.thread.worker.log) (run_in old) (run_in new)

-- what a pair asks of its round
pub record CanMeet {D : Type 0} (functions : D → DigestFunctions) (shared : SharedRound D) (pair : WorkerPair) : Type 0 where
  pub shared_is : IsSharedRound functions shared
  pub ready : IsPairReady (terms functions shared.epochs.now) (table shared.epochs.now) pair

-- A pair before its round and behind it: the worker is through with its part, and the verifier was fed what it logged.
pub record HasMet {D : Type 0} (functions : D → DigestFunctions) (shared : SharedRound D) (old new : WorkerPair) : Type 0 where
  pub through : IsThrough (terms functions shared.epochs.now) (table shared.epochs.now) (turns_in shared) old.thread new.thread
  pub fed : HasFed (functions shared.d.now) old new

-- all pairs before their round and behind it
pub record HaveMet {D : Type 0} (functions : D → DigestFunctions) (shared : SharedRound D) (old new : List WorkerPair) : Type 0 where
  pub count : length new ≡ length old
  pub each : (i : ℕ) (d : WorkerPair) → i < length old → HasMet functions shared (get_or old i d) (get_or new i d)
