use Rattle.std.proofs.Common.{◌*◌}
use Rattle.host_epochs.specs.Hands.{row_of, IsFree}
use Rattle.host_epochs.specs.Table.{table, terms}
use Rattle.round_workers.specs.Placed.{AreRenewed, ScansFrom, StandsAs}
use Rattle.round_workers.specs.Working.{GoesOnAs, IsRunning, IsSending, Keeps}
use Rattle.round_workers.proofs.worker_thread.WorkerThread.scan_own.Given as goal

-- the worker's own places of the shards so far are renewed, and the others may be scanned
abbrev pub invariant-loop-shard : goal.invariant-loop-shard
invariant-loop-shard g l = record {
  free : IsFree (table l.shared.epochs.now) l.self.hand;
  sends : IsSending l.self;
  running : IsRunning (terms g.D.Digests.functions l.shared.epochs.now) l.self;
  stands : StandsAs l.initial.self.hand l.self.hand;
  renewed : AreRenewed (terms g.D.Digests.functions l.shared.epochs.now) l.self.hand (l.shard * 5);
  scans : ScansFrom (terms g.D.Digests.functions l.shared.epochs.now) (row_of l.self.hand) l.shard;
  goes_on : GoesOnAs l.initial.self l.self;
  keeps : Keeps (terms g.D.Digests.functions l.shared.epochs.now) l.initial.self l.self;
}
