use Rattle.std.proofs.Common.{◌≡◌}
use Rattle.host_epochs.specs.Hands.{row_of, IsFree}
use Rattle.host_epochs.specs.Table.{table}
use Rattle.round_workers.specs.Placed.{AreSeen, StandsAs}
use Rattle.round_workers.proofs.worker_thread.WorkerThread.look.Given as goal

-- the workers so far were found to be through with the worker's epoch
abbrev pub invariant-loop-worker : goal.invariant-loop-worker
invariant-loop-worker g l = record {
  free : IsFree (table l.shared.epochs.now) l.self.hand;
  seen : AreSeen l.self.hand l.worker;
  row : row_of l.self.hand ≡ row_of l.initial.self.hand;
  stands : StandsAs l.initial.self.hand l.self.hand;
  worker : l.self.worker ≡ l.initial.self.worker;
  outbox : l.self.outbox ≡ l.initial.self.outbox;
  entered : l.self.entered ≡ l.initial.self.entered;
}
