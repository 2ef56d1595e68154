use Rattle.std.proofs.Common.{suc, ◌≤◌}
use Rattle.host_epochs.specs.Hands.{entered, IsFree}
use Rattle.host_epochs.specs.Table.{table, terms}
use Rattle.round_workers.specs.Placed.{AreSeen, StandsAs}
use Rattle.round_workers.specs.Working.{GoesOnAs, IsRunning, IsSending, KeepsUpTo}
use Rattle.round_workers.proofs.worker_thread.WorkerThread.wait.Given as goal

-- it is in its epoch still, and so many workers were found to be through with that
abbrev pub invariant-loop : goal.invariant-loop
invariant-loop g l = record {
  free : IsFree (table l.shared.epochs.now) l.self.hand;
  sends : IsSending l.self;
  running : IsRunning (terms g.D.Digests.functions l.shared.epochs.now) l.self;
  stands : StandsAs l.initial.self.hand l.self.hand;
  found : l.found ≤ (terms g.D.Digests.functions l.shared.epochs.now).workers;
  seen : AreSeen l.self.hand l.found;
  goes_on : GoesOnAs l.initial.self l.self;
  keeps : KeepsUpTo (suc (entered l.initial.self.hand)) (terms g.D.Digests.functions l.shared.epochs.now) l.initial.self l.self;
}
