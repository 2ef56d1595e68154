use Rattle.std.proofs.Common.{◌-◌}
use Rattle.host_epochs.specs.Hands.{IsFree}
use Rattle.host_epochs.specs.Table.{table, terms}
use Rattle.round_workers.specs.Working.{GoesOnAs, IsOn, IsSending, KeepsUpTo}
use Rattle.round_workers.proofs.worker_thread.WorkerThread.reach.Given as goal

-- it is through with the epoch that it came to
abbrev pub invariant-loop-self : goal.invariant-loop-self
invariant-loop-self g l = record {
  free : IsFree (table l.shared.epochs.now) l.self.hand;
  sends : IsSending l.self;
  on : IsOn (terms g.D.Digests.functions l.shared.epochs.now) l.self;
  goes_on : GoesOnAs l.initial.self l.self;
  keeps : KeepsUpTo l.phase (terms g.D.Digests.functions l.shared.epochs.now) l.initial.self l.self;
}

-- fewer epochs are to come at each turn
abbrev pub decreases-loop-self : goal.decreases-loop-self
decreases-loop-self g l = l.phase - l.self.entered
