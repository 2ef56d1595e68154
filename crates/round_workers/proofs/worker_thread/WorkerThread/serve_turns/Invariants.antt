use Rattle.std.proofs.Common.{drop}
use Rattle.host_epochs.specs.Hands.{IsFree}
use Rattle.host_epochs.specs.Table.{table, terms}
use Rattle.host_world.specs.Workers.{shown_worker}
use Rattle.round_workers.specs.Parts.{asked_in}
use Rattle.round_workers.specs.Working.{GoesOnAs, HasCome, IsOn, IsSending}
use Rattle.round_workers.proofs.worker_thread.WorkerThread.serve_turns.Given as goal

-- the turns so far are done
abbrev pub invariant-loop-turn : goal.invariant-loop-turn
invariant-loop-turn g l = record {
  free : IsFree (table l.shared.epochs.now) l.self.hand;
  sends : IsSending l.self;
  on : IsOn (terms g.D.Digests.functions l.shared.epochs.now) l.self;
  goes_on : GoesOnAs l.initial.self l.self;
  come : HasCome (terms g.D.Digests.functions l.shared.epochs.now) (asked_in l.turn-items) (asked_in (drop l.turn-index l.turn-items))
      (shown_worker l.initial.self.worker) l.self;
}
