use Rattle.std.proofs.Common.{◌≡◌, ℕ, ◌<◌}
use Rattle.host_epochs.specs.Table.{table, terms}
use Rattle.host_epochs.specs.Calls.{HasReached}
use Rattle.host_epochs.specs.Hands.{entered, seen}
use Rattle.table_tests.specs.declared.round_workers.RoundEnd.TheVariants.{Going}
use Rattle.table_tests.specs.Rounds.{GoesOn, Works}
use Rattle.table_tests.proofs.round_workers.RoundWorker.all_through.Given as goal

abbrev pub invariant-loop-worker : goal.invariant-loop-worker
invariant-loop-worker g l = record {
  goes : GoesOn (terms g.D.Digests.functions l.epochs) (table l.epochs) l.initial.self l.self;
  going : l.self.end ≡ Going;
  all : (x : ℕ) → x < l.worker → HasReached (seen l.self.hand) x (entered l.self.hand);
}
