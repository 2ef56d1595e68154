use Rattle.std.proofs.Common.{◌≡◌}
use Rattle.host_epochs.specs.Table.{table, terms}
use Rattle.host_epochs.specs.Hands.{done, entered}
use Rattle.table_tests.specs.declared.round_workers.RoundEnd.TheVariants.{Going}
use Rattle.table_tests.specs.Rounds.{GoesOn, Works}
use Rattle.table_tests.proofs.round_workers.RoundWorker.work.Given as goal

abbrev pub invariant-loop : goal.invariant-loop
invariant-loop g l = record {
  works : Works (terms g.D.Digests.functions l.epochs) (table l.epochs) l.initial.self l.self;
  going : l.self.end ≡ Going;
  through : done l.self.hand ≡ entered l.self.hand;
}
