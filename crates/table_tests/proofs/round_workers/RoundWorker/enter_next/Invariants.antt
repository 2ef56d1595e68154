use Rattle.std.proofs.Common.{◌≡◌}
use Rattle.host_epochs.specs.Table.{table, terms}
use Rattle.table_tests.specs.declared.round_workers.RoundEnd.TheVariants.{Going}
use Rattle.table_tests.specs.Rounds.{GoesOn, Works}
use Rattle.table_tests.proofs.round_workers.RoundWorker.enter_next.Given as goal

abbrev pub invariant-loop : goal.invariant-loop
invariant-loop g l = record {
  goes : GoesOn (terms g.D.Digests.functions l.epochs) (table l.epochs) l.initial.self l.self;
  going : l.self.end ≡ Going;
}
