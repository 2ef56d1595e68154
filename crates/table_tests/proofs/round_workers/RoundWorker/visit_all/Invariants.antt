use Rattle.std.proofs.Common.{◌≡◌}
use Rattle.host_epochs.specs.Table.{table, terms}
use Rattle.table_tests.specs.declared.round_workers.RoundEnd.TheVariants.{Going}
use Rattle.table_tests.specs.Rounds.{GoesOn, Works}
use Rattle.table_tests.proofs.round_workers.RoundWorker.visit_all.Given as goal

abbrev pub invariant-loop-place : goal.invariant-loop-place
invariant-loop-place g l = record {
  goes : GoesOn (terms g.D.Digests.functions l.epochs) (table l.epochs) l.initial.self l.self;
}
