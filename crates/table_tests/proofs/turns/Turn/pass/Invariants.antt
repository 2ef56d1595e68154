use Rattle.std.proofs.Common.{◌≡◌, false}
use Rattle.host_table.specs.Table.{table, terms}
use Rattle.table_tests.specs.Turns.{Works}
use Rattle.table_tests.proofs.turns.Turn.pass.Given as goal

abbrev pub invariant-loop : goal.invariant-loop
invariant-loop g l = record {
  works : Works (terms g.D.Digests.functions l.records) (table l.records) l.initial.self l.self;
  going : l.self.ended ≡ false;
}
