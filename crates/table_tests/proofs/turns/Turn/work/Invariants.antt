use Rattle.host_table.specs.Table.{table, terms}
use Rattle.table_tests.specs.Turns.{Works}
use Rattle.table_tests.proofs.turns.Turn.work.Given as goal

abbrev pub invariant-loop-round : goal.invariant-loop-round
invariant-loop-round g l = Works (terms g.D.Digests.functions l.records) (table l.records) l.initial.self l.self
