use Rattle.lamport_clocks.specs.Clock.{opening_reading}
use Rattle.host_table.specs.Table.{table, terms}
use Rattle.table_tests.proofs.TurnLemmas.{turns_from}
use Rattle.table_tests.proofs.table_workers.turns_of.Goals as goal

pub returns : goal.returns
returns g c = record {
  turns = turns_from (terms g.D.Digests.functions c.args.records.now) (table c.args.records.now) c.in_ok-turns.turns.items (opening_reading 1 c.args.end) c.args.hands.items
      c.in_ok-turns.ensures.hands c.requires.hands c.requires.new c.in_ok-turns.ensures.start c.requires.clock;
}
