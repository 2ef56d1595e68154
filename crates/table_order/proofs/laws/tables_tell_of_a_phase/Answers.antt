use Rattle.table_order.proofs.TableLemmas.{are_told, stops_noted}
use Rattle.table_order.proofs.TurnLemmas.{stops_apart}
use Rattle.table_order.proofs.laws.tables_tell_of_a_phase.Goals as goal

pub returns : goal.returns
returns c = record {
  told = λ functions settings script world terms after rows is phase.
      are_told functions settings script world terms after rows is phase
      (c.worlds_are_as_promised.ensures.standing functions settings script world is.digests is.behind)
      (c.plans_are_what_the_host_does.ensures.served functions settings script);
  noted = λ functions settings script world terms after rows is phase.
      stops_noted functions settings script world terms after rows is phase
      (c.worlds_are_as_promised.ensures.standing functions settings script world is.digests is.behind)
      (c.plans_are_what_the_host_does.ensures.served functions settings script)
      (c.plans_are_what_the_host_does.ensures.ended functions settings script);
  apart = λ rows. stops_apart 0 rows;
}
