use Rattle.table_order.proofs.TableLemmas.{list_done}
use Rattle.table_order.proofs.laws.services_are_what_the_host_does.Goals as goal

pub returns : goal.returns
returns c = record {
  served = λ functions settings script world terms after rows is phase.
      list_done functions settings script world terms after rows is phase
      (c.worlds_are_as_promised.ensures.standing functions settings script world is.digests is.behind)
      (c.plans_are_what_the_host_does.ensures.served functions settings script);
}
