use Rattle.host_order.proofs.PhaseLaws.{orders_phase}
use Rattle.shipped_host.specs.ShippedHost.{shipped_host}
use Rattle.table_order.proofs.TableLemmas.{one_order, one_behind, one_end}
use Rattle.table_order.proofs.laws.a_phase_of_a_table_has_one_order.Goals as goal

pub returns : goal.returns
returns c = record {
  order = λ functions settings script world terms after rows is phase.
      one_order functions settings script world terms after rows is phase
      (c.worlds_are_as_promised.ensures.standing functions settings script world is.digests is.behind)
      (c.plans_are_what_the_host_does.ensures.served functions settings script)
      (c.plans_are_what_the_host_does.ensures.ended functions settings script)
      (c.the_shipped_host_is_steady.ensures.steady functions settings script)
      (orders_phase (shipped_host functions settings script));
  behind = λ functions settings script world terms after rows is phase.
      one_behind functions settings script world terms after rows is phase
      (c.worlds_are_as_promised.ensures.standing functions settings script world is.digests is.behind)
      (c.plans_are_what_the_host_does.ensures.served functions settings script)
      (c.plans_are_what_the_host_does.ensures.ended functions settings script)
      (c.the_shipped_host_is_steady.ensures.steady functions settings script)
      (orders_phase (shipped_host functions settings script));
  contents = λ functions settings script world terms after rows is phase.
      one_end functions settings script world terms after rows is phase
      (c.worlds_are_as_promised.ensures.standing functions settings script world is.digests is.behind)
      (c.plans_are_what_the_host_does.ensures.served functions settings script)
      (c.plans_are_what_the_host_does.ensures.ended functions settings script)
      (c.the_shipped_host_is_steady.ensures.steady functions settings script)
      (orders_phase (shipped_host functions settings script));
}
