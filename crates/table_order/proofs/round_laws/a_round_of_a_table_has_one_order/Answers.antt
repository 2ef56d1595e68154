use Rattle.table_order.proofs.RoundLemmas.{of_mode}
use Rattle.table_order.proofs.RoundOrderLemmas.{steady_in, one_order, one_end, one_behind, ends_whole, one_order_to, ends_stopped}
use Rattle.table_order.proofs.round_laws.a_round_of_a_table_has_one_order.Goals as goal

pub returns : goal.returns
returns c = record {
  order = λ functions settings script world terms after rows is round.
      let standing = c.worlds_are_as_promised.ensures.standing functions settings script world is.digests is.behind in
      one_order functions settings script world terms after rows is round standing
      (of_mode functions settings script world terms rows is standing
      (c.worlds_are_as_promised.ensures.promised functions settings script world is.digests is.behind).in_phase (c.nothing_is_hot.ensures.vacant functions settings script))
      (c.plans_are_what_the_host_does.ensures.served functions settings script)
      (steady_in functions settings script is.behind.settings_fit.cold (c.the_shipped_host_is_steady.ensures.steady functions settings script)
      (c.the_rolling_host_is_steady.ensures.steady functions settings script));
  behind = λ functions settings script world terms after rows is round.
      let standing = c.worlds_are_as_promised.ensures.standing functions settings script world is.digests is.behind in
      one_behind functions settings script world terms after rows is round standing
      (of_mode functions settings script world terms rows is standing
      (c.worlds_are_as_promised.ensures.promised functions settings script world is.digests is.behind).in_phase (c.nothing_is_hot.ensures.vacant functions settings script))
      (c.plans_are_what_the_host_does.ensures.served functions settings script)
      (steady_in functions settings script is.behind.settings_fit.cold (c.the_shipped_host_is_steady.ensures.steady functions settings script)
      (c.the_rolling_host_is_steady.ensures.steady functions settings script));
  contents = λ functions settings script world terms after rows is round.
      let standing = c.worlds_are_as_promised.ensures.standing functions settings script world is.digests is.behind in
      one_end functions settings script world terms after rows is round standing
      (of_mode functions settings script world terms rows is standing
      (c.worlds_are_as_promised.ensures.promised functions settings script world is.digests is.behind).in_phase (c.nothing_is_hot.ensures.vacant functions settings script))
      (c.plans_are_what_the_host_does.ensures.served functions settings script)
      (steady_in functions settings script is.behind.settings_fit.cold (c.the_shipped_host_is_steady.ensures.steady functions settings script)
      (c.the_rolling_host_is_steady.ensures.steady functions settings script));
  whole = λ functions settings script world terms after rows is round rolling.
      let standing = c.worlds_are_as_promised.ensures.standing functions settings script world is.digests is.behind in
      ends_whole functions settings script world terms after rows is round standing
      (of_mode functions settings script world terms rows is standing
      (c.worlds_are_as_promised.ensures.promised functions settings script world is.digests is.behind).in_phase (c.nothing_is_hot.ensures.vacant functions settings script))
      (c.plans_are_what_the_host_does.ensures.served functions settings script)
      (steady_in functions settings script is.behind.settings_fit.cold (c.the_shipped_host_is_steady.ensures.steady functions settings script)
      (c.the_rolling_host_is_steady.ensures.steady functions settings script)) rolling;
  order_to = λ functions settings script world terms after rows is round rolling newest least all.
      let standing = c.worlds_are_as_promised.ensures.standing functions settings script world is.digests is.behind in
      one_order_to functions settings script world terms after rows is round standing
      (of_mode functions settings script world terms rows is standing
      (c.worlds_are_as_promised.ensures.promised functions settings script world is.digests is.behind).in_phase (c.nothing_is_hot.ensures.vacant functions settings script))
      (c.plans_are_what_the_host_does.ensures.served functions settings script)
      (steady_in functions settings script is.behind.settings_fit.cold (c.the_shipped_host_is_steady.ensures.steady functions settings script)
      (c.the_rolling_host_is_steady.ensures.steady functions settings script)) rolling newest least all;
  stopped = λ functions settings script world terms after rows is round rolling newest least all.
      let standing = c.worlds_are_as_promised.ensures.standing functions settings script world is.digests is.behind in
      let promised = c.worlds_are_as_promised.ensures.promised functions settings script world is.digests is.behind in
      ends_stopped functions settings script world terms after rows is round standing
      (of_mode functions settings script world terms rows is standing promised.in_phase (c.nothing_is_hot.ensures.vacant functions settings script))
      (c.plans_are_what_the_host_does.ensures.served functions settings script)
      (steady_in functions settings script is.behind.settings_fit.cold (c.the_shipped_host_is_steady.ensures.steady functions settings script)
      (c.the_rolling_host_is_steady.ensures.steady functions settings script)) rolling newest least all promised.accepted promised.even;
}
