use Rattle.table_order.proofs.RoundLemmas.{of_mode}
use Rattle.table_order.proofs.RoundPhaseLemmas.{phase_table, phase_told, ends_in_phase}
use Rattle.table_order.proofs.round_laws.a_round_of_one_epoch_is_a_phase.Goals as goal

pub returns : goal.returns
returns c = record {
  ends = λ functions settings script world terms after rows is round.
      let standing = c.worlds_are_as_promised.ensures.standing functions settings script world is.table.digests is.table.behind in
      let in_phase = (c.worlds_are_as_promised.ensures.promised functions settings script world is.table.digests is.table.behind).in_phase in
      let mode = of_mode functions settings script world terms rows is.table standing in_phase (c.nothing_is_hot.ensures.vacant functions settings script) in
      let one = mode.plain is.plain in
      let table = phase_table functions settings script world terms after rows is round standing (in_phase is.plain) one in
      let told = phase_told functions settings script world terms after rows is round standing (in_phase is.plain) one in
      let order = c.a_phase_of_a_table_has_one_order.ensures.order functions settings script world _ after _ table told in
      let behind = c.a_phase_of_a_table_has_one_order.ensures.behind functions settings script world _ after _ table told in
      ends_in_phase functions settings script world terms after rows is round standing (in_phase is.plain) one order.ends
      (c.worlds_are_as_promised.ensures.standing functions settings script _ is.table.digests behind) order.enabled;
  behind = λ functions settings script world terms after rows is round.
      let standing = c.worlds_are_as_promised.ensures.standing functions settings script world is.table.digests is.table.behind in
      let in_phase = (c.worlds_are_as_promised.ensures.promised functions settings script world is.table.digests is.table.behind).in_phase in
      let one = (of_mode functions settings script world terms rows is.table standing in_phase (c.nothing_is_hot.ensures.vacant functions settings script)).plain is.plain in
      c.a_phase_of_a_table_has_one_order.ensures.behind functions settings script world _ after _
      (phase_table functions settings script world terms after rows is round standing (in_phase is.plain) one)
      (phase_told functions settings script world terms after rows is round standing (in_phase is.plain) one);
  contents = λ functions settings script world terms after rows is round.
      let standing = c.worlds_are_as_promised.ensures.standing functions settings script world is.table.digests is.table.behind in
      let in_phase = (c.worlds_are_as_promised.ensures.promised functions settings script world is.table.digests is.table.behind).in_phase in
      let one = (of_mode functions settings script world terms rows is.table standing in_phase (c.nothing_is_hot.ensures.vacant functions settings script)).plain is.plain in
      c.a_phase_of_a_table_has_one_order.ensures.contents functions settings script world _ after _
      (phase_table functions settings script world terms after rows is round standing (in_phase is.plain) one)
      (phase_told functions settings script world terms after rows is round standing (in_phase is.plain) one);
}
