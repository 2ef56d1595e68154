use Rattle.std.proofs.Common.{arith}
use Rattle.table_order.proofs.RoundLemmas.{of_mode, are_told}
use Rattle.table_order.proofs.RoundTurnLemmas.{flags_from}
use Rattle.table_order.proofs.round_laws.tables_tell_of_a_round.Goals as goal

pub returns : goal.returns
returns c = record {
  told = λ functions settings script world terms after rows is round.
      let standing = c.worlds_are_as_promised.ensures.standing functions settings script world is.digests is.behind in
      are_told functions settings script world terms after rows is round standing
      (of_mode functions settings script world terms rows is standing
      (c.worlds_are_as_promised.ensures.promised functions settings script world is.digests is.behind).in_phase (c.nothing_is_hot.ensures.vacant functions settings script))
      (c.plans_are_what_the_host_does.ensures.served functions settings script);
  flags = λ rows worker there. flags_from 0 worker worker rows there (omega arith);
}
