use Rattle.host_table.specs.Terms.{phase_of}
use Rattle.table_order.proofs.MadeLemmas.{making_mirrors}
use Rattle.table_order.proofs.RoundPastLemmas.{plain_made}
use Rattle.table_order.proofs.mirror_laws.a_making_of_a_round_mirrors.Goals as goal

pub returns : goal.returns
returns c = record {
  mirrors = λ functions settings script world terms digests behind made making.
      making_mirrors functions settings script world (c.worlds_are_as_promised.ensures.standing functions settings script world digests behind) (phase_of terms)
      (plain_made functions settings script world terms made) digests making;
}
