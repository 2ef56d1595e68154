use Rattle.table_order.proofs.MadeLemmas.{making_mirrors}
use Rattle.table_order.proofs.laws.a_making_of_a_world_mirrors.Goals as goal

pub returns : goal.returns
returns c = record {
  mirrors = λ functions settings script world terms digests behind made making.
      making_mirrors functions settings script world (c.worlds_are_as_promised.ensures.standing functions settings script world digests behind) terms made digests making;
}
