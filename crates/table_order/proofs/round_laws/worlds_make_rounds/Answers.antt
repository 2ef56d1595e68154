use Rattle.table_order.proofs.MakingLemmas.{level_making}
use Rattle.table_order.proofs.round_laws.worlds_make_rounds.Goals as goal

pub returns : goal.returns
returns c = record {
  making = λ functions settings script world epoch contents digests behind level shows.
      let promised = c.worlds_are_as_promised.ensures.promised functions settings script world digests behind in
      level_making functions settings script world (c.worlds_are_as_promised.ensures.standing functions settings script world digests behind)
      (c.worlds_are_as_promised.ensures.shards functions settings script world digests behind) behind epoch level promised.accepted promised.even contents shows;
}
