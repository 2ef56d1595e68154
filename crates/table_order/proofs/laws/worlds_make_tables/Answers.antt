use Rattle.host_core.specs.World.{epoch_of}
use Rattle.shipped_host.specs.ShippedHost.{shipped_host}
use Rattle.table_order.proofs.MakingLemmas.{level_making, rest_level}
use Rattle.table_order.proofs.laws.worlds_make_tables.Goals as goal

pub returns : goal.returns
returns c = record {
  making = λ functions settings script world contents digests behind rest shows.
      let standing = c.worlds_are_as_promised.ensures.standing functions settings script world digests behind in
      let shards = c.worlds_are_as_promised.ensures.shards functions settings script world digests behind in
      let promised = c.worlds_are_as_promised.ensures.promised functions settings script world digests behind in
      (level_making functions settings script world standing shards behind (epoch_of (shipped_host functions settings script) world)
      (rest_level functions settings script world standing shards behind rest) promised.accepted promised.even contents shows).0;
}
