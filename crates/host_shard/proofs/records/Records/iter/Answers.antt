use Rattle.std.proofs.Common.{subst}
use Rattle.host_shard.specs.Records.{AreInOrder}
use Rattle.host_shard.proofs.OrderLemmas.{sorted_in_order}
use Rattle.host_shard.proofs.records.Records.iter.Goals as goal

pub returns-clause-in_order : goal.returns-clause-in_order
returns-clause-in_order c = subst AreInOrder c.self.view_is (sorted_in_order c.self.inside.map.entries c.iter.ensures.ordered)
