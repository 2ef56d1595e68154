use Rattle.std.proofs.Common.{subst}
use Rattle.host_shard.specs.Records.{AreInOrder}
use Rattle.host_shard.proofs.OrderLemmas.{sorted_in_order}
use Rattle.host_shard.proofs.records.Records.few_touched.Goals as goal

pub returns-in-Some-clause-in_order : goal.returns-in-Some-clause-in_order
returns-in-Some-clause-in_order c = subst AreInOrder c.self.view_is (sorted_in_order c.self.inside.map.entries c.len-most.ensures.ordered)

pub returns-in_default-clause-in_order : goal.returns-in_default-clause-in_order
returns-in_default-clause-in_order c = subst AreInOrder c.self.view_is (sorted_in_order c.self.inside.map.entries c.len-most.ensures.ordered)
