use Rattle.std.proofs.Common.{subst}
use Rattle.stamp_order.specs.PlainMap.{AreRising}
use Rattle.stamp_order.proofs.EntriesLemmas.{rising-ordered}
use Rattle.stamp_order.proofs.plain_map.PlainMap.entries.Goals as goal

pub returns-clause-rising : goal.returns-clause-rising
returns-clause-rising c = subst AreRising c.self.view_is (rising-ordered c.self.inside.values.entries c.iter.ensures.ordered)
