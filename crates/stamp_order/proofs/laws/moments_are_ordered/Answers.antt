use Rattle.stamp_order.proofs.MomentLaws.{not_after-cmp}
use Rattle.stamp_order.proofs.laws.moments_are_ordered.Goals as goal

pub returns-clause-not_after : goal.returns-clause-not_after
returns-clause-not_after c = not_after-cmp
