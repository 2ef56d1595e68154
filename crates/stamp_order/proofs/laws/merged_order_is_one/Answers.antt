use Rattle.stamp_order.proofs.MergedLaws.{merged-one}
use Rattle.stamp_order.proofs.laws.merged_order_is_one.Goals as goal

pub returns : goal.returns
returns g c = record { only = merged-one }
