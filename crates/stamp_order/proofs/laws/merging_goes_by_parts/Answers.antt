use Rattle.stamp_order.proofs.MergedLaws.{merged-filter, merged-epochs, merged-flat_map}
use Rattle.stamp_order.proofs.laws.merging_goes_by_parts.Goals as goal

pub returns : goal.returns
returns g c = record { filtered = merged-filter; epochs = merged-epochs; blocks = merged-flat_map }
