use Rattle.stamp_order.proofs.MergedLaws.{merged-fixed, merged-of_verifier}
use Rattle.stamp_order.proofs.laws.merging_keeps_what_is_in_order.Goals as goal

pub returns : goal.returns
returns g c = record { whole = merged-fixed; verifier = merged-of_verifier }
