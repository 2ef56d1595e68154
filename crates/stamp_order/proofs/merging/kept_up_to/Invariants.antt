use Rattle.std.proofs.Common.{◌≡◌, take}
use Rattle.stamp_order.specs.Merged.{up_to}
use Rattle.stamp_order.specs.Operations.{moment_of}
use Rattle.stamp_order.proofs.merging.kept_up_to.Given as goal

abbrev pub invariant-loop-op : goal.invariant-loop-op
invariant-loop-op l = l.kept.items ≡ up_to moment_of l.epoch (take l.op-index l.ops)
