use Rattle.std.proofs.Common.{◌≡◌, length, take}
use Rattle.stamp_order.specs.Lists.{all_of}
use Rattle.stamp_order.proofs.merger.count_of.Given as goal

-- the operations of the lists so far are counted
abbrev pub invariant-loop-list : goal.invariant-loop-list
invariant-loop-list l = l.count ≡ length (all_of (take l.list-index l.lists))
