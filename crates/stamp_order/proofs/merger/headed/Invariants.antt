use Rattle.std.proofs.Common.{◌≡◌, ◌++◌}
use Rattle.stamp_order.proofs.merger.headed.Given as goal

-- the lists so far, and with those that are left they are all
abbrev pub invariant-loop-list : goal.invariant-loop-list
invariant-loop-list l = l.headed.items ++ l.list-iterator.rest.items ≡ l.fn.lists.items
