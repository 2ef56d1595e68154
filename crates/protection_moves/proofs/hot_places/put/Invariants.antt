use Rattle.std.proofs.Common.{◌≡◌, ◌++◌, ◌≤◌, ◌-◌, length, take, drop, nat_lt}
use Rattle.stamp_order.specs.InOrder.{put_in_order}
use Rattle.protection_moves.proofs.hot_places.put.Given as goal

abbrev pub invariant-loop-index : goal.invariant-loop-index
invariant-loop-index l =
    (l.index ≤ length l.records.items)
    × (put_in_order (λ a b. nat_lt a.key b.key) l.new l.records.items
    ≡ take l.index l.records.items ++ put_in_order (λ a b. nat_lt a.key b.key) l.new (drop l.index l.records.items))
    × (l.records ≡ l.initial.records)

abbrev pub decreases-loop-index : goal.decreases-loop-index
decreases-loop-index l = length l.records.items - l.index
