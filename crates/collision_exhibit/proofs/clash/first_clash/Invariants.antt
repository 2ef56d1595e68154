use Rattle.std.proofs.Common.{◌≡◌, drop}
use Rattle.soundness.specs.Clash.{none_evicted}
use Rattle.collision_exhibit.specs.Shown.{audit_events_within, clash_among}
use Rattle.collision_exhibit.specs.LastEvicted.{last_evicted_at}
use Rattle.collision_exhibit.proofs.clash.first_clash.Given as goal

abbrev pub invariant-loop-item : goal.invariant-loop-item
invariant-loop-item l =
    clash_among (last_evicted_at l.last) (audit_events_within l.first l.epochs (drop l.item-index l.audited)) ≡ clash_among none_evicted (audit_events_within l.first l.epochs l.audited)
