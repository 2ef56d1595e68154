use Rattle.std.proofs.Common.{sym, subst}
use Rattle.std.specs.List.{AllByRecursion}
use Rattle.stamp_order.specs.PlainMap.{IsEntry}
use Rattle.stamp_order.proofs.EntriesLemmas.{some-mapped, entries-inserted, entries-removed}
use Rattle.stamp_order.proofs.plain_map.PlainMap.put.Goals as goal

pub invariant_of-self : goal.invariant_of-self
invariant_of-self c =
    subst (AllByRecursion IsEntry) (sym c.in_ok-insert.ensures.entries)
    (entries-inserted c.self.inside.values.entries c.args.key c.args.value c.ranges.key.fits (some-mapped _ _ _ c.bytes.ensures.value c.is_some.ensures c.if-is_some.true) c.self.invariant)

pub invariant_of-self-else-is_some : goal.invariant_of-self-else-is_some
invariant_of-self-else-is_some c =
    subst (AllByRecursion IsEntry) (sym c.remove.ensures.entries) (entries-removed _ c.self.inside.values.entries c.self.invariant)
