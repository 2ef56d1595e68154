use Rattle.std.proofs.Common.{sym, ◌∙◌, ap, subst, arith}
use Rattle.slot_rewriting.specs.Rewriting.{SlotPaths, slot_of, HasSlot}
use Rattle.slot_rewriting.proofs.IndexedLemmas.{is_found, found_slot}
use Rattle.slot_rewriting.proofs.slots.Slots.slot.Goals as goal

pub unwrap-rank-requires : goal.unwrap-rank-requires
unwrap-rank-requires c =
    is_found c.search_uncounted.result c.self.inside.paths.items c.self.inside.index c.self.inside.free c.args.k.now c.self.invariant
    (subst (λ (paths : SlotPaths). HasSlot c.args.k.now paths) (sym c.self.view_is) c.requires.there) c.search_uncounted.ensures.gap

pub overflow_cast-result : goal.overflow_cast-result
overflow_cast-result c =
    let there = found_slot c.search_uncounted.result c.self.inside.paths.items c.self.inside.index c.self.inside.free c.args.k.now _ c.mark.result.now c.self.invariant
    c.search_uncounted.ensures.found c.unwrap-rank.ensures c.mark.ensures.value in
    omega (arith, there.few)

pub returns : goal.returns
returns c =
    let there = found_slot c.search_uncounted.result c.self.inside.paths.items c.self.inside.index c.self.inside.free c.args.k.now _ c.mark.result.now c.self.invariant
    c.search_uncounted.ensures.found c.unwrap-rank.ensures c.mark.ensures.value in
    record { value = there.is ∙ ap (slot_of c.args.k.now) c.self.view_is }
