use Rattle.std.proofs.Common.{length, sym, ◌∙◌, subst}
use Rattle.slot_rewriting.specs.Rewriting.{SlotPaths, slot_of, HasSlot, HasNoSlot}
use Rattle.slot_rewriting.proofs.SlotPathLaws.{tested_below}
use Rattle.slot_rewriting.proofs.IndexedLemmas.{found_has, absent_has_none}
use Rattle.slot_rewriting.proofs.slots.Slots.has_slot.Goals as goal

pub returns-clause-there : goal.returns-clause-there
returns-clause-there c = λ is.
    subst (λ (paths : SlotPaths). HasSlot c.args.k.now paths) c.self.view_is
    (found_has c.search_uncounted.result c.self.inside.paths.items c.self.inside.index c.self.inside.free c.args.k.now c.self.invariant c.search_uncounted.ensures.found
    (sym c.is_ok.ensures.value ∙ is))

pub returns-clause-absent : goal.returns-clause-absent
returns-clause-absent c = λ is.
    subst (λ (paths : SlotPaths). HasNoSlot c.args.k.now paths) c.self.view_is
    (absent_has_none c.search_uncounted.result c.self.inside.paths.items c.self.inside.index c.self.inside.free c.args.k.now c.self.invariant c.search_uncounted.ensures.gap
    (sym c.is_ok.ensures.value ∙ is))

pub returns-clause-value : goal.returns-clause-value
returns-clause-value c =
    tested_below c.is_ok.result (slot_of c.args.k.now c.args.self.now) (length c.args.self.now) (returns-clause-there c) (returns-clause-absent c)
