use Rattle.std.proofs.Common.{◌↔◌, true, ◌≡◌, sym, ◌∙◌, subst}
use Rattle.std.proofs.lemmas.Bool.{ltb_from_iff}
use Rattle.slot_rewriting.specs.Rewriting.{SlotPaths, HasEmpty}
use Rattle.slot_rewriting.proofs.IndexedLemmas.{free_where_empty}
use Rattle.slot_rewriting.proofs.slots.Slots.has_empty.Goals as goal

pub returns : goal.returns
returns c =
    let told = free_where_empty c.lowest.result c.self.inside.paths.items c.self.inside.index c.self.inside.free c.self.invariant c.lowest.ensures.value in
    let there : (c.is_some.result ≡ true) ↔ HasEmpty c.args.self.now = (
      λ is. subst (λ (paths : SlotPaths). HasEmpty paths) c.self.view_is (told.0 (sym c.is_some.ensures ∙ is)),
      λ has. c.is_some.ensures ∙ told.1 (subst (λ (paths : SlotPaths). HasEmpty paths) (sym c.self.view_is) has),
    ) in
    record {
      there = there;
      value = ltb_from_iff there;
    }
