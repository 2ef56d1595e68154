use Rattle.std.proofs.Common.{◌-◌, Bool, List, ◌∷◌, set, replicate, Some, None, sym, ◌∙◌, ap, subst, arith}
use Rattle.tree_keys.specs.Path.{root_of}
use Rattle.slot_rewriting.specs.Rewriting.{SlotPaths, lowest_empty, HasNoSlot, HasEmpty}
use Rattle.slot_rewriting.proofs.SlotPathLaws.{no_slot-none, empty_none, first_taken, opening-root, opening-others}
use Rattle.slot_rewriting.proofs.slots.Slots.new.Goals as goal
use Rattle.slot_rewriting.proofs.slots.Slots.new.Goals.{then-number-eq0, else-number-eq0}

pub take-requires-clause-absent : goal.take-requires-clause-absent
take-requires-clause-absent c =
    subst (λ (paths : SlotPaths). HasNoSlot c.root_of.result paths) (sym c.in_ok-slots.ensures.paths) (no_slot-none c.root_of.result c.args.header.now.cache)

pub take-requires-clause-empty : goal.take-requires-clause-empty
take-requires-clause-empty c =
    subst (λ (paths : SlotPaths). HasEmpty paths) (sym c.in_ok-slots.ensures.paths) (empty_none c.args.header.now.cache (omega (arith, c.requires.header.some_cache)))

pub returns : goal.returns
returns c = record {
  paths = elim c.if-number-eq0.branch [
    | then-number-eq0 w ↦
        w.slots-is
        ∙ (w.take.ensures.paths
        ∙ (ap (λ (paths : SlotPaths). set paths (lowest_empty paths) (Some w.root_of.result)) c.in_ok-slots.ensures.paths
        ∙ (first_taken w.root_of.result c.args.header.now.cache (omega (arith, c.requires.header.some_cache))
        ∙ (ap (λ (path : List Bool). Some path ∷ replicate (c.args.header.now.cache - 1) None) (w.root_of.ensures.empty ∙ ap root_of w.wide_of.ensures.value)
        ∙ sym (opening-root c.args.number c.args.header.now w.if-number-eq0.true)))))
    | else-number-eq0 w ↦ w.slots-is ∙ (c.in_ok-slots.ensures.paths ∙ sym (opening-others c.args.number c.args.header.now w.if-number-eq0.false))
  ];
}
