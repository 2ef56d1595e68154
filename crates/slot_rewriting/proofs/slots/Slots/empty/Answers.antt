use Rattle.std.proofs.Common.{◌≡◌, ℕ, None, replicate, sym, ◌∙◌, ap, subst, arith}
use Rattle.slot_rewriting.specs.Rewriting.{SlotPaths}
use Rattle.slot_rewriting.specs.Indexed.{IsIndexed}
use Rattle.slot_rewriting.proofs.IndexedLemmas.{indexed_none}
use Rattle.slot_rewriting.proofs.slots.Slots.empty.Goals as goal

pub invariant_of-result : goal.invariant_of-result
invariant_of-result c =
    let count : c.loop.counter ≡ c.args.count = omega (arith, c.loop-test.false, c.loop.auto.counter-end) in
    let paths : c.loop.paths.items ≡ replicate c.args.count None = c.loop.invariant ∙ ap (λ (n : ℕ). replicate n None) count in
    subst (λ (xs : SlotPaths). IsIndexed xs c.in_ok-index.index c.in_ok-free.free) (sym paths)
    (indexed_none c.args.count c.in_ok-index.index c.in_ok-free.free c.in_ok-index.ensures.sound c.in_ok-index.ensures.empty c.in_ok-index.ensures.room c.requires.few c.in_ok-free.ensures.free)
