use Rattle.std.proofs.Common.{ℕ, None, Bool, List, Result, set, sym, ◌∙◌, ap, subst, arith}
use Rattle.std.specs.Result.{IfOk}
use Rattle.path_index.specs.declared.index.Mark.{Mark}
use Rattle.path_index.specs.Index.{IsRankOf}
use Rattle.slot_rewriting.specs.Rewriting.{SlotPaths, slot_of, HasSlot}
use Rattle.slot_rewriting.specs.Indexed.{IsIndexed}
use Rattle.slot_rewriting.proofs.MarkLemmas.{WentOut}
use Rattle.slot_rewriting.proofs.IndexedLemmas.{is_found, found_slot, indexed_out, length-free}
use Rattle.slot_rewriting.proofs.slots.Slots.leave.Goals as goal

pub unwrap-rank-requires : goal.unwrap-rank-requires
unwrap-rank-requires c =
    is_found c.search_uncounted.result c.self.inside.paths.items c.self.inside.index c.self.inside.free c.args.k.now c.self.invariant
    (subst (λ (paths : SlotPaths). HasSlot c.args.k.now paths) (sym c.self.view_is) c.requires.there) c.search_uncounted.ensures.gap

pub overflow_cast-slot : goal.overflow_cast-slot
overflow_cast-slot c =
    let there = found_slot c.search_uncounted.result c.self.inside.paths.items c.self.inside.index c.self.inside.free c.args.k.now _ c.mark.result.now c.self.invariant
    c.search_uncounted.ensures.found c.unwrap-rank.ensures c.mark.ensures.value in
    omega (arith, there.few)

pub overflow_cast-result : goal.overflow_cast-result
overflow_cast-result c =
    let there = found_slot c.search_uncounted.result c.self.inside.paths.items c.self.inside.index c.self.inside.free c.args.k.now _ c.mark.result.now c.self.invariant
    c.search_uncounted.ensures.found c.unwrap-rank.ensures c.mark.ensures.value in
    omega (arith, there.few)

pub give_back-requires : goal.give_back-requires
give_back-requires c =
    let there = found_slot c.search_uncounted.result c.self.inside.paths.items c.self.inside.index c.self.inside.free c.args.k.now _ c.mark.result.now c.self.invariant
    c.search_uncounted.ensures.found c.unwrap-rank.ensures c.mark.ensures.value in
    record { within = omega (arith, there.within, length-free c.self.inside.paths.items c.self.inside.index c.self.inside.free c.self.invariant) }

pub index_mut-requires : goal.index_mut-requires
index_mut-requires c =
    let there = found_slot c.search_uncounted.result c.self.inside.paths.items c.self.inside.index c.self.inside.free c.args.k.now _ c.mark.result.now c.self.invariant
    c.search_uncounted.ensures.found c.unwrap-rank.ensures c.mark.ensures.value in
    omega (arith, there.within, c.self.inside.paths.ok.0)

pub invariant_of-self : goal.invariant_of-self
invariant_of-self c =
    let found : IsRankOf c.args.k.now c.self.inside.index c.unwrap-rank.result =
    subst (λ (r : Result ℕ ℕ). IfOk r (IsRankOf c.args.k.now c.self.inside.index)) c.unwrap-rank.ensures c.search_uncounted.ensures.found in
    let went : WentOut c.self.inside.index c.remove.new.self c.unwrap-rank.result =
    record { within = found.within; count = c.remove.ensures.count; before = c.remove.ensures.before; behind = c.remove.ensures.behind } in
    subst (λ (free : List Bool). IsIndexed (set c.self.inside.paths.items c.mark.result.now.at None) c.remove.new.self free) (sym c.give_back.ensures.free)
    (indexed_out c.self.inside.paths.items c.self.inside.index c.remove.new.self c.self.inside.free c.args.k.now c.unwrap-rank.result c.mark.result.now.at c.self.invariant found
    (ap (λ (m : Mark). m.at) c.mark.ensures.value) went c.remove.ensures.sound c.remove.ensures.most)

pub returns-clause-slot : goal.returns-clause-slot
returns-clause-slot c =
    let there = found_slot c.search_uncounted.result c.self.inside.paths.items c.self.inside.index c.self.inside.free c.args.k.now _ c.mark.result.now c.self.invariant
    c.search_uncounted.ensures.found c.unwrap-rank.ensures c.mark.ensures.value in
    there.is ∙ ap (slot_of c.args.k.now) c.self.view_is

pub returns-clause-paths : goal.returns-clause-paths
returns-clause-paths c =
    let there = found_slot c.search_uncounted.result c.self.inside.paths.items c.self.inside.index c.self.inside.free c.args.k.now _ c.mark.result.now c.self.invariant
    c.search_uncounted.ensures.found c.unwrap-rank.ensures c.mark.ensures.value in
    ap (λ (n : ℕ). set c.self.inside.paths.items n None) there.is ∙ ap (λ (paths : SlotPaths). set paths (slot_of c.args.k.now paths) None) c.self.view_is
