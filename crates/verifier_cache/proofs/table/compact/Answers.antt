use Rattle.std.proofs.Common.{◌<◌, length, ◌∙◌, arith}
use Rattle.std.proofs.lemmas.List.{length_push}
use Rattle.std.proofs.lemmas.List.Filters.{FiltersInPlace-more_no, FiltersInPlace-more_swap}
use Rattle.verifier_cache.proofs.TableLemmas.{settled_count, noted_more}
use Rattle.verifier_cache.proofs.table.compact.Goals as goal
use Rattle.verifier_cache.proofs.table.compact.Goals.{then-index, else-index}

pub loop-i-preserved : goal.loop-i-preserved
loop-i-preserved c =
    let filters = c.loop-i.invariant.filters in
    let within : c.loop-i.i < length c.loop-i.stored.items = omega (arith, c.loop-i-test.true, c.len-i-end.ensures, c.args.stored.now.ok.0, filters.long) in
    let noted = c.push_reserved.ensures.items in
    let more = noted_more c.args.stored.now.items c.loop-i.targets.items c.push_reserved.new.self.items c.loop-i.i c.loop-i.kept c.loop-i.invariant.noted (settled_count _ _ _ _ filters) noted c.loop-i.invariant.targets in
    elim c.if-index.branch [
      | then-index w ↦ rw (w.stored-is, w.kept-is) (record {
        filters = FiltersInPlace-more_swap filters within w.if-index.true c.index.ensures w.swap.ensures.by_index;
        capacity = w.swap.ensures.capacity ∙ c.loop-i.invariant.capacity;
        noted = rw noted (length_push _ _ ∙ omega (arith, c.loop-i.invariant.noted));
        targets = more;
        targets_capacity = c.push_reserved.ensures.capacity ∙ c.loop-i.invariant.targets_capacity;
      })
      | else-index w ↦ rw (w.stored-is, w.kept-is) (record {
        filters = FiltersInPlace-more_no filters within w.if-index.false c.index.ensures;
        capacity = c.loop-i.invariant.capacity;
        noted = rw noted (length_push _ _ ∙ omega (arith, c.loop-i.invariant.noted));
        targets = more;
        targets_capacity = c.push_reserved.ensures.capacity ∙ c.loop-i.invariant.targets_capacity;
      })
    ]
