use Rattle.std.proofs.Common.{List, suc, take, drop, sym, subst}
use Rattle.std.specs.Prelude.{IsNone}
use Rattle.verifier_cache.specs.declared.entry.Entry.{Entry}
use Rattle.verifier_cache.specs.Cache.{entry_of, AreDistinct}
use Rattle.verifier_cache.specs.Listed.{entries_in}
use Rattle.verifier_cache.proofs.AlikeLaws.{absent_before}
use Rattle.verifier_cache.proofs.ListedLemmas.{entries_in-split}
use Rattle.verifier_cache.proofs.cache.Cache.of_entries.Goals as goal

pub insert_entry-requires-clause-absent : goal.insert_entry-requires-clause-absent
insert_entry-requires-clause-absent c =
    let listed = c.args.listed.now in
    let i = c.loop-one.one-index in
    let one = c.one-item.result in
    let split = entries_in-split listed i one c.loop-one-test.true c.one-item.is in
    let absent = absent_before (entries_in (take i listed)) (entries_in (drop (suc i) listed)) one.entry (subst AreDistinct split c.requires.distinct) in
    subst (λ (xs : List Entry). IsNone (entry_of c.copy.result.path xs)) (sym c.loop-one.invariant.entries)
    (subst (λ (e : Entry). IsNone (entry_of e.path (entries_in (take i listed)))) (sym c.copy.ensures.value) absent)
