use Rattle.std.proofs.Common.{ℕ, List, length, slice_index, ◌∙◌, ap}
use Rattle.verifier_cache.specs.Table.{standing}
use Rattle.verifier_cache.proofs.TableLemmas.{standing-filter, length-standing}
use Rattle.verifier_cache.proofs.IndexedLemmas.{indexed-closed}
use Rattle.verifier_cache.proofs.table.Table.close_gaps.Goals as goal

pub returns-clause-table : goal.returns-clause-table
returns-clause-table c =
    indexed-closed c.args.self.now.stored.items _ c.args.self.now.index _ c.deref.result.now c.requires.table c.relocate_all.ensures.sound c.relocate_all.ensures.count c.relocate_all.ensures.marks
    (λ i less. ap (λ (ns : List ℕ). slice_index ns i) c.deref.ensures.value ∙ c.compact-kept.ensures.targets i less)
    (c.truncate.ensures.items ∙ c.compact-kept.ensures.kept)

pub returns-clause-entries : goal.returns-clause-entries
returns-clause-entries c = ap standing (c.truncate.ensures.items ∙ c.compact-kept.ensures.kept) ∙ standing-filter c.args.self.now.stored.items

pub returns-clause-none : goal.returns-clause-none
returns-clause-none c = ap length (c.truncate.ensures.items ∙ c.compact-kept.ensures.kept) ∙ length-standing c.args.self.now.stored.items
