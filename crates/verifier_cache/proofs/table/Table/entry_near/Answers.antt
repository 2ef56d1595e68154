use Rattle.std.proofs.Common.{sym}
use Rattle.verifier_cache.proofs.TableLemmas.{entry_of-read}
use Rattle.verifier_cache.proofs.IndexedLemmas.{at_rank}
use Rattle.verifier_cache.proofs.table.Table.entry_near.Goals as goal

pub returns-in-Ok-clause-value : goal.returns-in-Ok-clause-value
returns-in-Ok-clause-value c =
    let there = at_rank c.args.k.now c.args.self.now.stored.items c.args.self.now.index c.in-Ok.rank c.mark.result.now c.requires.table c.in-Ok.ensures.found c.mark.ensures.value in
    sym (entry_of-read c.args.k.now c.args.self.now.stored.items c.mark.result.now.at c.index.result.now c.requires.table.distinct there c.index.ensures)
