use Rattle.std.proofs.Common.{[], refl}
use Rattle.host_epochs.specs.Table.{table, terms}
use Rattle.table_tests.proofs.RoundLemmas.{looked_on}
use Rattle.table_tests.proofs.round_workers.RoundWorker.raise_or_wait.Goals as goal

pub returns-clause-goes : goal.returns-clause-goes
returns-clause-goes g c =
    looked_on (terms g.D.Digests.functions c.args.epochs.now) (table c.args.epochs.now) c.args.self.now c.all_through.new.self _ [] c.all_through.ensures.goes c.raise.ensures.keeps
    c.raise.ensures.before refl refl (λ goes. goes)
