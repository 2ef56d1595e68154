use Rattle.std.proofs.Common.{refl, ◌∙◌}
use Rattle.host_epochs.specs.Table.{table, terms}
use Rattle.table_tests.proofs.RoundLemmas.{finished_on}
use Rattle.table_tests.proofs.round_workers.RoundWorker.step.Goals as goal

pub returns-clause-works : goal.returns-clause-works
returns-clause-works g c =
    finished_on (terms g.D.Digests.functions c.args.epochs.now) (table c.args.epochs.now) c.args.self.now c.scan_all.new.self _ c.scan_all.ensures.goes.is
    (c.scan_all.ensures.goes.stays.worker ∙ (c.visit_all.ensures.goes.stays.worker ∙ c.enter_next.ensures.works.worker))
    c.raise_done.ensures.keeps c.raise_done.ensures.after refl refl refl
