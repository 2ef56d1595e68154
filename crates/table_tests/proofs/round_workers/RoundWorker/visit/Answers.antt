use Rattle.std.proofs.Common.{refl}
use Rattle.host_epochs.specs.Table.{table, terms}
use Rattle.table_tests.proofs.RoundLemmas.{taken_back}
use Rattle.table_tests.proofs.round_workers.RoundWorker.visit.Goals as goal

pub returns : goal.returns
returns g c = record {
  goes = taken_back (terms g.D.Digests.functions c.args.epochs.now) (table c.args.epochs.now) c.args.place c.in-Some.content c.args.self.now c.take.new.self _ c.in-Some.ensures.taken
      c.give.ensures.free c.give.ensures.gives refl refl;
}
