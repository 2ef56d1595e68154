use Rattle.std.proofs.Common.{List, Bool, sym, subst}
use Rattle.host_table.specs.Table.{terms}
use Rattle.table_tests.specs.Ready.{IsOpenBelow}
use Rattle.table_tests.proofs.ReadyLemmas.{open_below}
use Rattle.table_tests.proofs.turns.Turn.work.Goals as goal

pub attempt-requires-clause-ready : goal.attempt-requires-clause-ready
attempt-requires-clause-ready g c =
    subst (λ (f : List Bool). IsOpenBelow (terms g.D.Digests.functions c.args.records.now) c.place_of-place.result f) (sym c.index-frontiers-place.is)
    (open_below (terms g.D.Digests.functions c.args.records.now) c.args.frontiers.now c.place_of-place.result c.index-frontiers-place.result c.requires.ready c.place_of-place.ensures.there)
