use Rattle.std.proofs.Common.{◌≡◌, [], refl, ap, ◌∙◌}
use Rattle.host_epochs.specs.declared.views.Held.TheVariants.{Idle}
use Rattle.host_epochs.specs.Hands.{row_of}
use Rattle.host_epochs.specs.Plays.{row_with_warning}
use Rattle.host_epochs.specs.Table.{table, terms}
use Rattle.table_tests.specs.declared.round_workers.RoundWorker.{RoundWorker}
use Rattle.table_tests.proofs.RoundLemmas.{ended_on, entered_on, free_seated, looked_on, no_warned, then_on, works_on}
use Rattle.table_tests.proofs.round_workers.RoundWorker.enter_next.Goals as goal

pub returns-then-stopped-clause-works : goal.returns-then-stopped-clause-works
returns-then-stopped-clause-works g c =
    let t = terms g.D.Digests.functions c.args.epochs.now in
    let z = table c.args.epochs.now in
    let goes = c.loop.invariant.goes in
    works_on t z c.args.self.now _ (then_on t z c.args.self.now c.loop.self _ goes
    (ended_on t z c.loop.self _ (row_with_warning (row_of c.loop.self.hand)) [] (c.if-stopped.ensures.keeps Idle [] goes.is.free) c.if-stopped.ensures.hears refl refl refl no_warned goes.is.of))

pub newest-requires-clause-seated : goal.newest-requires-clause-seated
newest-requires-clause-seated g c =
    free_seated (terms g.D.Digests.functions c.args.epochs.now) (table c.args.epochs.now) c.stopped.new.hand (c.stopped.ensures.keeps Idle [] c.loop.invariant.goes.is.free)

pub returns-then-newest-clause-works : goal.returns-then-newest-clause-works
returns-then-newest-clause-works g c =
    let turned = c.turn.ensures.turned in
    entered_on (terms g.D.Digests.functions c.args.epochs.now) (table c.args.epochs.now) c.args.self.now c.loop.self c.stopped.new.hand c.newest.new.hand c.turn.new.self c.loop.invariant.goes
    c.loop.invariant.going c.stopped.ensures.keeps c.if-stopped.ensures.hears c.newest.ensures.keeps c.if-newest.ensures.enters.0 c.if-newest.ensures.enters.1 turned.hand_is turned.counted
    turned.clock_is

pub raise_or_wait-requires-clause-worker : goal.raise_or_wait-requires-clause-worker
raise_or_wait-requires-clause-worker g c =
    let t = terms g.D.Digests.functions c.args.epochs.now in
    let z = table c.args.epochs.now in
    let mid : RoundWorker = record (c.loop.self) { hand = c.stopped.new.hand } in
    (looked_on t z c.args.self.now mid _ []
    (looked_on t z c.args.self.now c.loop.self mid [] c.loop.invariant.goes c.stopped.ensures.keeps c.if-stopped.ensures.hears refl refl (λ goes. goes))
    c.newest.ensures.keeps c.if-newest.ensures.enters.0 refl refl (λ goes. goes)).is

pub loop-preserved : goal.loop-preserved
loop-preserved g c =
    let t = terms g.D.Digests.functions c.args.epochs.now in
    let z = table c.args.epochs.now in
    let mid : RoundWorker = record (c.loop.self) { hand = c.stopped.new.hand } in
    record {
      goes = then_on t z c.args.self.now _ c.raise_or_wait.new.self
          (looked_on t z c.args.self.now mid _ []
          (looked_on t z c.args.self.now c.loop.self mid [] c.loop.invariant.goes c.stopped.ensures.keeps c.if-stopped.ensures.hears refl refl (λ goes. goes))
          c.newest.ensures.keeps c.if-newest.ensures.enters.0 refl refl (λ goes. goes))
          c.raise_or_wait.ensures.goes;
      going = c.raise_or_wait.ensures.going;
    }
