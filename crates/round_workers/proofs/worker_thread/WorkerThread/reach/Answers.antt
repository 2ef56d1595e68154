use Rattle.std.proofs.Common.{rules, suc, ◌∙◌, arith}
use Rattle.host_epochs.specs.Hands.{entered}
use Rattle.host_epochs.specs.Table.{terms}
use Rattle.round_workers.proofs.PartLemmas.{keeps-up-then}
use Rattle.round_workers.proofs.worker_thread.WorkerThread.reach.Goals as goal

pub returns-then-not-branch-clause-keeps : goal.returns-then-not-branch-clause-keeps
returns-then-not-branch-clause-keeps g c =
    let counted = c.loop-self.invariant.on.going.counted in
    keeps-up-then c.args.phase c.args.phase (suc (entered c.loop-self.self.hand)) (terms g.D.Digests.functions c.args.shared.now.epochs.now) c.args.self.now c.loop-self.self
    c.come_on.new.self (omega arith) (omega (arith, c.loop-self-test.true, counted)) c.loop-self.invariant.keeps c.in_ok-come_on.ensures.keeps

pub loop-self-preserved : goal.loop-self-preserved
loop-self-preserved g c =
    let so_far = c.loop-self.invariant in
    let came = c.in_ok-come_on.ensures in
    record {
      free = came.free;
      sends = came.sends;
      on = came.on c.if-not-branch.false;
      goes_on = record {
        number = came.goes_on.number ∙ so_far.goes_on.number;
        writer = came.goes_on.writer ∙ so_far.goes_on.writer;
        lane = search rules;
      };
      keeps = keeps-up-then c.args.phase c.args.phase (suc (entered c.loop-self.self.hand)) (terms g.D.Digests.functions c.args.shared.now.epochs.now) c.args.self.now
          c.loop-self.self c.come_on.new.self (omega arith) (let counted = so_far.on.going.counted in omega (arith, c.loop-self-test.true, counted)) so_far.keeps came.keeps;
    }
