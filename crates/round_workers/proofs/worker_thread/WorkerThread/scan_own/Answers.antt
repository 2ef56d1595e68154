use Rattle.std.proofs.Common.{rules, ◌≡◌, suc, ◌+◌, ◌*◌, [], sym, ◌∙◌, ap, subst, arith}
use Rattle.host_epochs.specs.declared.views.Held.TheVariants.{Idle}
use Rattle.host_epochs.specs.Hands.{entered, row_of, IsFree}
use Rattle.host_epochs.specs.Table.{table, terms}
use Rattle.host_epochs.specs.Terms.{Terms}
use Rattle.round_workers.specs.declared.worker_thread.WorkerThread.{WorkerThread}
use Rattle.round_workers.specs.Placed.{ScansFrom}
use Rattle.round_workers.proofs.HandLemmas.{all_renewed-stands, renewed-next, stands-then}
use Rattle.round_workers.proofs.PartLemmas.{keeps-then, through-keeps}
use Rattle.round_workers.proofs.WorkLemmas.{entered_within}
use Rattle.round_workers.proofs.worker_thread.WorkerThread.scan_own.Goals as goal

pub returns-then-not-branch-clause-keeps : goal.returns-then-not-branch-clause-keeps
returns-then-not-branch-clause-keeps g c =
    keeps-then (terms g.D.Digests.functions c.args.shared.now.epochs.now) c.args.self.now c.loop-shard.self c.scan_shard.new.self
    c.loop-shard.invariant.keeps c.in_ok-scan_shard.ensures.keeps

pub loop-shard-preserved : goal.loop-shard-preserved
loop-shard-preserved g c =
    let t : Terms = terms g.D.Digests.functions c.args.shared.now.epochs.now in
    let old : WorkerThread = c.args.self.now in
    let now : WorkerThread = c.loop-shard.self in
    let new : WorkerThread = c.scan_shard.new.self in
    let so_far = c.loop-shard.invariant in
    let scanned = c.in_ok-scan_shard.ensures in
    let on = c.if-not-branch.false in
    let behind = c.requires.going.behind in
    let within = entered_within t old.worker.clock (entered old.hand) behind.is behind.epoch in
    let further = c.requires.shared.further (let later = c.requires.later in omega (arith, later, within)) in
    record {
      free = scanned.free;
      sends = scanned.sends;
      running = scanned.going on;
      stands = stands-then old.hand now.hand new.hand so_far.stands (scanned.stands on);
      renewed = renewed-next t new.hand c.loop-shard.shard further.cold (scanned.renewed on)
          (all_renewed-stands t now.hand new.hand (c.loop-shard.shard * 5) (scanned.stands on) so_far.renewed);
      scans = let next : suc c.loop-shard.shard ≡ c.loop-shard.shard + 1 = omega arith in subst (ScansFrom t (row_of new.hand)) next (scanned.scans on);
      goes_on = record {
        number = scanned.goes_on.number ∙ so_far.goes_on.number;
        writer = scanned.goes_on.writer ∙ so_far.goes_on.writer;
        lane = search rules;
      };
      keeps = keeps-then t old now new so_far.keeps scanned.keeps;
    }

pub returns-in_err-offer-clause-free : goal.returns-in_err-offer-clause-free
returns-in_err-offer-clause-free g c =
    subst (IsFree (table c.args.shared.now.epochs.now)) (sym c.offer.ensures.hand) (c.raise_done.ensures.keeps Idle [] c.loop-shard.invariant.free)

pub returns-clause-free : goal.returns-clause-free
returns-clause-free g c =
    subst (IsFree (table c.args.shared.now.epochs.now)) (sym c.offer.ensures.hand) (c.raise_done.ensures.keeps Idle [] c.loop-shard.invariant.free)

pub returns-clause-keeps : goal.returns-clause-keeps
returns-clause-keeps g c =
    let t : Terms = terms g.D.Digests.functions c.args.shared.now.epochs.now in
    keeps-then t c.args.self.now c.loop-shard.self c.offer.new.self c.loop-shard.invariant.keeps
    (through-keeps t c.loop-shard.self c.offer.new.self (ap row_of c.offer.ensures.hand ∙ c.raise_done.ensures.after.row) c.offer.ensures.worker)
