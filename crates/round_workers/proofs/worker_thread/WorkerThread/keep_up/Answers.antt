use Rattle.std.proofs.Common.{suc, [], ◌∙◌}
use Rattle.host_epochs.specs.declared.views.Held.TheVariants.{Idle}
use Rattle.host_epochs.specs.Hands.{entered, row_of}
use Rattle.host_epochs.specs.Table.{terms}
use Rattle.host_epochs.specs.Terms.{Terms}
use Rattle.round_workers.specs.Working.{Keeps}
use Rattle.round_workers.proofs.OrderLemmas.{scans-opened}
use Rattle.round_workers.proofs.PartLemmas.{keeps-beside, keeps-then, ok_then}
use Rattle.round_workers.proofs.worker_thread.WorkerThread.keep_up.Goals as goal

pub returns-in_err-enter-clause-free : goal.returns-in_err-enter-clause-free
returns-in_err-enter-clause-free g c = c.enter.ensures.seat Idle [] c.requires.free

pub returns-then-not-branch-clause-free : goal.returns-then-not-branch-clause-free
returns-then-not-branch-clause-free g c = c.enter.ensures.seat Idle [] c.requires.free

pub scan_own-requires-clause-free : goal.scan_own-requires-clause-free
scan_own-requires-clause-free g c = c.enter.ensures.seat Idle [] c.requires.free

pub scan_own-requires-clause-scans : goal.scan_own-requires-clause-scans
scan_own-requires-clause-scans g c =
    scans-opened (terms g.D.Digests.functions c.args.shared.now.epochs.now) (row_of c.enter.new.self.hand) 0 (c.in_ok-enter.ensures.opened c.if-not-branch.false)

pub returns-then-not-branch-clause-keeps : goal.returns-then-not-branch-clause-keeps
returns-then-not-branch-clause-keeps g c =
    let t : Terms = terms g.D.Digests.functions c.args.shared.now.epochs.now in
    let workers = c.requires.shared.workers in
    keeps-beside (suc (entered c.args.self.now.hand)) t c.args.self.now c.enter.new.self (λ alone. c.if-shared-eq1.false (workers ∙ alone)) c.in_ok-enter.ensures.keeps

pub returns-clause-keeps : goal.returns-clause-keeps
returns-clause-keeps g c =
    let t : Terms = terms g.D.Digests.functions c.args.shared.now.epochs.now in
    let workers = c.requires.shared.workers in
    let turned : Keeps t c.args.self.now c.enter.new.self =
    keeps-beside (suc (entered c.args.self.now.hand)) t c.args.self.now c.enter.new.self (λ alone. c.if-shared-eq1.false (workers ∙ alone)) c.in_ok-enter.ensures.keeps in
    ok_then c.scan_own.result (keeps-then t c.args.self.now c.enter.new.self c.scan_own.new.self turned) c.scan_own.ensures.keeps
