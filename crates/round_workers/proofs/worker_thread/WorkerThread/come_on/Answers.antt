use Rattle.std.proofs.Common.{[]}
use Rattle.host_epochs.specs.declared.views.Held.TheVariants.{Idle}
use Rattle.host_epochs.specs.Hands.{row_of}
use Rattle.host_epochs.specs.Table.{terms}
use Rattle.round_workers.proofs.OrderLemmas.{scans-opened}
use Rattle.round_workers.proofs.PartLemmas.{ok_then}
use Rattle.round_workers.proofs.worker_thread.WorkerThread.come_on.Goals as goal

pub returns-then-at-clause-free : goal.returns-then-at-clause-free
returns-then-at-clause-free g c = c.stop.ensures.keeps Idle [] c.requires.free

pub scan_own-requires-clause-scans : goal.scan_own-requires-clause-scans
scan_own-requires-clause-scans g c =
    scans-opened (terms g.D.Digests.functions c.args.shared.now.epochs.now) (row_of c.wait.new.self.hand) 0 (c.in_ok-wait.ensures.opened c.if-not-branch.false)

pub returns-clause-keeps : goal.returns-clause-keeps
returns-clause-keeps g c =
    ok_then c.scan_own.result (λ keeps asked rest start calls come. keeps asked rest start (c.in_ok-wait.ensures.keeps asked rest start calls come)) c.scan_own.ensures.keeps
