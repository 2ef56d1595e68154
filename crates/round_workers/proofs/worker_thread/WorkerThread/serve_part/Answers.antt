use Rattle.std.proofs.Common.{ap, subst, sym}
use Rattle.host_core.specs.World as machine
use Rattle.host_epochs.specs.Hands.{IsFree}
use Rattle.host_epochs.specs.Table.{table, terms}
use Rattle.round_workers.specs.Working.{own_asked}
use Rattle.round_workers.proofs.PartLemmas.{ready-come, ready-on}
use Rattle.round_workers.proofs.SendLemmas.{log-unsent}
use Rattle.round_workers.proofs.worker_thread.WorkerThread.serve_part.Goals as goal

pub offer-requires : goal.offer-requires
offer-requires g c = record { sends = record { front = log-unsent c.args.self.now.outbox _ c.requires.ready.empty; place = c.requires.ready.place } }

pub serve_turns-requires-clause-free : goal.serve_turns-requires-clause-free
serve_turns-requires-clause-free g c = subst (IsFree (table c.args.shared.now.epochs.now)) (sym c.offer.ensures.hand) c.requires.ready.free

pub serve_turns-requires-clause-on : goal.serve_turns-requires-clause-on
serve_turns-requires-clause-on g c =
    ready-on (terms g.D.Digests.functions c.args.shared.now.epochs.now) (table c.args.shared.now.epochs.now) c.args.self.now c.offer.new.self c.requires.ready
    c.offer.ensures.hand c.offer.ensures.entered (ap (λ (w : machine.Worker). w.clock) c.offer.ensures.worker)

pub serve_turns-requires-clause-begun : goal.serve_turns-requires-clause-begun
serve_turns-requires-clause-begun g c =
    ready-come (terms g.D.Digests.functions c.args.shared.now.epochs.now) (table c.args.shared.now.epochs.now) (own_asked c.args.shared.now c.offer.new.self)
    c.args.self.now c.offer.new.self c.requires.ready c.offer.ensures.hand c.offer.ensures.worker
