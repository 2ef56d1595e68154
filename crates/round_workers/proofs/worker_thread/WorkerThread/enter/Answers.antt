use Rattle.std.proofs.Common.{◌≡◌, ◌+◌, Bool, true, List, [], ◌∷◌, Ok, refl, sym, ◌∙◌, ap, subst, arith}
use Rattle.log_codec.specs.declared.command.Command.{Command}
use Rattle.log_codec.specs.declared.command.Command.TheVariants.{NextEpoch}
use Rattle.host_core.specs.World as machine
use Rattle.host_core.specs.WorldEvent.{logging, next_clock}
use Rattle.host_world.specs.Workers.{shown_worker}
use Rattle.host_epochs.specs.Hands.{row_of}
use Rattle.host_epochs.specs.Table.{terms}
use Rattle.host_epochs.specs.Terms.{Terms}
use Rattle.round_workers.specs.declared.worker_thread.WorkerThread.{WorkerThread}
use Rattle.round_workers.specs.Placed.{HasOpened}
use Rattle.round_workers.proofs.OrderLemmas.{opened-entered}
use Rattle.round_workers.proofs.PartLemmas.{advanced-true, entered-keeps, entered-running}
use Rattle.round_workers.proofs.SendLemmas.{log-grown}
use Rattle.round_workers.proofs.worker_thread.WorkerThread.enter.Goals as goal

pub returns-in_err-settle-clause-sends : goal.returns-in_err-settle-clause-sends
returns-in_err-settle-clause-sends g c =
    let old : WorkerThread = c.args.self.now in
    let turned : Bool = c.in_ok-advance.field-0 in
    let here = c.requires.going.behind.epoch in
    let room = c.if-not-newest.ensures.enters.2 in
    let is : turned ≡ true = advanced-true turned old.worker.clock.at.epoch c.in_ok-advance.ensures.last (omega (arith, here, room)) in
    let went : shown_worker c.advance.new.worker ≡ logging (shown_worker old.worker) (NextEpoch ∷ []) (next_clock old.worker.clock) =
    c.advance.ensures.advanced (subst (λ (b : Bool). c.advance.result ≡ Ok b) is (c.in_ok-advance.was)) in
    record {
      front = log-grown old.outbox old.worker.log c.settle.new.self (NextEpoch ∷ []) (c.settle.ensures.writer ∙ c.advance.ensures.writer)
          (c.settle.ensures.commands ∙ ap (λ (w : machine.Worker). w.log) went) c.requires.sends.front;
      place = c.requires.sends.place;
    }

pub returns-clause-sends : goal.returns-clause-sends
returns-clause-sends g c =
    let old : WorkerThread = c.args.self.now in
    let turned : Bool = c.in_ok-advance.field-0 in
    let here = c.requires.going.behind.epoch in
    let room = c.if-not-newest.ensures.enters.2 in
    let is : turned ≡ true = advanced-true turned old.worker.clock.at.epoch c.in_ok-advance.ensures.last (omega (arith, here, room)) in
    let went : shown_worker c.advance.new.worker ≡ logging (shown_worker old.worker) (NextEpoch ∷ []) (next_clock old.worker.clock) =
    c.advance.ensures.advanced (subst (λ (b : Bool). c.advance.result ≡ Ok b) is (c.in_ok-advance.was)) in
    record {
      front = log-grown old.outbox old.worker.log c.settle.new.self (NextEpoch ∷ []) (c.settle.ensures.writer ∙ c.advance.ensures.writer)
          (c.settle.ensures.commands ∙ ap (λ (w : machine.Worker). w.log) went) c.requires.sends.front;
      place = c.requires.sends.place;
    }

pub returns-clause-going : goal.returns-clause-going
returns-clause-going g c =
    let old : WorkerThread = c.args.self.now in
    let turned : Bool = c.in_ok-advance.field-0 in
    let here = c.requires.going.behind.epoch in
    let room = c.if-not-newest.ensures.enters.2 in
    let is : turned ≡ true = advanced-true turned old.worker.clock.at.epoch c.in_ok-advance.ensures.last (omega (arith, here, room)) in
    let went : shown_worker c.advance.new.worker ≡ logging (shown_worker old.worker) (NextEpoch ∷ []) (next_clock old.worker.clock) =
    c.advance.ensures.advanced (subst (λ (b : Bool). c.advance.result ≡ Ok b) is (c.in_ok-advance.was)) in
    let new : WorkerThread = record old { worker = record (c.advance.new.worker) { log = c.settle.new.self }; hand = c.newest.new.hand; entered = old.entered + 1 } in
    let after = c.if-not-newest.ensures.enters.0 in
    entered-running (terms g.D.Digests.functions c.args.shared.now.epochs.now) old new after.worker after.row refl (ap (λ (w : machine.Worker). w.clock) went)
    c.if-not-newest.ensures.enters.1 c.requires.going

pub returns-clause-keeps : goal.returns-clause-keeps
returns-clause-keeps g c =
    let old : WorkerThread = c.args.self.now in
    let turned : Bool = c.in_ok-advance.field-0 in
    let here = c.requires.going.behind.epoch in
    let room = c.if-not-newest.ensures.enters.2 in
    let is : turned ≡ true = advanced-true turned old.worker.clock.at.epoch c.in_ok-advance.ensures.last (omega (arith, here, room)) in
    let went : shown_worker c.advance.new.worker ≡ logging (shown_worker old.worker) (NextEpoch ∷ []) (next_clock old.worker.clock) =
    c.advance.ensures.advanced (subst (λ (b : Bool). c.advance.result ≡ Ok b) is (c.in_ok-advance.was)) in
    let new : WorkerThread = record old { worker = record (c.advance.new.worker) { log = c.settle.new.self }; hand = c.newest.new.hand; entered = old.entered + 1 } in
    let after = c.if-not-newest.ensures.enters.0 in
    entered-keeps (terms g.D.Digests.functions c.args.shared.now.epochs.now) old new after.row
    (ap (λ (commands : List Command). record (shown_worker c.advance.new.worker) { log = commands }) c.settle.ensures.commands ∙ went) c.if-not-newest.ensures.enters.1 c.requires.going

pub returns-clause-opened : goal.returns-clause-opened
returns-clause-opened g c = λ _.
    let t : Terms = terms g.D.Digests.functions c.args.shared.now.epochs.now in
    let old : WorkerThread = c.args.self.now in
    subst (HasOpened t) (sym c.if-not-newest.ensures.enters.0.row) (opened-entered t (row_of old.hand) old.worker.clock c.requires.going.behind)
