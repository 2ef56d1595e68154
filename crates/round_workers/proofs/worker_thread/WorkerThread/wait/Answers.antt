use Rattle.std.proofs.Common.{rules, ◌≡◌, [], refl, ◌∙◌, ap, arith}
use Rattle.host_world.specs.declared.worker.Worker.{Worker}
use Rattle.host_world.specs.Workers.{shown_worker}
use Rattle.host_epochs.specs.declared.views.Held.TheVariants.{Idle}
use Rattle.host_epochs.specs.declared.views.Row.{Row}
use Rattle.host_epochs.specs.Hands.{entered, row_of}
use Rattle.host_epochs.specs.Table.{terms}
use Rattle.host_epochs.specs.Terms.{Terms}
use Rattle.round_workers.specs.declared.worker_thread.WorkerThread.{WorkerThread}
use Rattle.round_workers.specs.Working.{Keeps}
use Rattle.round_workers.proofs.HandLemmas.{seen-stands, stands-after, stands-then}
use Rattle.round_workers.proofs.PartLemmas.{keeps-as, running-as, waited-then, warned-come}
use Rattle.round_workers.proofs.worker_thread.WorkerThread.wait.Goals as goal

pub returns-then-stopped-clause-free : goal.returns-then-stopped-clause-free
returns-then-stopped-clause-free g c = c.stopped.ensures.keeps Idle [] c.loop.invariant.free

pub returns-then-stopped-clause-keeps : goal.returns-then-stopped-clause-keeps
returns-then-stopped-clause-keeps g c = λ asked rest start calls come.
    let t : Terms = terms g.D.Digests.functions c.args.shared.now.epochs.now in
    let now : WorkerThread = c.loop.self in
    let new : WorkerThread = record now { hand = c.stopped.new.hand } in
    warned-come t asked rest start now new c.if-stopped.ensures.hears.row refl (let more = c.requires.more in omega (arith, more))
    (c.loop.invariant.keeps asked rest start calls come)

pub returns-then-is_given_up-clause-free : goal.returns-then-is_given_up-clause-free
returns-then-is_given_up-clause-free g c = c.stopped.ensures.keeps Idle [] c.loop.invariant.free

pub look-found-requires-clause-free : goal.look-found-requires-clause-free
look-found-requires-clause-free g c = c.stopped.ensures.keeps Idle [] c.loop.invariant.free

pub enter-requires-clause-seated : goal.enter-requires-clause-seated
enter-requires-clause-seated g c = record { has = Idle; out = []; sits = c.look-found.ensures.free }

pub enter-requires-clause-going : goal.enter-requires-clause-going
enter-requires-clause-going g c =
    let now : WorkerThread = c.loop.self in
    running-as (terms g.D.Digests.functions c.args.shared.now.epochs.now) now c.look-found.new.self
    (c.look-found.ensures.stands.worker ∙ c.if-stopped.ensures.hears.worker)
    (c.look-found.ensures.row ∙ c.if-stopped.ensures.hears.row) c.look-found.ensures.entered (ap (λ (w : Worker). w.clock) c.look-found.ensures.worker) c.loop.invariant.running

pub returns-in_err-enter-clause-free : goal.returns-in_err-enter-clause-free
returns-in_err-enter-clause-free g c = c.enter.ensures.seat Idle [] c.look-found.ensures.free

pub returns-then-branch-clause-free : goal.returns-then-branch-clause-free
returns-then-branch-clause-free g c = c.enter.ensures.seat Idle [] c.look-found.ensures.free

pub returns-then-branch-clause-keeps : goal.returns-then-branch-clause-keeps
returns-then-branch-clause-keeps g c =
    let t : Terms = terms g.D.Digests.functions c.args.shared.now.epochs.now in
    let now : WorkerThread = c.loop.self in
    let looked : WorkerThread = c.look-found.new.self in
    let same : Keeps t now looked = keeps-as t now looked (c.look-found.ensures.row ∙ c.if-stopped.ensures.hears.row) (ap shown_worker c.look-found.ensures.worker) in
    let here : entered looked.hand ≡ entered c.args.self.now.hand =
    ap (λ (r : Row). r.entered) (c.look-found.ensures.row ∙ c.if-stopped.ensures.hears.row) ∙ c.loop.invariant.stands.entered in
    waited-then t c.args.self.now now looked c.enter.new.self here c.loop.invariant.keeps same c.in_ok-enter.ensures.keeps

pub loop-preserved : goal.loop-preserved
loop-preserved g c =
    let t : Terms = terms g.D.Digests.functions c.args.shared.now.epochs.now in
    let now : WorkerThread = c.loop.self in
    let looked : WorkerThread = c.look-found.new.self in
    let same : Keeps t now looked = keeps-as t now looked (c.look-found.ensures.row ∙ c.if-stopped.ensures.hears.row) (ap shown_worker c.look-found.ensures.worker) in
    let here : entered looked.hand ≡ entered c.args.self.now.hand =
    ap (λ (r : Row). r.entered) (c.look-found.ensures.row ∙ c.if-stopped.ensures.hears.row) ∙ c.loop.invariant.stands.entered in
    let stays = c.in_ok-enter.ensures.stays c.if-branch.false in
    let heard = stands-after now.hand c.stopped.new.hand (row_of now.hand) [] [] [] c.if-stopped.ensures.hears refl refl in
    record {
      free = c.enter.ensures.seat Idle [] c.look-found.ensures.free;
      sends = c.enter.ensures.sends;
      running = c.in_ok-enter.ensures.going;
      stands = stands-then c.args.self.now.hand looked.hand c.enter.new.self.hand
          (stands-then c.args.self.now.hand c.stopped.new.hand looked.hand
          (stands-then c.args.self.now.hand now.hand c.stopped.new.hand c.loop.invariant.stands heard) c.look-found.ensures.stands) stays;
      found = c.look-found.ensures.found;
      seen = seen-stands looked.hand c.enter.new.self.hand c.look-found.result stays c.look-found.ensures.seen;
      goes_on = record {
        number = c.enter.ensures.goes_on.number ∙ c.look-found.ensures.stands.worker ∙ c.if-stopped.ensures.hears.worker ∙ c.loop.invariant.goes_on.number;
        writer = c.enter.ensures.goes_on.writer ∙ ap (λ (w : Worker). w.log.writer) c.look-found.ensures.worker ∙ c.loop.invariant.goes_on.writer;
        lane = search rules;
      };
      keeps = waited-then t c.args.self.now now looked c.enter.new.self here c.loop.invariant.keeps same c.in_ok-enter.ensures.keeps;
    }
