use Rattle.std.proofs.Common.{◌≡◌, ◌≤◌, [], refl, sym, ◌∙◌, arith}
use Rattle.host_epochs.specs.declared.hand.Hand.{Hand}
use Rattle.host_epochs.specs.declared.views.Held.TheVariants.{Idle}
use Rattle.host_epochs.specs.Hands.{entered, row_of}
use Rattle.round_workers.proofs.HandLemmas.{seen-more, seen-stands, stands-after, stands-then}
use Rattle.round_workers.proofs.worker_thread.WorkerThread.look.Goals as goal

pub returns-then-done-self-clause-free : goal.returns-then-done-self-clause-free
returns-then-done-self-clause-free g c = c.done.ensures.keeps Idle [] c.loop-worker.invariant.free

pub returns-then-done-self-clause-seen : goal.returns-then-done-self-clause-seen
returns-then-done-self-clause-seen g c =
    seen-stands c.loop-worker.self.hand c.done.new.hand c.loop-worker.worker
    (stands-after c.loop-worker.self.hand c.done.new.hand (row_of c.loop-worker.self.hand) [] [] _ c.done.ensures.after refl refl) c.loop-worker.invariant.seen

pub returns-then-done-self-clause-stands : goal.returns-then-done-self-clause-stands
returns-then-done-self-clause-stands g c =
    stands-then c.args.self.now.hand c.loop-worker.self.hand c.done.new.hand c.loop-worker.invariant.stands
    (stands-after c.loop-worker.self.hand c.done.new.hand (row_of c.loop-worker.self.hand) [] [] _ c.done.ensures.after refl refl)

pub loop-worker-preserved : goal.loop-worker-preserved
loop-worker-preserved g c =
    let hand : Hand = c.loop-worker.self.hand in
    let so_far = c.loop-worker.invariant in
    let stands = stands-after hand c.done.new.hand (row_of hand) [] [] _ c.done.ensures.after refl refl in
    let far : entered hand ≤ c.done.result =
    (let counted : c.loop-worker.self.entered ≡ entered hand = so_far.entered ∙ c.requires.counted ∙ sym so_far.stands.entered in
    omega (arith, c.if-done-self.false, counted)) in
    record {
      free = c.done.ensures.keeps Idle [] so_far.free;
      seen = seen-more hand c.done.new.hand c.loop-worker.worker c.done.result stands c.done.ensures.after.seen far so_far.seen;
      row = c.done.ensures.after.row ∙ so_far.row;
      stands = stands-then c.args.self.now.hand hand c.done.new.hand so_far.stands stands;
      worker = so_far.worker;
      outbox = so_far.outbox;
      entered = so_far.entered;
    }

pub returns-clause-free : goal.returns-clause-free
returns-clause-free g c = c.raise.ensures.keeps Idle [] c.loop-worker.invariant.free
