use Rattle.std.proofs.Common.{ℕ, ◌+◌, ◌≤◌, subst}
use Rattle.host_shard.specs.Shown.{shown_content}
use Rattle.host_epochs.specs.Table.{terms}
use Rattle.host_epochs.specs.Terms.{Terms, Waits, first_epoch}
use Rattle.round_workers.proofs.worker_thread.WorkerThread.serve_taken.Goals as goal

pub answer-requires-clause-fresh : goal.answer-requires-clause-fresh
answer-requires-clause-fresh g c = λ own.
    let t : Terms = terms g.D.Digests.functions c.args.shared.now.epochs.now in
    subst (λ (n : ℕ). Waits (λ epoch. first_epoch t + n ≤ epoch) (shown_content c.args.content)) c.requires.on.settled (c.requires.taken.kept.own own)
