use Rattle.std.proofs.Common.{ℕ, List, subst}
use Rattle.host_rounds.specs.Feeding.{Reads}
use Rattle.verifier_feeds.specs.Feeds.{run_of}
use Rattle.worker_threads.proofs.worker_pair.WorkerPair.meet.Goals as goal

pub returns-clause-fed : goal.returns-clause-fed
returns-clause-fed g c = λ working going.
    let old = c.args.self in
    subst (λ (bytes : List ℕ). Reads (g.D.Digests.functions c.args.shared.now.d.now) bytes (run_of old.inbox) (run_of c.settle.new.inbox)) c.bytes-log.ensures.value
    (c.settle.ensures.all (run_of old.inbox) c.work_and_watch.ensures.taken going)
