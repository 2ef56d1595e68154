use Rattle.std.proofs.Common.{◌≡◌, drop, map}
use Rattle.host_world.specs.Workers.{shown_worker}
use Rattle.worker_threads.specs.Round.{newest_of}
use Rattle.worker_threads.proofs.rounds.newest_epoch.Given as goal

-- the newest of those so far and of those that are left is that of all
abbrev pub invariant-loop-worker : goal.invariant-loop-worker
invariant-loop-worker l = newest_of l.newest (map shown_worker (drop l.worker-index l.workers)) ≡ newest_of l.first (map shown_worker l.workers)
