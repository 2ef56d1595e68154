use Rattle.std.proofs.Common.{◌≡◌, drop, map}
use Rattle.host_world.specs.Workers.{shown_worker}
use Rattle.worker_threads.specs.Phase.{first_stopped}
use Rattle.worker_threads.proofs.rounds.first_end_of.Given as goal

-- no worker so far is stopped
abbrev pub invariant-loop-number : goal.invariant-loop-number
invariant-loop-number l = first_stopped 0 (map shown_worker l.workers) ≡ first_stopped l.number (map shown_worker (drop l.number l.workers))
