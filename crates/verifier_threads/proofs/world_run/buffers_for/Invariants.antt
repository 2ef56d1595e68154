use Rattle.std.proofs.Common.{◌≡◌, length}
use Rattle.verifier_threads.proofs.world_run.buffers_for.Given as goal

-- so many buffers are there
abbrev pub invariant-loop : goal.invariant-loop
invariant-loop l = length l.buffers.items ≡ l.counter
