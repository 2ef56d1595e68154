use Rattle.std.proofs.Common.{◌≡◌, take}
use Rattle.verifier_run.proofs.sealed.queue_of.Given as goal

-- the operations so far
abbrev pub invariant-loop-operation : goal.invariant-loop-operation
invariant-loop-operation l = l.queue.items ≡ take l.operation-index l.operations
