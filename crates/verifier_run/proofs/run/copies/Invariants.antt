use Rattle.std.proofs.Common.{◌≡◌, ◌+◌, ◌≤◌, ◌++◌, length, vec_len, vec_capacity}
use Rattle.verifier_run.proofs.run.copies.Given as goal

-- with those that are left they are all, and there is room for the rest
abbrev pub invariant-loop-operation : goal.invariant-loop-operation
invariant-loop-operation l = record {
  items : l.copies.items ++ l.operation-iterator ≡ l.fn.operations;
  room : vec_len l.copies + length l.operation-iterator ≤ vec_capacity l.copies;
}
