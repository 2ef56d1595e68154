use Rattle.std.proofs.Common.{◌≡◌, ◌+◌, ◌≤◌, length, drop}
use Rattle.operation_queue.specs.Heads.{bytes_of}
use Rattle.operation_queue.proofs.head.values_len.Given as goal

-- the bytes that are left are those of the heads that are left, and those behind them
abbrev pub invariant-loop-head : goal.invariant-loop-head
invariant-loop-head l = record {
  within : bytes_of (drop l.head-index l.heads) ≤ length l.rest;
  taken : length l.rest + bytes_of l.heads ≡ length l.bytes + bytes_of (drop l.head-index l.heads);
}
