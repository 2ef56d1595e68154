use Rattle.std.proofs.Common.{◌≤◌, ◌<◌, ◌+◌, ◌^◌, ℕ, length, take}
use Rattle.std.specs.List.{AllByRecursion}
use Rattle.host_rounds.specs.Sealing.{log_of}
use Rattle.host_rounds.proofs.counting.bytes_with.Given as goal

-- the bytes of each log so far are counted
abbrev pub invariant-loop-log : goal.invariant-loop-log
invariant-loop-log l = record {
  rises : l.bytes ≤ l.all;
  each : (number : ℕ) → number < l.log-index
      → (l.bytes + length (log_of number l.logs) ≤ l.all) × (l.bytes + length (log_of number l.logs) < 2 ^ 63);
  whole : AllByRecursion (λ log. l.bytes + length log ≤ l.all) (take l.log-index l.logs);
}
