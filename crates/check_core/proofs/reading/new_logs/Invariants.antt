use Rattle.std.proofs.Common.{◌≡◌, map, vec_len}
use Rattle.bundle_report.specs.Logs.{empty_logs}
use Rattle.check_core.proofs.reading.new_logs.Given as goal

-- as many logs as were counted, none with bytes
abbrev pub invariant-loop : goal.invariant-loop
invariant-loop l = record {
  len : vec_len l.logs ≡ l.counter;
  empty : map (λ log. log.items) l.logs.items ≡ empty_logs l.counter;
}
