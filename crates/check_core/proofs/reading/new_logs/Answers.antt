use Rattle.std.proofs.Common.{ℕ, ◌+◌, ◌∙◌, ap, map, arith}
use Rattle.bundle_report.specs.Logs.{empty_logs}
use Rattle.check_core.proofs.LogLemmas.{new_log}
use Rattle.check_core.proofs.reading.new_logs.Goals as goal

pub loop-init : goal.loop-init
loop-init c = record { len = c.new-logs.ensures.len; empty = ap (map (λ log. log.items)) c.new-logs.ensures.items }

pub loop-preserved : goal.loop-preserved
loop-preserved c = record {
  len = c.in_ok-push.ensures.len ∙ ap (λ (n : ℕ). n + 1) c.loop.invariant.len;
  empty = new_log (λ log. log.items) _ _ c.new.result c.loop.counter _ c.in_ok-push.ensures.items c.new.ensures.items (omega arith) c.loop.invariant.empty;
}

pub returns-clause-len : goal.returns-clause-len
returns-clause-len c = omega (arith, c.loop.invariant.len, c.loop-test.false, c.loop.auto.counter-end)

pub returns-clause-empty : goal.returns-clause-empty
returns-clause-empty c = c.loop.invariant.empty ∙ ap empty_logs (omega (arith, c.loop-test.false, c.loop.auto.counter-end))
