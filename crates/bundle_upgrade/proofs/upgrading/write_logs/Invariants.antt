use Rattle.std.proofs.Common.{◌≤◌, map}
use Rattle.host_rounds.proofs.FramingLaws.{Wrote, text_from}
use Rattle.bundle_upgrade.proofs.upgrading.write_logs.Given as goal

-- a front of the frames was written, and those of the logs that are left are the rest
abbrev pub invariant-loop-number : goal.invariant-loop-number
invariant-loop-number g l = record {
  wrote : Wrote (g.O.Sink.held l.initial.out) (g.O.Sink.held l.out) (text_from 0 (map (λ log. log.items) l.logs)) (text_from l.number (map (λ log. log.items) l.logs));
  counted : g.O.Sink.faults l.initial.out ≤ g.O.Sink.faults l.out;
}
