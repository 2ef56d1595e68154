use Rattle.std.proofs.Common.{◌≡◌, ◌≤◌}
use Rattle.host_rounds.proofs.FramingLaws.{Wrote, text_from}
use Rattle.host_rounds.proofs.framing.write_round.Given as goal

-- a front of the frames was written, and those of the logs that are left are the rest
abbrev pub invariant-loop-number : goal.invariant-loop-number
invariant-loop-number g l = record {
  wrote : Wrote (g.O.Sink.held l.initial.sink) (g.O.Sink.held l.sink) (text_from 0 l.logs) (text_from l.number l.logs);
  name : g.O.Sink.name l.sink ≡ g.O.Sink.name l.initial.sink;
  counted : g.O.Sink.faults l.initial.sink ≤ g.O.Sink.faults l.sink;
}
