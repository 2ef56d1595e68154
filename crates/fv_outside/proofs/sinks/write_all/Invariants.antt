use Rattle.std.proofs.Common.{◌≡◌, ◌-◌, ◌≤◌, length, take}
use Rattle.fv_outside.specs.Written.{Grows}
use Rattle.fv_outside.proofs.sinks.write_all.Given as goal

abbrev pub invariant-loop-done : goal.invariant-loop-done
invariant-loop-done g l = record {
  within : l.done ≤ length l.text;
  grown : Grows (g.O.Sink.held l.initial.sink) (g.O.Sink.held l.sink) (take l.done l.text);
  name : g.O.Sink.name l.sink ≡ g.O.Sink.name l.initial.sink;
  counted : g.O.Sink.faults l.initial.sink ≤ g.O.Sink.faults l.sink;
}

abbrev pub decreases-loop-done : goal.decreases-loop-done
decreases-loop-done g l = length l.text - l.done
