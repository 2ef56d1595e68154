use Rattle.std.proofs.Common.{◌-◌, ◌≤◌}
use Rattle.fv_outside.proofs.file_counters.read_front.Given as goal

abbrev pub invariant-loop-done : goal.invariant-loop-done
invariant-loop-done g l = record { within : l.done ≤ 22 }

abbrev pub decreases-loop-done : goal.decreases-loop-done
decreases-loop-done g l = 22 - l.done
