use Rattle.std.proofs.Common.{length, ◌-◌, ◌≤◌}
use Rattle.verifier_run.specs.Progress.{weight}
use Rattle.verifier_tests.proofs.runs.in_pieces.Given as goal

abbrev pub invariant-loop-fed : goal.invariant-loop-fed
invariant-loop-fed g l = record { within : l.fed ≤ length l.log; weight : weight l.run ≤ l.fed }

abbrev pub decreases-loop-fed : goal.decreases-loop-fed
decreases-loop-fed g l = length l.log - l.fed
