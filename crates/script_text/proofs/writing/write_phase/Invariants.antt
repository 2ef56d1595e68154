use Rattle.std.proofs.Common.{◌≡◌, ◌++◌}
use Rattle.script_text.specs.Text.{phase_text}
use Rattle.script_text.proofs.writing.write_phase.Given as goal

-- with the lines of the tasks that are left they are all
abbrev pub invariant-loop-task : goal.invariant-loop-task
invariant-loop-task l = l.text.items ++ phase_text l.task-iterator ≡ l.initial.text.items ++ phase_text l.fn.phase
