-- Which tasks are those of a phase.
use Rattle.std.specs.Prelude.{ℕ, ◌≤◌, List}
use Rattle.std.specs.List.{slice_range}
use Rattle.script_text.specs.declared.extent.Extent.{Extent}
use Rattle.script_text.specs.declared.task.Task.{Task}

-- the tasks of a closed phase, among all
abbrev pub phase_at : List Task → Extent → List Task
phase_at tasks extent = slice_range tasks extent.begin extent.end

-- it stands among so many tasks
pub record IsAmong (count : ℕ) (extent : Extent) : Type 0 where
  pub order : extent.begin ≤ extent.end
  pub within : extent.end ≤ count
