-- What a phase asks of a worker, and what the worker did of it: it goes on to no further epoch there.
use Rattle.std.specs.Prelude.{◌≡◌, ℕ, ◌+◌, ◌==◌, is_some, List, [], ◌∷◌, ◌++◌, length, Option, Some, None, if◌then◌else◌}
use Rattle.std.specs.List.{flat_map}
use Rattle.std.specs.Option.{ForSome}
use Rattle.lamport_clocks.specs.Reading.{Reading}
use Rattle.record_text.specs.declared.request.Request.{Request}
use Rattle.log_codec.specs.declared.command.Command.{Command}
use Rattle.script_text.specs.declared.task.Task.{Task}
use Rattle.host_core.specs.World.{Worker}
use Rattle.host_table.specs.declared.told.Service.{Service}
use Rattle.host_table.specs.declared.told.Stop.{Stop}
use Rattle.host_table.specs.declared.views.Row.{Row}
use Rattle.table_order.specs.Phases.{first_clock}

-- ---- what is asked

-- what a phase asks of a worker, in order
abbrev pub asked_of : ℕ → List Task → List Request
asked_of i [] = []
asked_of i (task ∷ tasks) = if task.worker == i then task.request ∷ asked_of i tasks else asked_of i tasks

-- ---- what is done

-- the commands of what was served
abbrev pub commands_of : List Service → List Command
commands_of services = flat_map (λ service. service.plan.commands) services

-- the clock behind what was served
abbrev pub last_clock : Reading → List Service → Reading
last_clock clock [] = clock
last_clock clock (service ∷ services) = last_clock service.later services

-- What is asked is served in order: all of it, or up to a request at which the clock ended.
abbrev pub AreDone : List Request → List Service → Option Stop → Type 0
AreDone asked [] None = asked ≡ []
AreDone asked [] (Some stop) = (more : List Request) × (asked ≡ stop.request ∷ more)
AreDone asked (service ∷ services) stop = (more : List Request) × (asked ≡ service.request ∷ more) × AreDone more services stop

-- The worker did what it was asked, from its clock on: it logged the commands, its clock is behind them, and where the clock
-- ended it is stopped.
pub record HasDone (asked : List Request) (row : Row) (old new : Worker) : Type 0 where
  pub done : AreDone asked row.list row.stop
  pub begins : ForSome (first_clock row.list row.stop) (λ clock. clock ≡ old.clock)
  pub log : new.log ≡ old.log ++ commands_of row.list
  pub clock : new.clock ≡ last_clock old.clock row.list
  pub served : new.served ≡ old.served + length row.list
  pub stopped : new.stopped ≡ is_some row.stop
  pub holds : new.holds ≡ old.holds
  pub stuck : new.stuck ≡ old.stuck
