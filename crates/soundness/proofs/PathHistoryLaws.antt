-- The events of a log whose commands name paths are a history.
use Rattle.std.proofs.Common.{ℕ, suc, List, [], ◌∷◌, refl}
use Rattle.std.specs.List.{AllByRecursion}
use Rattle.lamport_clocks.specs.declared.header.Header.{Header}
use Rattle.log_codec.specs.declared.command.Command.{Command}
use Rattle.merkle_records.specs.Scheme.{Scheme}
use Rattle.verifier_cache.specs.Cache.{AreDistinct}
use Rattle.verifier_commands.specs.declared.state.State.{State}
use Rattle.verifier_commands.specs.State.{opening}
use Rattle.soundness.specs.Typed.{IsPathTyped, ArePathsTyped}
use Rattle.soundness.specs.StateHistory.{events_from, rules_under}
use Rattle.soundness.specs.PathHistory.{path_machinery_of, path_log_events, path_histories_from}
use Rattle.soundness.specs.Showing.{shown_by}
use Rattle.soundness.specs.IsHistory.{IsTicking, IsTimely, AreTimely, IsHistory, AreHistories}
use Rattle.soundness.proofs.MachineryLemmas.{machinery_ticks, machinery_timely, machinery_history}
use Rattle.soundness.proofs.LawfulLemmas.{path_lawful, path_timely, opening-distinct}

-- The events of a log are timely, whatever its commands.
pub path_log_timely : (scheme : Scheme) (header : Header) (number : ℕ) (commands : List Command)
    → IsTimely header number (path_log_events scheme header number commands)
path_log_timely scheme header number commands =
    machinery_timely scheme.format.longest scheme.digest (path_machinery_of scheme header number) (λ state. state.clock) header number
    (opening number header) commands refl (λ state. refl) (path_timely (rules_under scheme header number))

-- Those of typed commands are a history.
pub path_log_history : (scheme : Scheme) (header : Header) (number : ℕ) (commands : List Command)
    → AllByRecursion (IsPathTyped scheme.format.longest) commands
    → IsHistory scheme.format.longest scheme.digest header number (path_log_events scheme header number commands)
path_log_history scheme header number commands typed =
    machinery_history scheme.format.longest scheme.digest (path_machinery_of scheme header number) (λ state. state.clock) header number
    shown_by (λ state. AreDistinct state.cache.entries) (IsPathTyped scheme.format.longest) (opening number header) commands refl
    (λ state. refl) (path_timely (rules_under scheme header number)) (path_lawful (rules_under scheme header number)) (λ path. refl)
    (opening-distinct number header) typed

-- The clock moves with each event that is told from a state.
pub path_events-tick : (scheme : Scheme) (header : Header) (number index : ℕ) (state : State) (commands : List Command)
    → IsTicking number index state.clock (events_from (path_machinery_of scheme header number) number index state commands)
path_events-tick scheme header number index state commands =
    machinery_ticks (path_machinery_of scheme header number) number (λ state. state.clock) index state commands
    (λ state. refl) (path_timely (rules_under scheme header number))

-- So it is of all logs.
pub path_logs_timely : (scheme : Scheme) (header : Header) (number : ℕ) (logs : List (List Command))
    → AreTimely header number (path_histories_from scheme header number logs)
path_logs_timely scheme header number [] = tt
path_logs_timely scheme header number (log ∷ logs) =
    (path_log_timely scheme header number log, path_logs_timely scheme header (suc number) logs)

pub path_logs_histories : (scheme : Scheme) (header : Header) (number : ℕ) (logs : List (List Command))
    → ArePathsTyped scheme.format.longest logs
    → AreHistories scheme.format.longest scheme.digest header number (path_histories_from scheme header number logs)
path_logs_histories scheme header number [] typed = tt
path_logs_histories scheme header number (log ∷ logs) typed =
    (path_log_history scheme header number log typed.0, path_logs_histories scheme header (suc number) logs typed.1)
