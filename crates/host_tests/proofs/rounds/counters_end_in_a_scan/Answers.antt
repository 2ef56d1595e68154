use Rattle.std.proofs.Common.{map, ap, ◌∙◌}
use Rattle.host_world.specs.Shown.{shown_event}
use Rattle.host_tests.proofs.RoundLemmas.{AreEnabledBehind-same}
use Rattle.host_tests.proofs.rounds.counters_end_in_a_scan.Goals as goal

pub logs_behind-logs-requires-clause-enabled : goal.logs_behind-logs-requires-clause-enabled
logs_behind-logs-requires-clause-enabled g c = λ functions.
    AreEnabledBehind-same functions c.settings-settings.ensures.settings c.script_ending-requests.ensures.script
    (ap (map shown_event) c.as_slice.ensures.value ∙ c.events_ending-events.ensures.events) (c.worked_rounds_are_enabled.ensures.ending_scan functions)
