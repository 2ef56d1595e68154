-- The worlds of runs, and the plain map that their logs certify.
use Rattle.std.specs.Prelude.{◌^◌, ◌<◌, List}
use Rattle.lamport_clocks.specs.declared.header.Header.{Header}
use Rattle.record_hash.specs.Functions.{DigestFunctions}
use Rattle.record_text.specs.declared.request.Request.{Request}
use Rattle.log_codec.specs.declared.command.Command.{Command}
use Rattle.slot_rewriting.specs.Writing.{written_logs}
use Rattle.merkle_records.specs.Scheme.{scheme_of}
use Rattle.stamp_order.specs.Serial.{none_everywhere}
use Rattle.soundness.specs.Certified.{certified_operations}
use Rattle.soundness.specs.World.{Stored, stored_behind}
use Rattle.bundle_report.specs.BundleReport.{histories_at}
use Rattle.script_text.specs.declared.task.Task.{Task}
use Rattle.host_shard.specs.Content.{Content}
use Rattle.host_core.specs.Host.{Host}
use Rattle.host_core.specs.World.{World, set_up}
use Rattle.host_core.specs.WorldEvent.{WorldEvent, AreEnabled, run_events}
use Rattle.shipped_host.specs.declared.settings.Settings.{Settings}
use Rattle.shipped_host.specs.ShippedHost.{shipped_host}
use Rattle.host_fits.specs.Promise.{CanRun}

-- P holds of whatever shipped host can run, and of the world behind every list of events that are enabled from its setup
-- on. The first epoch has 32 bits, as many as a log spells.
abbrev pub HoldsOfRuns : (Host Content Request → World Content → Type 0) → Type 0
HoldsOfRuns P =
    (functions : DigestFunctions) (settings : Settings) (script : List (List Task)) (events : List (WorldEvent Request))
    → CanRun functions settings script → settings.header.first < 2 ^ 32
    → let host = shipped_host functions settings script in
    AreEnabled host (set_up host) events → P host (run_events host (set_up host) events)

-- the plain map behind the operations that a check certifies of logs
abbrev pub map_certified : DigestFunctions → Header → List (List Command) → Stored
map_certified functions header logs =
    stored_behind none_everywhere
    (certified_operations (scheme_of functions header) header.first (histories_at (scheme_of functions header) header (written_logs header logs)))
