-- Runs of one worker, and that a rolling host logs what the plain host logs.
use Rattle.std.specs.Prelude.{◌≡◌, true, false, Bool, List, length, None}
use Rattle.record_hash.specs.Functions.{DigestFunctions}
use Rattle.script_text.specs.declared.task.Task.{Task}
use Rattle.host_core.specs.Host.{Host}
use Rattle.host_core.specs.World.{World, logs_of, set_up}
use Rattle.host_core.specs.WorldEvent.{WorldEvent, AreEnabled, run_events}
use Rattle.shipped_host.specs.declared.settings.Settings.{Settings}
use Rattle.shipped_host.specs.ShippedHost.{shipped_host}
use Rattle.host_fits.specs.Promise.{CanRun}
use Rattle.host_serving.specs.Leading.{first_end}
use Rattle.host_serving.specs.Form.{AreInRounds}
use Rattle.host_serving.specs.Standing.{IsAllServed}
use Rattle.one_worker.specs.Deeds.{AreDone, acts_of, standing_in, all_deeds}

-- the same host, in the other mode or in this
abbrev pub in_mode : {C R : Type 0} → Bool → Host C R → Host C R
in_mode rolling host = record host { rolling = rolling }

module _ {C R : Type 0} (host : Host C R) (events : List (WorldEvent R)) where
  -- the world behind the events, from the setup on
  abbrev pub world_behind : World C
  world_behind = run_events host (set_up host) events

  -- they may happen, and no clock ends
  pub record IsUnended : Type 0 where
    pub enabled : AreEnabled host (set_up host) events
    pub unended : first_end host (set_up host) events ≡ None

  -- A run that serves its whole script.
  pub record IsWholeRun : Type 0 where
    pub form : AreInRounds host (set_up host) events
    pub way : IsUnended
    pub whole : IsAllServed host world_behind

  -- The only worker did what the script asks, from the setup on, deed by deed.
  abbrev pub DoesAll : Type 0
  DoesAll = AreDone (acts_of host) (standing_in host (set_up host)) (all_deeds (length host.setup.after) host.script) (standing_in host world_behind)

-- Whatever whole run there is in either mode, its worker does what the script asks, deed by deed; so all logs are the same.
pub record LogsTheSame {C R : Type 0} (host : Host C R) : Type 0 where
  pub does : (rolling : Bool) (events : List (WorldEvent R)) → IsWholeRun (in_mode rolling host) events → DoesAll (in_mode rolling host) events
  pub same : (events others : List (WorldEvent R)) → IsWholeRun (in_mode false host) events → IsWholeRun (in_mode true host) others
      → logs_of (world_behind (in_mode true host) others) ≡ logs_of (world_behind (in_mode false host) events)

-- It is so of the shipped host, where it has one worker and can run in either mode.
abbrev pub OneWorkerLogsTheSame : Type 0
OneWorkerLogsTheSame = (functions : DigestFunctions) (settings : Settings) (script : List (List Task))
    → CanRun functions (record settings { rolling = true }) script → settings.header.verifiers ≡ 1
    → LogsTheSame (shipped_host functions settings script)
