-- Whatever happens, each command that the shipped host logs, rolling or not, names paths of its header's tree, and brings in a value of its path's kind.
use Rattle.std.proofs.Common.{List, subst}
use Rattle.soundness.specs.Typed.{ArePathsTypedIn}
use Rattle.record_hash.specs.Functions.{DigestFunctions}
use Rattle.record_text.specs.declared.request.Request.{Request}
use Rattle.record_text.specs.Longest.{longest_of}
use Rattle.record_text.specs.Tree.{wide_of}
use Rattle.script_text.specs.declared.task.Task.{Task}
use Rattle.host_shard.specs.Content.{Content}
use Rattle.host_core.specs.World.{World, logs_of, set_up}
use Rattle.host_core.specs.WorldEvent.{WorldEvent, AreEnabled, run_events}
use Rattle.host_core.proofs.CoreLaws.{always_typed}
use Rattle.shipped_host.specs.declared.settings.Settings.{Settings}
use Rattle.shipped_host.specs.ShippedHost.{shipped_host}
use Rattle.host_fits.specs.Promise.{CanRun}
use Rattle.host_fits.proofs.Keeping.{Setting, setting_of, ranged, PlacesMirror}
use Rattle.host_fits.proofs.SettingLemmas.{is_setting}
use Rattle.host_fits.proofs.RangeLemmas.{are_enabled, run_same}
use Rattle.host_fits.proofs.PromiseLaws.{is_fit}

module _ (functions : DigestFunctions) (settings : Settings) (script : List (List Task)) (events : List (WorldEvent Request)) (can : CanRun functions settings script) where
  pub logs_typed : AreEnabled (shipped_host functions settings script) (set_up (shipped_host functions settings script)) events
      → ArePathsTypedIn (wide_of settings.header) (longest_of settings.header) (logs_of (run_events (shipped_host functions settings script) (set_up (shipped_host functions settings script)) events))
  logs_typed enabled =
      subst (λ (w : World Content). ArePathsTypedIn (wide_of settings.header) (longest_of settings.header) (logs_of w))
      (run_same setting can.keys (set_up (shipped_host functions settings script)) events)
      (always_typed (PlacesMirror setting) (ranged setting) (is_fit setting (is_setting setting can)) events
      (are_enabled setting can.keys (set_up (shipped_host functions settings script)) events enabled))
    where
      setting : Setting
      setting = setting_of functions settings script
