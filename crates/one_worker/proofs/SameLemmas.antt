-- A rolling host with one worker logs what the plain host logs.
use Rattle.std.proofs.Common.{◌≡◌, true, false, Bool, List, ◌∷◌, [], length, None, ◌-◌, refl, sym, ◌∙◌, ap, subst, arith}
use Rattle.std.proofs.lemmas.List.{length-replicate}
use Rattle.record_hash.specs.Functions.{DigestFunctions}
use Rattle.record_text.specs.declared.request.Request.{Request}
use Rattle.script_text.specs.declared.task.Task.{Task}
use Rattle.host_core.specs.Host.{Host}
use Rattle.host_core.specs.World.{fresh, set_up, logs_of}
use Rattle.host_core.specs.WorldEvent.{WorldEvent, run_events}
use Rattle.host_shard.specs.Content.{Content}
use Rattle.host_order.specs.Close.{MovesKeepEpoch}
use Rattle.host_serving.proofs.BeforeLaws.{run-count}
use Rattle.round_order.specs.Steady.{IsSteady}
use Rattle.shipped_host.specs.declared.settings.Settings.{Settings}
use Rattle.shipped_host.specs.ShippedHost.{shipped_host}
use Rattle.host_fits.specs.Promise.{CanRun}
use Rattle.one_worker.specs.Deeds.{Standing, standing_in, all_deeds}
use Rattle.one_worker.specs.Runs.{world_behind, IsWholeRun, DoesAll, LogsTheSame, OneWorkerLogsTheSame}
use Rattle.one_worker.proofs.ShapeLemmas.{IsShaped, all_same}
use Rattle.one_worker.proofs.EventLemmas.{goes_from}
use Rattle.one_worker.proofs.PlainLemmas.{plain_all}
use Rattle.one_worker.proofs.ToldLemmas.{IsSetUp, same_contents}
use Rattle.one_worker.proofs.WholeLemmas.{logs_one, rolling_all}
use Rattle.one_worker.proofs.ShippedLemmas.{is_set_up}

-- one worker is set up
one_worker : {C R : Type 0} (host : Host C R) → host.header.verifiers ≡ 1 → (events : List (WorldEvent R)) → length (run_events host (set_up host) events).workers ≡ 1
one_worker host one events =
    let count = run-count host (set_up host) events in
    let more = length-replicate (host.header.verifiers - 1) (fresh host.header) in
    omega (arith, count, more, one)

module _ (functions : DigestFunctions) (settings : Settings) (script : List (List Task)) (can : CanRun functions (record settings { rolling = true }) script)
    (one : settings.header.verifiers ≡ 1) (steady : (rolling : Bool) → IsSteady (shipped_host functions (record settings { rolling = rolling }) script) true)
    (keeps : (rolling : Bool) → MovesKeepEpoch (shipped_host functions (record settings { rolling = rolling }) script)) where
  abbrev in_either : Bool → Host Content Request
  in_either rolling = shipped_host functions (record settings { rolling = rolling }) script

  can_either : (rolling : Bool) → CanRun functions (record settings { rolling = rolling }) script
  can_either rolling = record {
    in_range = record {
      header = can.in_range.header;
      cache = can.in_range.cache;
      shards = can.in_range.shards;
      hot = can.in_range.hot;
      cold = λ is. can.in_range.cold refl;
    };
    counters = can.counters;
    keys = can.keys;
    digests = can.digests;
  }

  set_up_either : (rolling : Bool) → IsSetUp (in_either rolling)
  set_up_either rolling = is_set_up functions (record settings { rolling = rolling }) script (can_either rolling) (can.in_range.cold refl) one (steady rolling)

  does : (rolling : Bool) (events : List (WorldEvent Request)) → IsWholeRun (in_either rolling) events → DoesAll (in_either rolling) events
  does false events run = plain_all (in_either false) refl (steady false) (keeps false) one refl events run.form
      (goes_from (in_either false) (set_up (in_either false)) events run.way.enabled run.way.unended) run.whole
  does true events run = rolling_all (in_either true) refl (set_up_either true) (keeps true) events run.form
      (goes_from (in_either true) (set_up (in_either true)) events run.way.enabled run.way.unended) run.whole

  shaped : IsShaped (in_either true) (in_either true).setup.after (standing_in (in_either true) (set_up (in_either true))).shards
  shaped = subst (λ (cs : List (List Content)). IsShaped (in_either true) (in_either true).setup.after cs) (sym (same_contents (in_either true).setup.after))
      (record { count = refl; seated = (set_up_either true).shaped; owners = λ s seat ask. refl })

  same : (events others : List (WorldEvent Request)) → IsWholeRun (in_either false) events → IsWholeRun (in_either true) others
      → logs_of (world_behind (in_either true) others) ≡ logs_of (world_behind (in_either false) events)
  same events others plainly rolling =
      logs_one (in_either true) (world_behind (in_either true) others) (one_worker (in_either true) one others)
      ∙ ap (λ (standing : Standing Content). standing.log ∷ [])
      (all_same (in_either true) (in_either true).setup.after (set_up_either true).known (all_deeds (length (in_either true).setup.after) (in_either true).script)
      (standing_in (in_either true) (set_up (in_either true))) (standing_in (in_either true) (world_behind (in_either true) others)) (standing_in (in_either false) (world_behind (in_either false) events))
      shaped (does true others rolling) (does false events plainly))
      ∙ sym (logs_one (in_either false) (world_behind (in_either false) events) (one_worker (in_either false) one events))

  logs_the_same : LogsTheSame (shipped_host functions settings script)
  logs_the_same = record { does = does; same = same }

-- It is so of the shipped host.
pub one_worker_so : ((functions : DigestFunctions) (settings : Settings) (script : List (List Task)) → settings.hot ≡ None → IsSteady (shipped_host functions settings script) true)
    → ((functions : DigestFunctions) (settings : Settings) (script : List (List Task)) → MovesKeepEpoch (shipped_host functions settings script)) → OneWorkerLogsTheSame
one_worker_so steady keeps functions settings script can one =
    logs_the_same functions settings script can one
    (λ rolling. steady functions (record settings { rolling = rolling }) script (can.in_range.cold refl))
    (λ rolling. keeps functions (record settings { rolling = rolling }) script)
