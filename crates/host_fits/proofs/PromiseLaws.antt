-- The shipped host fits and is clear, so all that holds of such a host holds of it.
use Rattle.std.proofs.Common.{◌≡◌, ℕ, ◌^◌, true, false, nat_lt, List, [], get_or, refl, subst}
use Rattle.std.proofs.lemmas.Bool.{false≢true}
use Rattle.tree_keys.specs.Path.{key_bits}
use Rattle.record_hash.specs.Functions.{DigestFunctions}
use Rattle.record_text.specs.declared.request.Request.{Request}
use Rattle.record_text.specs.Longest.{longest_of}
use Rattle.record_text.specs.Tree.{wide_of}
use Rattle.script_text.specs.declared.task.Task.{Task}
use Rattle.host_shard.specs.Content.{Content, cold, hot, vacant, pending}
use Rattle.host_laws.specs.Served.{waiting}
use Rattle.host_core.specs.World.{World, set_up}
use Rattle.host_core.specs.WorldEvent.{WorldEvent, AreEnabled, run_events}
use Rattle.host_core.specs.Deeds.{IsFit}
use Rattle.host_core.specs.Clear.{IsClear}
use Rattle.host_core.proofs.CoreLaws.{always_accepted, always_answered, always_answered_in_time, always_done, always_round_done, always_even, always_in_phase, always_in_round, always_level_behind_round, always_behind_close, always_sealed, always_permuted, always_certified, always_whole}
use Rattle.host_core.proofs.ExhibitLaws.{always_nothing_to_show, always_served_serially}
use Rattle.shipped_host.specs.declared.settings.Settings.{Settings}
use Rattle.host_core.specs.Core.{IsInRound}
use Rattle.shipped_host.specs.ShippedHost.{is_blob, serves_key, is_place_of, shipped_host}
use Rattle.host_fits.specs.Promise.{CanRun, IsPromised}
use Rattle.host_fits.proofs.Keeping.{Setting, IsSetting, setting_of, host_in, ranged, PlacesMirror, keeping_of}
use Rattle.host_fits.proofs.PlaceLemmas.{both}
use Rattle.host_fits.proofs.FitLemmas.{serve_any}
use Rattle.host_fits.proofs.RestLemmas.{rest_any}
use Rattle.host_fits.proofs.SettingLemmas.{is_setting}
use Rattle.host_fits.proofs.RangeLemmas.{are_enabled, run_same}
use Rattle.host_fits.proofs.OpenLemmas.{setup_mirrored, setup_deed, others_rest, setup_clear, setup_apart}

-- something waits where a key is served
owner_waits : (seats : List Content) (key : ℕ) (content : Content) → serves_key seats key content ≡ true → waiting (pending content) ≡ [] → ⊥
owner_waits seats key (cold shard) owns none = cc
owner_waits seats key (hot found) owns none = cc
owner_waits seats key vacant owns none = false≢true owns

pub is_fit : (setting : Setting) → IsSetting setting → IsFit (PlacesMirror setting) (ranged setting)
is_fit setting is = record {
  some = is.some;
  others = others_rest setting is;
  setup = setup_deed setting is;
  setup_mirrored = setup_mirrored setting is;
  waits = λ rolling s seat contents request owns none.
      owner_waits contents request.key (get_or contents seat vacant)
      (both (serves_key contents request.key (get_or contents seat vacant)) (is_blob (longest_of setting.settings.header) request.value)
      (both (nat_lt request.key (2 ^ key_bits (wide_of setting.settings.header)))
      (is_place_of (longest_of setting.settings.header) contents seat request) owns).1).0 none;
  serve = λ i clock s seat contents request done ready within owns serves. (serve_any setting i clock s seat contents request done is ready owns serves).0;
  move = λ i epoch clock s contents done ready turned moves. (rest_any setting i epoch clock s contents done is ready turned moves).0;
}

is_clear : (setting : Setting) → IsSetting setting → IsClear (PlacesMirror setting) (keeping_of setting) (ranged setting)
is_clear setting is = record {
  setup_clear = λ path none. setup_clear setting is path;
  setup_apart = λ path s home. setup_apart setting is path s home;
  serve = λ i clock s seat contents request done ready within owns serves. (serve_any setting i clock s seat contents request done is ready owns serves).1;
  move = λ i epoch clock s contents done ready turned moves. (rest_any setting i epoch clock s contents done is ready turned moves).1;
}

-- Whatever happens, the promise holds where no seat owns a key out of range.
module _ (setting : Setting) (events : List (WorldEvent Request)) (is : IsSetting setting)
    (enabled : AreEnabled (ranged setting) (set_up (ranged setting)) events) where
  abbrev fit : IsFit (PlacesMirror setting) (ranged setting)
  fit = is_fit setting is

  abbrev clear : IsClear (PlacesMirror setting) (keeping_of setting) (ranged setting)
  clear = is_clear setting is

  ranged_promised : IsPromised (ranged setting) (run_events (ranged setting) (set_up (ranged setting)) events)
  ranged_promised = record {
    accepted = always_accepted (PlacesMirror setting) (ranged setting) fit events enabled;
    answered = λ plain. always_answered (PlacesMirror setting) (ranged setting) plain fit events enabled;
    in_time = always_answered_in_time (PlacesMirror setting) (ranged setting) fit events enabled;
    done = λ plain. always_done (PlacesMirror setting) (ranged setting) plain fit events enabled;
    round_done = λ rolling. always_round_done (PlacesMirror setting) (ranged setting) rolling fit events enabled;
    even = always_even (PlacesMirror setting) (ranged setting) fit events enabled;
    in_phase = λ plain. always_in_phase (PlacesMirror setting) (ranged setting) plain fit events enabled;
    in_round = λ rolling. always_in_round (PlacesMirror setting) (ranged setting) rolling fit events enabled;
    level = always_level_behind_round (PlacesMirror setting) (ranged setting) fit events enabled;
    behind_close = always_behind_close (PlacesMirror setting) (ranged setting) fit events enabled;
    sealed = always_sealed (PlacesMirror setting) (ranged setting) fit events enabled;
    permuted = always_permuted (PlacesMirror setting) (ranged setting) fit events enabled;
    certified = always_certified (PlacesMirror setting) (ranged setting) fit events enabled;
    whole = always_whole (PlacesMirror setting) (ranged setting) fit events enabled;
    nothing_to_show = always_nothing_to_show (PlacesMirror setting) (keeping_of setting) (ranged setting) fit clear events enabled;
    serially = always_served_serially (PlacesMirror setting) (keeping_of setting) (ranged setting) fit clear events enabled;
  }

-- and it says the same of the host as it is
module _ (setting : Setting) (world : World Content) where
  same_round : IsInRound (ranged setting) world → IsInRound (host_in setting) world
  same_round is phase =
      let in_round = is phase in (
        record { from_first = in_round.0.from_first; within = in_round.0.within; scanned = in_round.0.scanned; waits = in_round.0.waits },
        record { clocks = in_round.1.clocks; waits = in_round.1.waits },
      )

  same_promise : IsPromised (ranged setting) world → IsPromised (host_in setting) world
  same_promise is = record {
    accepted = is.accepted;
    answered = is.answered;
    in_time = is.in_time;
    done = is.done;
    round_done = is.round_done;
    even = is.even;
    in_phase = is.in_phase;
    in_round = λ rolling. same_round (is.in_round rolling);
    level = is.level;
    behind_close = is.behind_close;
    sealed = is.sealed;
    permuted = is.permuted;
    certified = is.certified;
    whole = is.whole;
    nothing_to_show = is.nothing_to_show;
    serially = is.serially;
  }

module _ (functions : DigestFunctions) (settings : Settings) (script : List (List Task)) (events : List (WorldEvent Request)) (can : CanRun functions settings script) where
  -- Whatever happens, the promise holds.
  pub promised : AreEnabled (shipped_host functions settings script) (set_up (shipped_host functions settings script)) events
      → IsPromised (shipped_host functions settings script) (run_events (shipped_host functions settings script) (set_up (shipped_host functions settings script)) events)
  promised enabled =
      subst (λ (w : World Content). IsPromised (shipped_host functions settings script) w)
      (run_same setting can.keys (set_up (shipped_host functions settings script)) events)
      (same_promise setting _
      (ranged_promised setting events (is_setting setting can)
      (are_enabled setting can.keys (set_up (shipped_host functions settings script)) events enabled)))
    where
      setting : Setting
      setting = setting_of functions settings script
