-- What the host does for a request, and for a shard at a close, is storing: so its contents hold the plain map.
use Rattle.std.proofs.Common.{◌≡◌, ℕ, zero, suc, ◌^◌, ◌<◌, Bool, true, false, List, [], ◌∷◌, length, map, get_or, set, Some, None, if◌then◌else◌, refl, sym, ◌∙◌, ap, subst, inl, arith}
use Rattle.std.specs.Prelude.{◌==◌}
use Rattle.std.specs.List.{AllByRecursion}
use Rattle.tree_keys.specs.Path.{key_bits, root_of}
use Rattle.lamport_clocks.specs.declared.stamp.Stamp.{Stamp}
use Rattle.lamport_clocks.specs.Stamp.{IsLater}
use Rattle.lamport_clocks.specs.Reading.{Reading}
use Rattle.record_hash.specs.Functions.{DigestFunctions}
use Rattle.script_text.specs.declared.task.Task.{Task}
use Rattle.stamp_order.specs.Serial.{none_everywhere}
use Rattle.record_text.specs.declared.element.Element.{Element}
use Rattle.record_text.specs.declared.request.Request.{Request}
use Rattle.record_text.specs.Longest.{longest_of}
use Rattle.record_text.specs.Tree.{wide_of}
use Rattle.soundness.specs.History.{Event}
use Rattle.soundness.specs.StateHistory.{events_from}
use Rattle.soundness.specs.Certified.{operations_in, order_of, certified_operations}
use Rattle.soundness.specs.World.{Stored, stored_behind}
use Rattle.host_shard.specs.Shard.{Shard}
use Rattle.host_shard.specs.Content.{Content, cold, hot, vacant}
use Rattle.host_plan.specs.Setup.{first_contents, paths_below}
use Rattle.host_core.specs.Host.{Done, Host, scheme, machinery, resting}
use Rattle.host_core.specs.World.{World, set_up}
use Rattle.host_core.specs.WorldEvent.{WorldEvent, HasAdvanced, AreEnabled, run_events}
use Rattle.host_core.specs.Core.{histories}
use Rattle.host_core.specs.Deeds.{IsStamped, IsReady, MoveFits}
use Rattle.host_core.specs.Clear.{IsNotAfter}
use Rattle.host_core.specs.Storing.{operating_of, IsStoringDeed, IsStoring, HoldsMap, HoldsAnswered, HoldsCertified}
use Rattle.host_core.proofs.StoringLaws.{unanswered, always_answered_held, always_certified_held}
use Rattle.host_holds.specs.Holding.{hot_record_of, stamp_or, held_value, held_since}
use Rattle.host_holds.proofs.HeldLaws.{move_same}
use Rattle.shipped_host.specs.Planned.{IsMoved}
use Rattle.shipped_host.specs.Seated.{SeatsMirror, waiting_at}
use Rattle.shipped_host.specs.ShippedHost.{new_seats}
use Rattle.shipped_host.proofs.SeatLaws.{stage_at, stage_mirrors, seats_moved}
use Rattle.host_fits.specs.Promise.{CanRun}
use Rattle.host_fits.specs.Holds.{shard_of, storing_of, ContentsHold}
use Rattle.host_fits.proofs.Keeping.{Setting, IsSetting, setting_of, bits_in, host_in, ranged, PlacesMirror}
use Rattle.host_fits.proofs.PlaceLemmas.{all-each, shard_tree}
use Rattle.host_fits.proofs.ServeLemmas.{Serves}
use Rattle.host_fits.proofs.RestLemmas.{rest_any}
use Rattle.host_fits.proofs.SettingLemmas.{is_setting}
use Rattle.host_fits.proofs.RangeLemmas.{are_enabled, run_same}
use Rattle.host_fits.proofs.PromiseLaws.{is_fit}
use Rattle.host_fits.proofs.AccessLemmas.{home_small, home_is, one_access_stores}
use Rattle.host_fits.proofs.ColdLemmas.{shard_access}
use Rattle.host_fits.proofs.HotLemmas.{hot_access}

-- ---- a request

serve_storing : (setting : Setting) (worker : ℕ) (clock : Reading) (s seat : ℕ) (contents : List Content) (request : Request) (found : Done Content)
    → Serves setting worker clock s seat contents request found
    → IsStoringDeed (PlacesMirror setting) (storing_of setting.settings) (ranged setting) worker (resting (ranged setting) worker clock) found.commands s contents (set contents seat found.after)
serve_storing setting worker clock s zero contents request found serves =
    one_access_stores setting worker _ _ found.commands _ s contents _ request _ (shard_access setting worker clock s contents request found serves)
serve_storing setting worker clock s (suc k) contents request found serves =
    one_access_stores setting worker _ _ found.commands _ s contents _ request _ (hot_access setting worker clock s k contents request found serves)

-- ---- a move

-- what holds of the stamps of all that waits holds of that since which a key does
since_of : (P : Stamp → Type 0) (key : ℕ) (places : List Content) (at : Stamp) → AllByRecursion (λ (element : Element). P element.stamp) (waiting_at places) → P at
    → P (stamp_or (hot_record_of key places) at)
since_of P key [] at all here = here
since_of P key (cold shard ∷ places) at all here = since_of P key places at all.1 here
since_of P key (vacant ∷ places) at all here = since_of P key places at all here
since_of P key (hot found ∷ places) at all here = go (found.key == key) (since_of P key places at all.1 here)
  where
    go : (b : Bool) → P (stamp_or (hot_record_of key places) at) → P (stamp_or (if b then Some found else hot_record_of key places) at)
    go true rest = all.0
    go false rest = rest

-- and where they are of one epoch, so is that
since_epoch : (setting : Setting) (epoch key : ℕ) (contents : List Content) (shard : Shard) (places : List Content) → contents ≡ cold shard ∷ places
    → AllByRecursion (IsStamped (ranged setting) epoch) (waiting_at contents) → (held_since contents key).epoch ≡ epoch
since_epoch setting epoch key contents shard places is all =
    subst (λ (cs : List Content). AllByRecursion (IsStamped (ranged setting) epoch) (waiting_at cs) → (held_since cs key).epoch ≡ epoch) (sym is)
    (λ here.
    let stamps = all-each (IsStamped (ranged setting) epoch) (λ element. element.stamp.epoch ≡ epoch) (λ element stamped. stamped.1) (waiting_at (cold shard ∷ places)) here in
    since_of (λ at. at.epoch ≡ epoch) key places shard.stamp stamps.1 stamps.0) all

move_storing : (setting : Setting) (worker epoch : ℕ) (clock : Reading) (s : ℕ) (contents : List Content) (found : Done (List Content))
    → IsSetting setting → IsReady (PlacesMirror setting) (ranged setting) worker clock epoch s contents → clock.at.epoch ≡ suc epoch
    → (ranged setting).move worker clock s contents ≡ Some found
    → IsStoringDeed (PlacesMirror setting) (storing_of setting.settings) (ranged setting) worker (resting (ranged setting) worker clock) found.commands s contents found.after
move_storing setting worker epoch clock s contents found settled ready turned is = record {
  apart = λ index key not_home. none index key;
  stores = λ index key stored home same.
      ap (λ (events : List Event). stored_behind stored (operations_in events) key) (none index key)
      ∙ (same ∙ sym (held_same key (home_small (2 ^ key_bits (wide_of setting.settings.header)) key (shard_of setting.settings key) s home).0));
  behind = λ index key home. subst (AllByRecursion (λ (event : Event). IsLater event.at (held_since contents key))) (sym (none index key)) tt;
  up_to = λ index key home. subst (AllByRecursion (λ (event : Event). IsNotAfter event.at (held_since found.after key))) (sym (none index key)) tt;
  rises = λ key home. inl (omega (arith, old_epoch key, new_epoch key, turned, fits.deed.epoch));
}
  where
    longest : ℕ
    longest = longest_of setting.settings.header

    fits : MoveFits (PlacesMirror setting) (ranged setting) worker clock s contents found
    fits = (rest_any setting worker epoch clock s contents found settled ready turned is).0

    mirrors : SeatsMirror longest setting.functions.digest contents
    mirrors = ready.mirrored.mirrors

    moved_so : IsMoved setting.functions.digest worker setting.settings.hot (stage_at mirrors.shard mirrors.places clock) found
    moved_so = seats_moved longest setting.functions.digest worker setting.settings.hot clock contents found settled.digests settled.threshold mirrors is

    none : (index key : ℕ) → operating_of (ranged setting) worker (resting (ranged setting) worker clock) found.commands index key ≡ []
    none index key =
        unanswered key (events_from (machinery (ranged setting) worker) worker index (resting (ranged setting) worker clock) found.commands) (fits.deed.answered index)

    held_same : (key : ℕ) → key < 2 ^ key_bits (wide_of setting.settings.header) → held_value found.after key ≡ held_value contents key
    held_same key in_range =
        ap (λ (cs : List Content). held_value cs key) moved_so.after
        ∙ (move_same longest setting.functions.digest worker setting.settings.hot (stage_at mirrors.shard mirrors.places clock) moved_so.new found.commands key
        (subst (λ (w : Bool). key < 2 ^ key_bits w) (sym (shard_tree setting s contents ready.mirrored mirrors)) in_range)
        settled.digests settled.threshold (stage_mirrors longest setting.functions.digest contents clock mirrors) moved_so.is
        ∙ ap (λ (cs : List Content). held_value cs key) (sym mirrors.is))

    old_epoch : (key : ℕ) → (held_since contents key).epoch ≡ epoch
    old_epoch key = since_epoch setting epoch key contents mirrors.shard mirrors.places mirrors.is ready.stamped

    new_epoch : (key : ℕ) → (held_since found.after key).epoch ≡ found.clock.at.epoch
    new_epoch key = since_epoch setting found.clock.at.epoch key found.after moved_so.new.shard moved_so.new.places moved_so.after fits.deed.stamped

-- ---- the setup

none_held : (first : ℕ) (frontiers : List (List Bool)) (s key : ℕ) → held_value (get_or (map new_seats (first_contents first frontiers)) s []) key ≡ None
none_held first [] zero key = refl
none_held first [] (suc s) key = refl
none_held first (frontier ∷ frontiers) zero key = refl
none_held first (frontier ∷ frontiers) (suc s) key = none_held first frontiers s key

-- Whatever the host does is storing.
pub is_storing : (setting : Setting) → IsSetting setting → IsStoring (PlacesMirror setting) (storing_of setting.settings) (ranged setting)
is_storing setting settled = record {
  setup_none = λ key s home. none_held setting.settings.header.first (paths_below (bits_in setting) (root_of (wide_of setting.settings.header))) s key;
  serve = λ i clock s seat contents request done ready within owns serves.
      serve_storing setting i clock s seat contents request done (record { settled = settled; ready = ready; owns = owns; is = serves });
  move = λ i epoch clock s contents done ready turned moves. move_storing setting i epoch clock s contents done settled ready turned moves;
}

-- ---- the world

module _ (setting : Setting) (events : List (WorldEvent Request)) (can : CanRun setting.functions setting.settings setting.script) where
  abbrev host : Host Content Request
  host = host_in setting

  settled : IsSetting setting
  settled = is_setting setting can

  -- what a machine holds is what the contents hold
  contents_hold : (world : World Content) (stored : Stored) → HoldsMap (storing_of setting.settings) world stored → ContentsHold setting.settings world stored
  contents_hold world stored holds key in_range = holds key (shard_of setting.settings key) (home_is setting key in_range)

  -- Behind whatever events the contents hold what the operations leave.
  pub answered_in : AreEnabled host (set_up host) events
      → ContentsHold setting.settings (run_events host (set_up host) events)
      (stored_behind none_everywhere (operations_in (order_of (histories host (run_events host (set_up host) events)))))
  answered_in enabled =
      contents_hold (run_events host (set_up host) events) _
      (subst (λ (w : World Content). HoldsAnswered (ranged setting) (storing_of setting.settings) w)
      (run_same setting can.keys (set_up host) events)
      (always_answered_held (PlacesMirror setting) (storing_of setting.settings) (ranged setting) (is_fit setting settled) (is_storing setting settled) events
      (are_enabled setting can.keys (set_up host) events enabled)))

  -- And behind a whole last close, what the certified operations do.
  pub certified_in : AreEnabled host (set_up host) events
      → ((i : ℕ) → i < length (run_events host (set_up host) events).workers → HasAdvanced host (run_events host (set_up host) events) i 2)
      → ContentsHold setting.settings (run_events host (set_up host) events)
      (stored_behind none_everywhere (certified_operations (scheme host) setting.settings.header.first (histories host (run_events host (set_up host) events))))
  certified_in enabled advanced =
      contents_hold (run_events host (set_up host) events) _
      (subst (λ (w : World Content). HoldsCertified (ranged setting) (storing_of setting.settings) w)
      (run_same setting can.keys (set_up host) events)
      (always_certified_held (PlacesMirror setting) (storing_of setting.settings) (ranged setting) (is_fit setting settled) (is_storing setting settled) events
      (are_enabled setting can.keys (set_up host) events enabled)) advanced)
