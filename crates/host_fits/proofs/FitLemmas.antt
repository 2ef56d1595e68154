-- What the host does for a request fits the machine, and is clear.
use Rattle.std.proofs.Common.{◌≡◌, ℕ, zero, suc, Bool, true, List, [], ◌∷◌, length, get_or, set, Some, Ok, refl, sym, ◌∙◌, ap, subst}
use Rattle.std.specs.List.{AllByRecursion}
use Rattle.tree_keys.specs.Path.{IsIn, key_of}
use Rattle.lamport_clocks.specs.declared.stamp.Stamp.{Stamp}
use Rattle.lamport_clocks.specs.Stamp.{IsLater}
use Rattle.lamport_clocks.specs.Reading.{Reading}
use Rattle.record_text.specs.declared.request.Request.{Request}
use Rattle.record_text.specs.Longest.{longest_of}
use Rattle.record_text.specs.Tree.{wide_of}
use Rattle.log_codec.specs.declared.command.Command.{Command}
use Rattle.verifier_commands.specs.Change.{Change}
use Rattle.verifier_commands.specs.declared.state.State.{State}
use Rattle.soundness.specs.History.{Event}
use Rattle.soundness.specs.StateHistory.{rules_under, events_from}
use Rattle.soundness.specs.PathHistory.{path_machinery_under}
use Rattle.soundness.specs.Clash.{first_clash}
use Rattle.soundness.specs.World.{changes_in, last_evicted_behind}
use Rattle.host_shard.specs.Shard.{Shard, pending_shard}
use Rattle.host_shard.specs.Content.{Content, cold, hot, vacant}
use Rattle.host_plan.specs.Plan.{content_after}
use Rattle.host_plan.specs.Request.{is_missed, served}
use Rattle.host_core.specs.Host.{Done, scheme, resting}
use Rattle.host_core.specs.Deeds.{IsReadyAt, ServeFits}
use Rattle.host_core.specs.Clear.{IsNotAfter, IsKept, touching, IsClearDeed}
use Rattle.host_laws.specs.Running.{Told, run, IsHistory}
use Rattle.host_laws.specs.Carried.{carried, IsCarried}
use Rattle.host_laws.specs.Served.{IsOwned, IsWithin, PlanRuns}
use Rattle.host_laws.proofs.RunLaws.{run-history}
use Rattle.shipped_host.specs.Planned.{IsPlanned}
use Rattle.shipped_host.specs.Seated.{IsHotPlace, SeatsMirror}
use Rattle.shipped_host.proofs.PlaceLaws.{place_there}
use Rattle.host_fits.specs.Mirroring.{front_of, frontier_in}
use Rattle.host_fits.proofs.Keeping.{Setting, IsSetting, bits_in, ranged, PlacesMirror, kept_of, home_of, keeping_of}
use Rattle.host_fits.proofs.EventLemmas.{touching-events, touching-none, touching-stamps}
use Rattle.host_fits.proofs.PlaceLemmas.{home-below}
use Rattle.host_fits.proofs.ClearLemmas.{carried-clear, carried-keeps, not_after}
use Rattle.host_fits.proofs.ServeLemmas.{Serves, planned, runs, logged, serve_deed, serve_mirrors, front}

-- ---- what is clear

pub all-weaker : (P Q : Stamp → Type 0) → ((at : Stamp) → P at → Q at) → (told : Told) → AllByRecursion (λ (one : Stamp × Change). P one.0) told
    → AllByRecursion (λ (one : Stamp × Change). Q one.0) told
all-weaker P Q weaker [] all = tt
all-weaker P Q weaker (one ∷ told) all = (weaker one.0 all.0, all-weaker P Q weaker told all.1)

-- A run that carries each record of its shard as it is kept, and no other, within the stamps of the shard's front.
clear_deed : (setting : Setting) (worker : ℕ) (from last : State) (commands : List Command) (told : Told) (s : ℕ) (old new : List Content)
    → run (rules_under (scheme (ranged setting)) setting.settings.header worker) from commands ≡ Ok (told, last)
    → ((path : List Bool) → IsCarried path (kept_of old path) (kept_of new path) (carried path told))
    → ((path : List Bool) → (home_of (wide_of setting.settings.header) (suc (bits_in setting)) path ≡ Some s → ⊥) → carried path told ≡ [])
    → AllByRecursion (λ (one : Stamp × Change). IsLater one.0 (front_of old)) told
    → AllByRecursion (λ (one : Stamp × Change). IsNotAfter one.0 (front_of new)) told
    → IsNotAfter (front_of old) (front_of new)
    → IsClearDeed (PlacesMirror setting) (keeping_of setting) (ranged setting) worker from commands s old new
clear_deed setting worker from last commands told s old new runs once own behind up_to rises = record {
  apart = λ index path not_home. ap (λ (events : List Event). touching path events) (history.events worker index) ∙ touching-none path worker index told (own path not_home);
  clear = λ index path before home kept.
      ap (λ (events : List Event). first_clash before (changes_in (touching path events))) (history.events worker index)
      ∙ (ap (λ (changes : List Change). first_clash before changes) (touching-events path worker index told)
      ∙ carried-clear before path (kept_of old path) (kept_of new path) (carried path told) (once path) kept);
  keeps = λ index path before home kept.
      subst (λ (events : List Event). IsKept (last_evicted_behind before (changes_in (touching path events))) path (kept_of new path)) (sym (history.events worker index))
      (subst (λ (changes : List Change). IsKept (last_evicted_behind before changes) path (kept_of new path)) (sym (touching-events path worker index told))
      (carried-keeps before path (kept_of old path) (kept_of new path) (carried path told) (once path) kept));
  behind = λ index path.
      subst (λ (events : List Event). AllByRecursion (λ (event : Event). IsLater event.at (front_of old)) (touching path events)) (sym (history.events worker index))
      (touching-stamps (λ at. IsLater at (front_of old)) path worker index told behind);
  up_to = λ index path.
      subst (λ (events : List Event). AllByRecursion (λ (event : Event). IsNotAfter event.at (front_of new)) (touching path events)) (sym (history.events worker index))
      (touching-stamps (λ at. IsNotAfter at (front_of new)) path worker index told up_to);
  rises = rises;
}
  where
    history : IsHistory (rules_under (scheme (ranged setting)) setting.settings.header worker) from commands told
    history = run-history (rules_under (scheme (ranged setting)) setting.settings.header worker) from last commands told runs

-- A run that carries no record, and behind which each is kept as before.
clear_none : (setting : Setting) (worker : ℕ) (from last : State) (commands : List Command) (told : Told) (s : ℕ) (old new : List Content)
    → run (rules_under (scheme (ranged setting)) setting.settings.header worker) from commands ≡ Ok (told, last)
    → ((path : List Bool) → carried path told ≡ [])
    → ((path : List Bool) → kept_of new path ≡ kept_of old path)
    → IsNotAfter (front_of old) (front_of new)
    → IsClearDeed (PlacesMirror setting) (keeping_of setting) (ranged setting) worker from commands s old new
clear_none setting worker from last commands told s old new runs none same rises = record {
  apart = λ index path not_home. untouched index path;
  clear = λ index path before home kept.
      ap (λ (events : List Event). first_clash before (changes_in events)) (untouched index path);
  keeps = λ index path before home kept.
      subst (λ (events : List Event). IsKept (last_evicted_behind before (changes_in events)) path (kept_of new path)) (sym (untouched index path))
      (subst (IsKept before path) (sym (same path)) kept);
  behind = λ index path. subst (AllByRecursion (λ (event : Event). IsLater event.at (front_of old))) (sym (untouched index path)) tt;
  up_to = λ index path. subst (AllByRecursion (λ (event : Event). IsNotAfter event.at (front_of new))) (sym (untouched index path)) tt;
  rises = rises;
}
  where
    history : IsHistory (rules_under (scheme (ranged setting)) setting.settings.header worker) from commands told
    history = run-history (rules_under (scheme (ranged setting)) setting.settings.header worker) from last commands told runs

    untouched : (index : ℕ) (path : List Bool)
        → touching path (events_from (path_machinery_under (rules_under (scheme (ranged setting)) setting.settings.header worker)) worker index from commands) ≡ []
    untouched index path = ap (λ (events : List Event). touching path events) (history.events worker index) ∙ touching-none path worker index told (none path)

-- ---- a request

-- it fits, and is clear
abbrev pub BothFit : Setting → ℕ → Reading → ℕ → ℕ → List Content → Request → Done Content → Type 0
BothFit setting worker clock s seat contents request found =
    ServeFits (PlacesMirror setting) (ranged setting) worker clock s seat contents request found
    × IsClearDeed (PlacesMirror setting) (keeping_of setting) (ranged setting) worker (resting (ranged setting) worker clock) found.commands s contents (set contents seat found.after)

module _ (setting : Setting) (worker : ℕ) (clock : Reading) (s : ℕ) (contents : List Content) (request : Request) (found : Done Content) where
  -- at the shard
  module _ (serves : Serves setting worker clock s 0 contents request found) where
    abbrev pub at_shard : SeatsMirror (longest_of setting.settings.header) setting.functions.digest contents
    at_shard = serves.ready.mirrored.mirrors

    abbrev pub shard_plan : IsPlanned setting.settings.absent setting.functions.digest worker clock (get_or contents 0 vacant) request found
    shard_plan = planned setting worker clock s 0 contents request found serves

    abbrev pub shard_left : Shard
    shard_left = served setting.functions.digest worker at_shard.shard shard_plan.is.links request clock (is_missed setting.settings.absent at_shard.shard shard_plan.is.links request)

    pub shard_after : found.after ≡ cold shard_left
    shard_after = shard_plan.is.content ∙ ap (λ (cs : List Content). content_after setting.settings.absent setting.functions.digest worker (get_or cs 0 vacant) shard_plan.is.links request clock) at_shard.is

    pub shard_behind : set contents 0 found.after ≡ cold shard_left ∷ at_shard.places
    shard_behind = ap (λ (c : Content). set contents 0 c) shard_after ∙ ap (λ (cs : List Content). set cs 0 (cold shard_left)) at_shard.is

    pub shard_did : PlanRuns (rules_under (scheme (ranged setting)) setting.settings.header worker) (resting (ranged setting) worker clock) (cold at_shard.shard) (cold shard_left) request shard_plan.plan found.clock
    shard_did =
        subst (λ (c : Content). PlanRuns (rules_under (scheme (ranged setting)) setting.settings.header worker) (resting (ranged setting) worker clock) (cold at_shard.shard) c request shard_plan.plan found.clock) shard_after
        (subst (λ (cs : List Content). PlanRuns (rules_under (scheme (ranged setting)) setting.settings.header worker) (resting (ranged setting) worker clock) (get_or cs 0 vacant) found.after request shard_plan.plan found.clock) at_shard.is
        (runs setting worker clock s 0 contents request found serves))

    -- it is clear
    serve_shard : IsClearDeed (PlacesMirror setting) (keeping_of setting) (ranged setting) worker (resting (ranged setting) worker clock) found.commands s contents (set contents 0 found.after)
    serve_shard =
        clear_deed setting worker (resting (ranged setting) worker clock) (resting (ranged setting) worker found.clock) found.commands shard_did.told s contents (set contents 0 found.after)
        (ap (λ (commands : List Command). run (rules_under (scheme (ranged setting)) setting.settings.header worker) (resting (ranged setting) worker clock) commands) shard_plan.logged ∙ shard_did.runs)
        (subst (λ (cs : List Content). (path : List Bool) → IsCarried path (kept_of cs path) (kept_of (set contents 0 found.after) path) (carried path shard_did.told)) (sym at_shard.is)
        (subst (λ (cs : List Content). (path : List Bool) → IsCarried path (at_shard.shard.records path) (kept_of cs path) (carried path shard_did.told)) (sym shard_behind)
        shard_did.once))
        (λ path not_home. shard_did.own path (λ below. not_home (home-below (wide_of setting.settings.header) at_shard.shard.frontier path (suc (bits_in setting)) s
        (subst (λ (cs : List Content). IsIn (wide_of setting.settings.header) (frontier_in cs)) at_shard.is serves.ready.mirrored.tree)
        (subst (λ (cs : List Content). length (frontier_in cs) ≡ suc (bits_in setting)) at_shard.is serves.ready.mirrored.levels)
        (subst (λ (cs : List Content). key_of (frontier_in cs) ≡ s) at_shard.is serves.ready.mirrored.number) below)))
        (subst (λ (cs : List Content). AllByRecursion (λ (one : Stamp × Change). IsLater one.0 (front_of cs)) shard_did.told) (sym at_shard.is)
        (all-weaker (IsWithin (Some (pending_shard at_shard.shard)) (Some (pending_shard shard_left))) (λ stamp. IsLater stamp at_shard.shard.stamp) (λ stamp is. is.0) shard_did.told shard_did.within))
        (subst (λ (cs : List Content). AllByRecursion (λ (one : Stamp × Change). IsNotAfter one.0 (front_of cs)) shard_did.told) (sym shard_behind)
        (all-weaker (IsWithin (Some (pending_shard at_shard.shard)) (Some (pending_shard shard_left))) (λ stamp. IsNotAfter stamp shard_left.stamp) (λ stamp is. not_after stamp shard_left.stamp is.1) shard_did.told shard_did.within))
        (front setting worker clock s 0 contents request found serves).rises

  -- at a hot place
  serve_hot : (k : ℕ) → Serves setting worker clock s (suc k) contents request found
      → IsClearDeed (PlacesMirror setting) (keeping_of setting) (ranged setting) worker (resting (ranged setting) worker clock) found.commands s contents (set contents (suc k) found.after)
  serve_hot k serves =
      clear_none setting worker (resting (ranged setting) worker clock) (resting (ranged setting) worker found.clock) found.commands did.told s contents (set contents (suc k) found.after)
      (logged setting worker clock s (suc k) contents request found serves)
      (λ path. did.own path (none_owned path))
      (subst (λ (cs : List Content). (path : List Bool) → kept_of (set cs (suc k) found.after) path ≡ kept_of cs path) (sym mirrors.is) (λ path. refl))
      (front setting worker clock s (suc k) contents request found serves).rises
    where
      mirrors : SeatsMirror (longest_of setting.settings.header) setting.functions.digest contents
      mirrors = serves.ready.mirrored.mirrors

      did : PlanRuns (rules_under (scheme (ranged setting)) setting.settings.header worker) (resting (ranged setting) worker clock) (get_or contents (suc k) vacant) found.after request
          (planned setting worker clock s (suc k) contents request found serves).plan found.clock
      did = runs setting worker clock s (suc k) contents request found serves

      no_shard : (content : Content) (path : List Bool) → IsHotPlace content → IsOwned content path → ⊥
      no_shard (cold shard) path alone below = alone
      no_shard (hot record') path alone below = below
      no_shard vacant path alone below = below

      none_owned : (path : List Bool) → IsOwned (get_or contents (suc k) vacant) path → ⊥
      none_owned path = no_shard (get_or contents (suc k) vacant) path
          (subst (λ (cs : List Content). IsHotPlace (get_or cs (suc k) vacant)) (sym mirrors.is) (place_there mirrors.places k mirrors.hot_alone))

  serve_clear : (seat : ℕ) → Serves setting worker clock s seat contents request found
      → IsClearDeed (PlacesMirror setting) (keeping_of setting) (ranged setting) worker (resting (ranged setting) worker clock) found.commands s contents (set contents seat found.after)
  serve_clear zero serves = serve_shard serves
  serve_clear (suc k) serves = serve_hot k serves

-- What a worker serves at a place it owns.
pub serve_any : (setting : Setting) (worker : ℕ) (clock : Reading) (s seat : ℕ) (contents : List Content) (request : Request) (found : Done Content)
    → IsSetting setting → IsReadyAt (PlacesMirror setting) (ranged setting) worker clock s seat contents
    → (ranged setting).owns s contents seat request ≡ true
    → (ranged setting).serve worker clock (get_or contents seat vacant) request ≡ Some found
    → BothFit setting worker clock s seat contents request found
serve_any setting worker clock s seat contents request found settled ready owns is = (
  record {
    deed = serve_deed setting worker clock s seat contents request found serves;
    mirrored = serve_mirrors setting worker clock s seat contents request found serves;
  },
  serve_clear setting worker clock s contents request found seat serves,
)
  where
    serves : Serves setting worker clock s seat contents request found
    serves = record { settled = settled; ready = ready; owns = owns; is = is }
