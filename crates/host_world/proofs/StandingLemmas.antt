-- A world stands behind its host's setup still, once it made a step.
use Rattle.std.proofs.Common.{◌≡◌, ℕ, zero, suc, ◌<◌, List, [], ◌∷◌, ◌++◌, length, take, get_or, set, Result, Ok, Err, OnOk, OnErr, is_err, false, refl, sym, ◌∙◌, ap, subst, arith}
use Rattle.std.proofs.lemmas.Bool.{false≢true}
use Rattle.std.proofs.lemmas.List.{length-set}
use Rattle.record_hash.specs.Functions.{DigestFunctions}
use Rattle.record_text.specs.declared.request.Request.{Request}
use Rattle.log_codec.specs.declared.command.Command.{Command}
use Rattle.host_core.specs.Host.{Host}
use Rattle.host_core.specs.World.{Worker, World, fresh, worker_at, set_up}
use Rattle.host_core.specs.WorldEvent.{WorldEvent, step, with_worker, IsEnabled, AreEnabled, run_events}
use Rattle.host_core.proofs.EventLaws.{enabled-append, run-append}
use Rattle.host_shard.specs.Content.{Content}
use Rattle.script_text.specs.declared.task.Task.{Task}
use Rattle.shipped_host.specs.declared.settings.Settings.{Settings}
use Rattle.host_world.specs.declared.world.World as code
use Rattle.shipped_host.specs.ShippedHost.{shipped_host}
use Rattle.host_world.specs.Shown.{shown_world, digests_of, requests_of}
use Rattle.host_world.specs.Behind.{IsBehindSetup, host_of, with_logs, log_at, StandsWith, AreOfOneHost}
use Rattle.host_world.proofs.FrontLaws.{unlogged, before_each-handed, enabled_with, step_with, length-step}

-- one event more
pub one_more : (functions : DigestFunctions) (settings : Settings) (script : List (List Task)) (old new : World Content) (event : WorldEvent Request)
    → IsBehindSetup functions settings script old → IsEnabled (shipped_host functions settings script) old event
    → new ≡ step (shipped_host functions settings script) old event → IsBehindSetup functions settings script new
one_more functions settings script old new event behind enabled is =
    let host = shipped_host functions settings script in
    record {
      settings_fit = behind.settings_fit;
      counters = behind.counters;
      keys = behind.keys;
      values = behind.values;
      events = behind.events ++ event ∷ [];
      enabled = enabled-append host (set_up host) behind.events (event ∷ []) behind.enabled (subst (λ (w : World Content). IsEnabled host w event) behind.is enabled, tt);
      is = is ∙ ap (λ (w : World Content). step host w event) behind.is ∙ sym (run-append host (set_up host) behind.events (event ∷ []));
    }

-- ---- events in order

module _ {C R : Type 0} (host : Host C R) where
  -- each is enabled behind those before it
  pub enabled_at : (world : World C) (events : List (WorldEvent R)) (i : ℕ) (d : WorldEvent R) → AreEnabled host world events → i < length events
      → IsEnabled host (run_events host world (take i events)) (get_or events i d)
  enabled_at world [] i d enabled there = absurd (omega (arith, there))
  enabled_at world (event ∷ events) zero d enabled there = enabled.0
  enabled_at world (event ∷ events) (suc i) d enabled there = enabled_at (step host world event) events i d enabled.1 (omega (arith, there))

  -- and leads one further
  pub run-further : (world : World C) (events : List (WorldEvent R)) (i : ℕ) (d : WorldEvent R) → i < length events
      → run_events host world (take (suc i) events) ≡ step host (run_events host world (take i events)) (get_or events i d)
  run-further world [] i d there = absurd (omega (arith, there))
  run-further world (event ∷ events) zero d there = refl
  run-further world (event ∷ events) (suc i) d there = run-further (step host world event) events i d (omega (arith, there))

-- ---- worlds of the code

-- of one host are also the next
pub one_host : {D : Type 0} (a b c : code.World D) → AreOfOneHost a b → AreOfOneHost b c → AreOfOneHost a c
one_host a b c first then' = record {
  settings = then'.settings ∙ first.settings;
  requests = then'.requests ∙ first.requests;
  digests = then'.digests ∙ first.digests;
}

-- worlds of one host have one host
pub host_same : {D : Type 0} (functions : D → DigestFunctions) (old new : code.World D) → AreOfOneHost old new
    → host_of (functions (digests_of new)) new ≡ host_of (functions (digests_of old)) old
host_same functions old new same =
    ap (λ d. shipped_host (functions d) new.settings (requests_of new)) same.digests
    ∙ ap (λ (settings : Settings). shipped_host (functions (digests_of old)) settings (requests_of new)) same.settings
    ∙ ap (λ (script : List (List Task)). shipped_host (functions (digests_of old)) old.settings script) same.requests

module _ {D : Type 0} (functions : D → DigestFunctions) (old new : code.World D) (same : AreOfOneHost old new) where
  -- The same host's world.
  other_world : (world : World Content) → IsBehindSetup (functions (digests_of old)) old.settings (requests_of old) world
      → IsBehindSetup (functions (digests_of new)) new.settings (requests_of new) world
  other_world world behind =
      subst (λ (d : D). IsBehindSetup (functions d) new.settings (requests_of new) world) (sym same.digests)
      (subst (λ (settings : Settings). IsBehindSetup (functions (digests_of old)) settings (requests_of new) world) (sym same.settings)
      (subst (λ (script : List (List Task)). IsBehindSetup (functions (digests_of old)) old.settings script world) (sym same.requests) behind))

  -- where it shows the same
  pub stands_still : shown_world new ≡ shown_world old → (logs : List (List Command)) → StandsWith (functions (digests_of old)) old logs
      → StandsWith (functions (digests_of new)) new logs
  stands_still is logs stands = record {
    each = stands.each ∙ ap (λ (w : World Content). length w.workers) (sym is);
    behind = other_world (with_logs logs (shown_world new))
        (subst (λ (w : World Content). IsBehindSetup (functions (digests_of old)) old.settings (requests_of old) (with_logs logs w)) (sym is) stands.behind);
  }

  -- once a worker handed out its log
  pub stands_handed : (i : ℕ) → shown_world new ≡ with_worker (shown_world old) i (unlogged (worker_at (host_of (functions (digests_of old)) old) (shown_world old) i))
      → (logs : List (List Command)) → StandsWith (functions (digests_of old)) old logs
      → StandsWith (functions (digests_of new)) new (set logs i (get_or logs i [] ++ log_at old i))
  stands_handed i is logs stands =
      let host = host_of (functions (digests_of old)) old in
      let handed = set logs i (get_or logs i [] ++ log_at old i) in
      record {
        each = length-set logs i (get_or logs i [] ++ log_at old i) ∙ stands.each
            ∙ sym (length-set (shown_world old).workers i (unlogged (worker_at host (shown_world old) i))) ∙ ap (λ (w : World Content). length w.workers) (sym is);
        behind = other_world (with_logs handed (shown_world new))
            (subst (λ (w : World Content). IsBehindSetup (functions (digests_of old)) old.settings (requests_of old) w)
            (sym (ap (λ (w : World Content). with_logs handed w) is
            ∙ ap (λ (ws : List Worker). record (shown_world old) { workers = ws }) (before_each-handed logs (shown_world old).workers i (fresh old.settings.header) stands.each)))
            stands.behind);
      }

  module _ (event : WorldEvent Request) (enabled : IsEnabled (host_of (functions (digests_of old)) old) (shown_world old) event) where
    -- once it made the step
    pub stands_stepped : shown_world new ≡ step (host_of (functions (digests_of old)) old) (shown_world old) event
        → (logs : List (List Command)) → StandsWith (functions (digests_of old)) old logs → StandsWith (functions (digests_of new)) new logs
    stands_stepped is logs stands =
        let host = host_of (functions (digests_of old)) old in
        record {
          each = stands.each ∙ sym (length-step host (shown_world old) event) ∙ ap (λ (w : World Content). length w.workers) (sym is);
          behind = other_world (with_logs logs (shown_world new))
              (one_more (functions (digests_of old)) old.settings (requests_of old) (with_logs logs (shown_world old)) (with_logs logs (shown_world new)) event
              stands.behind (enabled_with host logs (shown_world old) event enabled)
              (ap (λ (w : World Content). with_logs logs w) is ∙ sym (step_with host logs (shown_world old) event)));
        }

    -- once it answered
    pub stands_answered : {T E : Type 0} (r : Result T E) → OnOk r (shown_world new ≡ step (host_of (functions (digests_of old)) old) (shown_world old) event)
        → OnErr r (shown_world new ≡ shown_world old)
        → (logs : List (List Command)) → StandsWith (functions (digests_of old)) old logs → StandsWith (functions (digests_of new)) new logs
    stands_answered (Ok value) is same' = stands_stepped is
    stands_answered (Err fault) is same' = stands_still same'

-- what follows where a call answers well
pub ok_then : {T E P Q : Type 0} (r : Result T E) → OnOk r P → (P → Q) → OnOk r Q
ok_then (Ok value) p f = f p
ok_then (Err fault) p f = tt

-- what holds where a call answers well, where it does
pub ok_holds : {T E P : Type 0} (r : Result T E) → is_err r ≡ false → OnOk r P → P
ok_holds (Ok value) well p = p
ok_holds (Err fault) well p = absurd (false≢true (sym well))
