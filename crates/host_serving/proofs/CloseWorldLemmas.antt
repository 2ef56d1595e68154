-- Worlds of the code in a close: they are of one host, stand behind its setup, and have its numbers of workers and shards.
use Rattle.std.proofs.Common.{◌≡◌, ℕ, suc, ◌-◌, ◌<◌, ◌≤◌, Bool, true, false, List, [], ◌∷◌, length, Option, Some, None, Result, Ok, Err, OnOk, OnErr, IfOk, refl, sym, ◌∙◌, ap, subst, arith}
use Rattle.std.proofs.lemmas.List.{length-replicate}
use Rattle.std.specs.Option.{option_or}
use Rattle.record_hash.specs.Functions.{DigestFunctions}
use Rattle.record_text.specs.declared.request.Request.{Request}
use Rattle.log_codec.specs.declared.command.Command.{Command}
use Rattle.merkle_records.specs.Merkle.{GivesDigests}
use Rattle.host_core.specs.Host.{Host}
use Rattle.host_core.specs.World.{World, fresh, shard_at, set_up}
use Rattle.host_core.specs.WorldEvent.{WorldEvent, step, run_events, IsEnabled, HasAdvanced}
use Rattle.host_shard.specs.Content.{Content}
use Rattle.script_text.specs.declared.task.Task.{Task}
use Rattle.shipped_host.specs.declared.settings.Settings.{Settings}
use Rattle.host_world.specs.declared.world.World as code
use Rattle.host_world.specs.declared.fault.ClockEnd.{ClockEnd}
use Rattle.host_world.specs.Ending.{end_of}
use Rattle.shipped_host.specs.ShippedHost.{shipped_host}
use Rattle.host_world.specs.Shown.{shown_world, digests_of, requests_of}
use Rattle.host_core.specs.Core.{IsInPhase}
use Rattle.host_fits.specs.Promise.{IsPromised}
use Rattle.host_world.specs.Behind.{host_of, with_logs, StandsWith, AreOfOneHost}
use Rattle.host_world.proofs.BehindLaws.{shards_there}
use Rattle.host_world.proofs.FrontLaws.{length-before_each, clock_with, round_with, length-step}
use Rattle.host_serving.specs.Leading.{first_of, LeadsBy, LeadsByFront}
use Rattle.host_serving.specs.Standing.{IsServedOut}
use Rattle.host_serving.proofs.BeforeLaws.{rolling_last}

-- ---- worlds of one host

pub one_host : {D : Type 0} (a b c : code.World D) → AreOfOneHost a b → AreOfOneHost b c → AreOfOneHost a c
one_host a b c first then' = record {
  settings = then'.settings ∙ first.settings;
  requests = then'.requests ∙ first.requests;
  digests = then'.digests ∙ first.digests;
}

pub host_same : {D : Type 0} (functions : D → DigestFunctions) (old new : code.World D) → AreOfOneHost old new
    → host_of (functions (digests_of new)) new ≡ host_of (functions (digests_of old)) old
host_same functions old new same =
    ap (λ d. shipped_host (functions d) new.settings (requests_of new)) same.digests
    ∙ ap (λ (settings : Settings). shipped_host (functions (digests_of old)) settings (requests_of new)) same.settings
    ∙ ap (λ (script : List (List Task)). shipped_host (functions (digests_of old)) old.settings script) same.requests

-- One more event of a world of the same host.
module _ {D : Type 0} (functions : D → DigestFunctions) (first now : code.World D) (same : AreOfOneHost first now) where
  pub enabled_now : (event : WorldEvent Request) → IsEnabled (host_of (functions (digests_of first)) first) (shown_world now) event
      → IsEnabled (host_of (functions (digests_of now)) now) (shown_world now) event
  enabled_now event may = subst (λ (h : Host Content Request). IsEnabled h (shown_world now) event) (sym (host_same functions first now same)) may

  module _ (new : code.World D) where
    pub stepped_first : (event : WorldEvent Request) → shown_world new ≡ step (host_of (functions (digests_of now)) now) (shown_world now) event
        → shown_world new ≡ step (host_of (functions (digests_of first)) first) (shown_world now) event
    stepped_first event is = is ∙ ap (λ (h : Host Content Request). step h (shown_world now) event) (host_same functions first now same)

    -- the events of this host are those of the first
    pub by_first : (end : Option ClockEnd) (plan : Host Content Request → List (WorldEvent Request))
        → LeadsBy (host_of (functions (digests_of now)) now) (shown_world now) (shown_world new) end (plan (host_of (functions (digests_of now)) now))
        → LeadsBy (host_of (functions (digests_of first)) first) (shown_world now) (shown_world new) end (plan (host_of (functions (digests_of first)) first))
    by_first end plan way =
        subst (λ (h : Host Content Request). LeadsBy h (shown_world now) (shown_world new) end (plan h)) (host_same functions first now same) way

    -- and so is a front of them
    pub front_first : (plan : Host Content Request → List (WorldEvent Request))
        → LeadsByFront (host_of (functions (digests_of now)) now) (shown_world now) (shown_world new) (plan (host_of (functions (digests_of now)) now))
        → LeadsByFront (host_of (functions (digests_of first)) first) (shown_world now) (shown_world new) (plan (host_of (functions (digests_of first)) first))
    front_first plan way =
        subst (λ (h : Host Content Request). LeadsByFront h (shown_world now) (shown_world new) (plan h)) (host_same functions first now same) way

    -- what is as it was there is on the way still
    pub front_kept : (plan : List (WorldEvent Request)) → LeadsByFront (host_of (functions (digests_of first)) first) (shown_world first) (shown_world now) plan
        → shown_world new ≡ shown_world now → LeadsByFront (host_of (functions (digests_of first)) first) (shown_world first) (shown_world new) plan
    front_kept plan way kept =
        subst (λ (w : World Content). LeadsByFront (host_of (functions (digests_of first)) first) (shown_world first) w plan) (sym kept) way

    pub ended_first : (event : WorldEvent Request) (end : Option ClockEnd) → end ≡ end_of (host_of (functions (digests_of now)) now) (shown_world now) event
        → end ≡ end_of (host_of (functions (digests_of first)) first) (shown_world now) event
    ended_first event end is = is ∙ ap (λ (h : Host Content Request). end_of h (shown_world now) event) (host_same functions first now same)

-- the first of two ends, as it is written in code
pub first_of-or : (one two : Option ClockEnd) → first_of one two ≡ option_or one two
first_of-or None two = refl
first_of-or (Some end) two = refl

-- what is so whatever the answer is
pub on_err : {T E P : Type 0} (r : Result T E) → P → OnErr r P
on_err (Ok x) p = tt
on_err (Err e) p = p

-- what follows of a fault
pub on_err_then : {T E : Type 0} (P Q : Type 0) (r : Result T E) → (P → Q) → OnErr r P → OnErr r Q
on_err_then P Q (Ok x) f p = tt
on_err_then P Q (Err e) f p = f p

-- what follows of an answer, whichever it is
pub on_ok_then : {T E : Type 0} (P Q : Type 0) (r : Result T E) → (P → Q) → OnOk r P → IfOk r (λ _. Q)
on_ok_then P Q (Ok x) f p = f p
on_ok_then P Q (Err e) f p = tt

-- what follows of an answer
pub if_ok_then : {T E : Type 0} (P Q : T → Type 0) (r : Result T E) → ((x : T) → P x → Q x) → IfOk r P → IfOk r Q
if_ok_then P Q (Ok x) f p = f x p
if_ok_then P Q (Err e) f p = tt

-- what follows of an answer and of what is so behind it
pub ok_and_if : {T E : Type 0} (S : Type 0) (P Q : T → Type 0) (r : Result T E) → ((x : T) → S → P x → Q x) → OnOk r S → IfOk r P → IfOk r Q
ok_and_if S P Q (Ok x) f s p = f x s p
ok_and_if S P Q (Err e) f s p = tt

-- ---- how many workers and shards there are

count_run : {C R : Type 0} (host : Host C R) (world : World C) (events : List (WorldEvent R)) → length (run_events host world events).workers ≡ length world.workers
count_run host world [] = refl
count_run host world (event ∷ events) = count_run host (step host world event) events ∙ length-step host world event

module _ {D : Type 0} (functions : DigestFunctions) (world : code.World D) (logs : List (List Command)) (stands : StandsWith functions world logs) where
  abbrev whole : World Content
  whole = with_logs logs (shown_world world)

  -- as many workers as the header says
  pub workers_are : length (shown_world world).workers ≡ world.settings.header.verifiers
  workers_are =
      let host = shipped_host functions world.settings (requests_of world) in
      sym (length-before_each logs (shown_world world).workers)
      ∙ ap (λ (w : World Content). length w.workers) stands.behind.is
      ∙ count_run host (set_up host) stands.behind.events
      ∙ omega (arith, length-replicate (world.settings.header.verifiers - 1) (fresh world.settings.header), stands.behind.settings_fit.header.some_verifiers)

  -- as many shards as the settings say
  pub shard_count : GivesDigests functions.digest → length (shown_world world).shards ≡ world.settings.shards
  shard_count digests = shards_there functions world.settings (requests_of world) digests whole stands.behind

  -- the phase of a rolling host is the last
  pub rolling_closes : (host_of functions world).rolling ≡ true → length (host_of functions world).script ≤ suc (shown_world world).phase
  rolling_closes rolling =
      subst (λ (w : World Content). length (host_of functions world).script ≤ suc w.phase) (sym stands.behind.is)
      (rolling_last (host_of functions world) rolling stands.behind.events)

  -- before a close the clocks stand in the epoch of the phase, and no shard is moved
  module _ (promised : IsPromised (host_of functions world) whole) (served : IsServedOut (host_of functions world) (shown_world world)) where
    in_phase : IsInPhase (host_of functions world) whole
    in_phase = go (host_of functions world).rolling refl
      where
        go : (b : Bool) → (host_of functions world).rolling ≡ b → IsInPhase (host_of functions world) whole
        go false plain = promised.in_phase plain
        go true rolling = promised.level (round_with (host_of functions world) logs (shown_world world) (served.settled rolling))

    pub clocks_stand : (i : ℕ) → i < length (shown_world world).workers → HasAdvanced (host_of functions world) (shown_world world) i 0
    clocks_stand i within =
        ap (λ clock. clock.at.epoch) (sym (clock_with (host_of functions world) logs (shown_world world) i))
        ∙ (in_phase served.served.phase).0 i (subst (λ (n : ℕ). i < n) (sym (length-before_each logs (shown_world world).workers)) within)
        ∙ omega arith

    pub none_is_moved : (s : ℕ) → s < length (shown_world world).shards → (shard_at (shown_world world) s).moved ≡ false
    none_is_moved = (in_phase served.served.phase).2
