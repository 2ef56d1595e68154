-- A run goes on: events lead on, logs are handed out, and where it stops it is cut off.
use Rattle.std.proofs.Common.{◌≡◌, inl, inr, ℕ, suc, ◌<◌, ◌≤◌, true, List, [], ◌∷◌, ◌++◌, length, map, Option, Result, Ok, Err, IfOk, OnErr, refl, sym, ◌∙◌, ap, subst, arith}
use Rattle.std.proofs.lemmas.List.{length-map}
use Rattle.record_hash.specs.Functions.{DigestFunctions}
use Rattle.record_text.specs.declared.request.Request.{Request}
use Rattle.slot_rewriting.specs.Writing.{written_logs, ComeToRestFrom}
use Rattle.slot_rewriting.proofs.WritingLaws.{written-length}
use Rattle.merkle_records.specs.Merkle.{GivesDigests}
use Rattle.host_core.specs.Host.{Host}
use Rattle.host_core.specs.World.{Worker, World, logs_of, set_up}
use Rattle.host_core.specs.WorldEvent.{WorldEvent, AreEnabled, step, run_events}
use Rattle.host_shard.specs.Content.{Content}
use Rattle.script_text.specs.declared.task.Task.{Task}
use Rattle.host_world.specs.declared.fault.ClockEnd.{ClockEnd}
use Rattle.shipped_host.specs.declared.settings.Settings.{Settings}
use Rattle.host_world.specs.declared.world.World as code
use Rattle.shipped_host.specs.ShippedHost.{shipped_host}
use Rattle.host_world.specs.Shown.{digests_of, requests_of}
use Rattle.host_world.specs.Behind.{IsBehindSetup, AreOfOneHost, host_of, with_logs}
use Rattle.host_world.proofs.FrontLaws.{length-step, before_each-none}
use Rattle.host_fits.specs.Promise.{CanRun}
use Rattle.host_serving.specs.Leading.{Leads, LeadsAs, first_of}
use Rattle.host_serving.specs.Form.{AreInRounds}
use Rattle.host_serving.proofs.LeadingLaws.{leads-with}
use Rattle.host_serving.proofs.FormLaws.{GoesOn}
use Rattle.host_serving.proofs.BeforeLaws.{rolling_last}
use Rattle.fv_outside.specs.declared.failure.Failure.{Failure}
use Rattle.fv_outside.specs.declared.failure.Failure.TheVariants as failures
use Rattle.host_rounds.specs.Round.{logs_with}
use Rattle.host_rounds.specs.SoFar.{RunsSoFar, Keeps, lines_counted}
use Rattle.verifier_threads.specs.declared.accounts.Account.{Account}
use Rattle.verifier_threads.specs.declared.accounts.Account.TheVariants as accounts
use Rattle.verifier_threads.specs.declared.ending.RunEnd.{RunEnd}
use Rattle.verifier_threads.specs.Serving.{Outputs, GrowsFor, IsServed, IsCutOff, IsCutAtEnd, IsCutByVault, IsCutBySink, ServesTo, told_for}
use Rattle.verifier_threads.specs.InRounds.{Logs, logged_with, logged_behind, no_logs, IsBehindRounds, LeadThrough}
use Rattle.verifier_threads.specs.Runners.{TellsLines}
use Rattle.verifier_threads.specs.Running.{IsRunning, all_handed_out, with_no_log}
use Rattle.verifier_threads.proofs.HandingLemmas.{logged_with-length, logged_with-texts, logs-behind, with_logs-handed}
use Rattle.verifier_threads.proofs.RoundLemmas.{texts-more, logged-more, through-leads, through-more, behind_with}

-- ---- worlds of one host

pub one_host : {D : Type 0} (a b c : code.World D) → AreOfOneHost a b → AreOfOneHost b c → AreOfOneHost a c
one_host a b c first then' = record {
  settings = then'.settings ∙ first.settings;
  requests = then'.requests ∙ first.requests;
  digests = then'.digests ∙ first.digests;
}

-- and where the last is the same world under another name
pub same-host : {D : Type 0} (a b c d : code.World D) → AreOfOneHost a b → AreOfOneHost b c → d ≡ c → AreOfOneHost a d
same-host {D} a b c d first then' is = subst (λ (w : code.World D). AreOfOneHost a w) (sym is) (one_host a b c first then')

pub host_same : {D : Type 0} (functions : D → DigestFunctions) (old new : code.World D) → AreOfOneHost old new
    → host_of (functions (digests_of new)) new ≡ host_of (functions (digests_of old)) old
host_same functions old new same =
    ap (λ d. shipped_host (functions d) new.settings (requests_of new)) same.digests
    ∙ ap (λ (settings : Settings). shipped_host (functions (digests_of old)) settings (requests_of new)) same.settings
    ∙ ap (λ (script : List (List Task)). shipped_host (functions (digests_of old)) old.settings script) same.requests

-- what holds of the one's numbers holds of the other's
pub of_one_host : {D : Type 0} (functions : D → DigestFunctions) (old new : code.World D) → AreOfOneHost old new
    → (P : DigestFunctions → Settings → List (List Task) → Type 0) → P (functions (digests_of old)) old.settings (requests_of old)
    → P (functions (digests_of new)) new.settings (requests_of new)
of_one_host functions old new same P holds =
    subst (λ d. P (functions d) new.settings (requests_of new)) (sym same.digests)
    (subst (λ (settings : Settings). P (functions (digests_of old)) settings (requests_of new)) (sym same.settings)
    (subst (λ (script : List (List Task)). P (functions (digests_of old)) old.settings script) (sym same.requests) holds))

-- ---- how many workers there are

run-length : {C R : Type 0} (host : Host C R) (world : World C) (events : List (WorldEvent R))
    → length (run_events host world events).workers ≡ length world.workers
run-length host world [] = refl
run-length host world (event ∷ events) = run-length host (step host world event) events ∙ length-step host world event

pub leads-length : {C R : Type 0} (host : Host C R) (world later : World C) (end : Option ClockEnd) → Leads host world later end
    → length later.workers ≡ length world.workers
leads-length {C} host world later end way = ap (λ (w : World C). length w.workers) way.is ∙ run-length host world way.events

-- ---- what is told of logs

-- behind whatever events the logs of a run come to rest
abbrev pub LogsRest : Type 0
LogsRest = (functions : DigestFunctions) (settings : Settings) (script : List (List Task)) (events : List (WorldEvent Request))
    → CanRun functions settings script → settings.header.first < 4294967296
    → let host = shipped_host functions settings script in
    AreEnabled host (set_up host) events → ComeToRestFrom host.header 0 (logs_of (run_events host (set_up host) events))

-- ---- a run goes on

module _ (account : Account) (functions : DigestFunctions) (settings : Settings) (script : List (List Task)) (world : World Content) (rounds : RunsSoFar)
    (end : Option ClockEnd) (past : List Logs) (outputs : Outputs) (running : IsRunning account functions settings script world rounds end past outputs) where
  abbrev own_host : Host Content Request
  own_host = shipped_host functions settings script

  -- it stands behind the setup
  pub running-behind : IsBehindSetup functions settings script (with_logs running.logs world)
  running-behind = record {
    settings_fit = running.settings_fit;
    counters = running.counters;
    keys = running.keys;
    values = running.values;
    events = running.way.events;
    enabled = running.way.enabled;
    is = running.way.is;
  }

  -- in a rolling host it is in its last phase
  pub running-last : settings.rolling ≡ true → length own_host.script ≤ suc world.phase
  running-last rolling =
      subst (λ (w : World Content). length own_host.script ≤ suc w.phase) (sym running.way.is) (rolling_last own_host rolling running.way.events)

  -- before its first round it has handed out nothing
  pub running-fresh : past ≡ [] → world ≡ set_up own_host → with_logs running.logs world ≡ set_up own_host
  running-fresh none' is =
      ap (λ (logs : Logs). with_logs logs world) (running.joined ∙ ap (logged_behind (no_logs settings.header.verifiers)) none')
      ∙ ap (λ (workers : List Worker). record world { workers = workers }) (before_each-none settings.header.verifiers world.workers)
      ∙ is

  -- as many workers as verifiers, and as many runs
  pub running-workers : length world.workers ≡ settings.header.verifiers
  running-workers =
      sym running.each ∙ sym (written-length settings.header 0 running.logs) ∙ running.keeps.runs.taken.whole

  -- what was handed out comes to rest with what wasn't yet
  pub running-rests : LogsRest → GivesDigests functions.digest → ComeToRestFrom settings.header 0 (logged_with running.logs (logs_of world))
  running-rests rest digests =
      let way = running.way in
      let can : CanRun functions settings script = record { in_range = running.settings_fit; counters = running.counters; keys = running.keys; digests = digests } in
      subst (ComeToRestFrom settings.header 0) (sym (logs-behind running.logs world.workers running.each))
      (subst (λ (w : World Content). ComeToRestFrom settings.header 0 (logs_of w)) (sym way.is)
      (rest functions settings script way.events can running.keeps.vault.is_bundle.first way.enabled))

  -- events lead on
  pub running-led : (later : World Content) (next : Option ClockEnd) → GoesOn own_host running.logs world later end next
      → IsRunning account functions settings script later rounds (first_of end next) past outputs
  running-led later next way = record {
    settings_fit = running.settings_fit;
    counters = running.counters;
    keys = running.keys;
    values = running.values;
    logs = running.logs;
    joined = running.joined;
    each = running.each ∙ sym (leads-length own_host world later next way.leads);
    passed = through-leads own_host 0 (no_logs settings.header.verifiers) (set_up own_host) past (with_logs running.logs world) (with_logs running.logs later) running.passed
        (next, leads-with own_host running.logs world later next way.leads);
    way = way.on running.way;
    rests = running.rests;
    keeps = running.keeps;
    written = running.written;
  }

  -- logs are handed out, behind one round more
  pub running-handed : (rounds' : RunsSoFar) (outputs' : Outputs) → IsBehindRounds own_host (suc (length past)) world
      → ComeToRestFrom settings.header 0 (logged_with running.logs (logs_of world))
      → Keeps functions settings.header (logs_with (written_logs settings.header running.logs) (written_logs settings.header (logs_of world))) (map (written_logs settings.header) past ++ (written_logs settings.header (logs_of world) ∷ [])) rounds' outputs'.vault outputs'.vault_after
      → GrowsFor account outputs'.out outputs'.out_after (lines_counted (told_for account functions settings.header) functions settings.header (logs_with (written_logs settings.header running.logs) (written_logs settings.header (logs_of world))) rounds')
      → IsRunning account functions settings script (all_handed_out world) rounds' end (past ++ (logs_of world ∷ [])) outputs'
  running-handed rounds' outputs' stands rests keeps written =
      let logs = logged_with running.logs (logs_of world) in
      let texts : logs_with (written_logs settings.header running.logs) (written_logs settings.header (logs_of world)) ≡ written_logs settings.header logs = sym (logged_with-texts settings.header running.logs (logs_of world) running.rests) in
      let same = with_logs-handed running.logs world running.each in
      let first = no_logs settings.header.verifiers in
      record {
        settings_fit = running.settings_fit;
        counters = running.counters;
        keys = running.keys;
        values = running.values;
        logs = logs;
        joined = ap (λ (all : Logs). logged_with all (logs_of world)) running.joined ∙ sym (logged-more first past (logs_of world));
        each = logged_with-length running.logs (logs_of world) ∙ running.each ∙ sym (length-map world.workers with_no_log);
        rests = rests;
        way = subst (λ (w : World Content). LeadsAs AreInRounds own_host (set_up own_host) w end) (sym same) running.way;
        passed = subst (λ (w : World Content). LeadThrough own_host 0 first (set_up own_host) (past ++ (logs_of world ∷ [])) w) (sym same)
            (through-more own_host (suc (length past)) 0 first (set_up own_host) past (logs_of world) (with_logs running.logs world) (omega arith) running.passed
            (behind_with own_host (suc (length past)) running.logs world stands)
            (sym (logs-behind running.logs world.workers running.each) ∙ ap (λ (all : Logs). logged_with all (logs_of world)) running.joined));
        keeps = subst (λ (rs : List (List (List ℕ))). Keeps functions settings.header (written_logs settings.header logs) rs rounds' outputs'.vault outputs'.vault_after) (sym (texts-more settings.header past (logs_of world)))
            (subst (λ (all : List (List ℕ)). Keeps functions settings.header all (map (written_logs settings.header) past ++ (written_logs settings.header (logs_of world) ∷ [])) rounds' outputs'.vault outputs'.vault_after) texts keeps);
        written = subst (λ (all : List (List ℕ)). GrowsFor account outputs'.out outputs'.out_after (lines_counted (told_for account functions settings.header) functions settings.header all rounds')) texts written;
      }

-- ---- where it stops

-- a run that was cut off stops so, whatever the reason
pub stops-so : (account : Account) (functions : DigestFunctions) (settings : Settings) (script : List (List Task)) (stop : Failure) (outputs : Outputs)
    → (stop ≡ failures.ReadFault → ⊥) → (stop ≡ failures.InputLimit → ⊥)
    → IsCutOff account functions settings script outputs → (stop ≡ failures.VaultFault → IsCutByVault account functions settings script outputs)
    → (stop ≡ failures.WriteFault → TellsLines account) → ServesTo account functions settings script (Err stop) outputs
stops-so account functions settings script failures.Memory outputs source limit cut by_vault lines = cut
stops-so account functions settings script failures.ReadFault outputs source limit cut by_vault lines = absurd (source refl)
stops-so account functions settings script failures.InputLimit outputs source limit cut by_vault lines = absurd (limit refl)
stops-so account functions settings script failures.VaultFault outputs source limit cut by_vault lines = (cut, by_vault refl)
stops-so (accounts.Report receipts) functions settings script failures.WriteFault outputs source limit cut by_vault lines = inl cut
stops-so (accounts.Summary load) functions settings script failures.WriteFault outputs source limit cut by_vault lines = absurd (let is = (lines refl).1 in cc)

-- a run that was cut off at its end stops because the sink failed
ends-so : (account : Account) (functions : DigestFunctions) (settings : Settings) (script : List (List Task)) (outputs : Outputs)
    → IsCutAtEnd account functions settings script outputs → IsCutBySink account functions settings script outputs
ends-so (accounts.Report receipts) functions settings script outputs cut = inr cut
ends-so (accounts.Summary load) functions settings script outputs cut = cut

stop-is : {A : Type 0} (result : Result A Failure) (stop : Failure) → result ≡ Err stop → result ≡ Err failures.WriteFault → stop ≡ failures.WriteFault
stop-is result stop is fault = cc

-- an error that is passed on is the one that came
pub came-so : {A : Type 0} (passed came stop : Failure) → passed ≡ came → passed ≡ stop → (let one : Result A Failure = Err came in one ≡ Err stop)
came-so {A} passed came stop same is = ap (λ (e : Failure). let r : Result A Failure = Err e in r) (sym same ∙ is)

-- an error of one answer is that of another
pub err-of : {A B : Type 0} (a b : Failure) → (let one : Result A Failure = Err a in one ≡ Err b) → (let one : Result B Failure = Err a in one ≡ Err b)
err-of {A} {B} a b is = let same : a ≡ b = cc in ap (λ (e : Failure). Err e) same

-- a run that came to its end ends so
pub finishes-so : (account : Account) (functions : DigestFunctions) (settings : Settings) (script : List (List Task)) (result : Result RunEnd Failure) (outputs : Outputs)
    → IfOk result (λ end. IsServed account functions settings script end outputs) → OnErr result (IsCutAtEnd account functions settings script outputs)
    → OnErr result (result ≡ Err failures.WriteFault) → ServesTo account functions settings script result outputs
finishes-so account functions settings script (Ok end) outputs served cut stop = served
finishes-so account functions settings script (Err fault) outputs served cut stop =
    subst (λ (s : Failure). ServesTo account functions settings script (Err s) outputs) (sym (stop-is {A = RunEnd} (Err fault) fault refl stop))
    (ends-so account functions settings script outputs cut)

-- what is said of the one host's world is said of the other's
pub host-back : {D : Type 0} (a b : code.World D) → AreOfOneHost a b → AreOfOneHost b a
host-back a b same = record { settings = sym same.settings; requests = sym same.requests; digests = sym same.digests }
