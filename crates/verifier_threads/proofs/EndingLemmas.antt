-- Where a run ends: what is served, and what its report says.
use Rattle.std.proofs.Common.{◌≡◌, ◌*◌, ◌-◌, ℕ, zero, suc, ◌<◌, ◌≤◌, Bool, true, false, if◌then◌else◌, List, [], ◌∷◌, length, map, get_or, replicate, Option, Some, None, inr, refl, sym, ◌∙◌, ap, subst, arith}
use Rattle.std.specs.List.{AllByRecursion}
use Rattle.std.proofs.lemmas.List.{length-map, length-replicate}
use Rattle.fv_outside.specs.Written.{Grows, GrowsByFront}
use Rattle.fv_outside.proofs.WrittenLaws.{Grows-nil, Grows-then, GrowsByFront-then}
use Rattle.record_hash.specs.Functions.{DigestFunctions}
use Rattle.record_text.specs.declared.request.Request.{Request}
use Rattle.lamport_clocks.specs.declared.header.Header.{Header}
use Rattle.log_codec.specs.declared.command.Command.{Command}
use Rattle.slot_rewriting.specs.Writing.{logs_written_from, written_logs, ComeToRestFrom}
use Rattle.merkle_records.specs.Merkle.{GivesDigests}
use Rattle.report_text.specs.declared.ending.BundleEnd.{BundleEnd}
use Rattle.report_text.specs.declared.ending.BundleEnd.TheVariants.{Done}
use Rattle.report_text.specs.Ending.{status_of}
use Rattle.report_text.specs.Status.{last_line}
use Rattle.merkle_records.specs.Scheme.{scheme_of}
use Rattle.bundle_report.specs.Logs.{empty_logs}
use Rattle.bundle_report.proofs.DueLaws.{lines-due}
use Rattle.host_core.specs.Host.{Host}
use Rattle.host_core.specs.World.{Worker, World, logs_of, set_up, fresh, worker_at}
use Rattle.host_core.specs.WorldEvent.{WorldEvent, AreEnabled, HasAdvanced, run_events}
use Rattle.host_shard.specs.Content.{Content}
use Rattle.script_text.specs.declared.task.Task.{Task}
use Rattle.script_text.specs.Text.{AreTasks, IsTask}
use Rattle.host_world.specs.declared.fault.ClockEnd.{ClockEnd}
use Rattle.shipped_host.specs.declared.settings.Settings.{Settings}
use Rattle.host_world.specs.declared.world.World as code
use Rattle.host_world.specs.Shown.{shown_world, digests_of, requests_of}
use Rattle.shipped_host.specs.ShippedHost.{shipped_host, turn_of}
use Rattle.shipped_host.specs.Settings.{IsSettings}
use Rattle.shipped_host.specs.Ranges.{AreInRange, HaveShortValues}
use Rattle.host_world.specs.Behind.{AreOfOneHost, host_of, with_logs}
use Rattle.host_world.proofs.FrontLaws.{before_each-none}
use Rattle.host_fits.specs.Promise.{CanRun}
use Rattle.host_fits.specs.Holds.{ContentsHold}
use Rattle.run_reports.specs.Runs.{map_certified}
use Rattle.host_serving.specs.Leading.{Leads, LeadsAs}
use Rattle.host_serving.specs.Form.{AreInRounds}
use Rattle.host_serving.specs.Standing.{asked_by, HasServedUpTo}
use Rattle.host_serving.proofs.LeadingLaws.{leads-none}
use Rattle.host_serving.proofs.FormLaws.{run-none}
use Rattle.host_rounds.specs.SoFar.{RunsSoFar, Keeps, HaveRun, AllCounted, lines_due, summary_due, end_due}
use Rattle.host_rounds.proofs.RoundLaws.{counted-none, summary-is}
use Rattle.verifier_threads.specs.declared.accounts.Account.{Account}
use Rattle.verifier_threads.specs.declared.accounts.Account.TheVariants as accounts
use Rattle.verifier_threads.specs.declared.ending.RunEnd.{RunEnd}
use Rattle.verifier_threads.specs.declared.world_run.WorldRun.{WorldRun}
use Rattle.verifier_threads.specs.InRounds.{Logs}
use Rattle.verifier_threads.specs.Serving.{Outputs, GrowsFor, IfDone, HoldsWhatIsCertified, AreOfRun, IsServed, IsCutAtEnd, round_count, account_of, end_by, status_at, told_for}
use Rattle.verifier_threads.specs.Running.{IsRunning, Runs, RunsTold, RunsWhole, RunsToEnd, rounds_before, IsAtRound, IsAtEnd, ending_for}
use Rattle.verifier_threads.proofs.RunningLemmas.{running-workers}
use Rattle.verifier_threads.proofs.HandingLemmas.{front-logs}
use Rattle.verifier_threads.proofs.PassingLemmas.{rounds-same}
use Rattle.verifier_threads.proofs.StandingLemmas.{all_with, nothing_with, lowest_with}

-- ---- the setup

none-written : (header : Header) (count number : ℕ) → logs_written_from header number (replicate count []) ≡ empty_logs count
none-written header zero number = refl
none-written header (suc count) number = ap (λ (rest : List (List ℕ)). [] ∷ rest) (none-written header count (suc number))

pub texts-none : (header : Header) (count : ℕ) → written_logs header (replicate count []) ≡ empty_logs count
texts-none header count = none-written header count 0

-- logs of no commands come to rest
none-rest : (header : Header) (count number : ℕ) → ComeToRestFrom header number (replicate count [])
none-rest header zero number = tt
none-rest header (suc count) number = (refl, none-rest header count (suc number))

get-replicate : {A : Type 0} (count i : ℕ) (x : A) → get_or (replicate count x) i x ≡ x
get-replicate zero i x = refl
get-replicate (suc count) zero x = refl
get-replicate (suc count) (suc i) x = get-replicate count i x

module _ {C R : Type 0} (host : Host C R) where
  -- each worker holds nothing, and has served nothing
  new_worker : (i : ℕ) → HasServedUpTo (worker_at host (set_up host) i) 0
  new_worker zero = record { idle = refl; going = refl; served = inr (refl, refl) }
  new_worker (suc i) =
      let is : worker_at host (set_up host) (suc i) ≡ fresh host.header = get-replicate (host.header.verifiers - 1) i (fresh host.header) in
      subst (λ (w : Worker). HasServedUpTo w 0) (sym is) (record { idle = refl; going = refl; served = inr (refl, refl) })

  new_running : (i : ℕ) → (worker_at host (set_up host) i).stopped ≡ false
  new_running zero = refl
  new_running (suc i) = ap (λ (w : Worker). w.stopped) (get-replicate (host.header.verifiers - 1) i (fresh host.header))

  -- so the first round begins
  pub set_up-begins : 0 < length host.script → IsAtRound host (set_up host) None
  set_up-begins some = record {
    begins = record {
      served = record {
        going = refl;
        phase = refl;
        within = within host.rolling;
        each = λ i there. subst (λ (n : ℕ). HasServedUpTo (worker_at host (set_up host) i) (asked_by host i n 0)) (sym (first host.rolling)) (new_worker i);
      };
      newest = λ rolling. refl;
      marks = λ rolling i there. get-replicate host.header.verifiers i host.header.first;
    };
    new = λ rolling. refl;
    running = λ i there. new_running i;
    unended = refl;
  }
    where
      within : (b : Bool) → (if b then length host.script - 1 else 0) < length host.script
      within true = omega (arith, some)
      within false = some

      first : (b : Bool) → (if b then 0 else (if b then length host.script - 1 else 0)) ≡ 0
      first true = refl
      first false = refl

-- a world that is set up, of settings that suffice
pub record IsRunningFrom (functions : DigestFunctions) (settings : Settings) (script : List (List Task)) (world : World Content) : Type 0 where
  pub settings_fit : IsSettings settings
  pub counters : settings.shards ≤ settings.header.end
  pub keys : AreInRange settings.header script
  pub values : HaveShortValues settings.header script
  pub is : world ≡ set_up (shipped_host functions settings script)
  pub count : length world.workers ≡ settings.header.verifiers

-- nothing was written
pub grows-none : (account : Account) (held : Option (List ℕ)) → GrowsFor account held held []
grows-none (accounts.Report receipts) held = Grows-nil held
grows-none (accounts.Summary load) held = refl

-- the run before its first round
pub running-new : (account : Account) (functions : DigestFunctions) (settings : Settings) (script : List (List Task)) (world : World Content) (rounds : RunsSoFar) (vault vault_after out : Option (List ℕ))
    → IsRunningFrom functions settings script world → Keeps functions settings.header (empty_logs settings.header.verifiers) [] rounds vault vault_after
    → rounds.judged.count ≡ 0
    → IsRunning account functions settings script world rounds None [] (record { vault = vault; vault_after = vault_after; out = out; out_after = out })
running-new account functions settings script world rounds vault vault_after out from keeps none' =
    let host = shipped_host functions settings script in
    let logs = replicate settings.header.verifiers [] in
    let texts = texts-none settings.header settings.header.verifiers in
    let same : with_logs logs world ≡ set_up host =
    ap (λ (workers : List Worker). record world { workers = workers }) (before_each-none settings.header.verifiers world.workers) ∙ from.is in
    record {
      settings_fit = from.settings_fit;
      counters = from.counters;
      keys = from.keys;
      values = from.values;
      logs = logs;
      joined = refl;
      each = length-replicate settings.header.verifiers [] ∙ sym from.count;
      rests = none-rest settings.header settings.header.verifiers 0;
      way = subst (λ (w : World Content). LeadsAs AreInRounds host (set_up host) w None) (sym same) (run-none host (set_up host));
      passed = (None, subst (λ (w : World Content). Leads host (set_up host) w None) (sym same) (leads-none host (set_up host)));
      keeps = subst (λ (all : List (List ℕ)). Keeps functions settings.header all [] rounds vault vault_after) (sym texts) keeps;
      written = subst (GrowsFor account out out) (sym (counted-none (told_for account functions settings.header) functions settings.header (written_logs settings.header logs) rounds none')) (grows-none account out);
    }

-- ---- the script's turns

-- each turn is one of the workers'
turns-phase : (header : Header) (tasks : List Task) → AllByRecursion (IsTask header) tasks → AllByRecursion (λ turn. turn.0 < header.verifiers) (map turn_of tasks)
turns-phase header [] are = tt
turns-phase header (task ∷ tasks) are = (are.0.worker, turns-phase header tasks are.1)

pub turns-script : (header : Header) (script : List (List Task)) (phase : ℕ) → AreTasks header script
    → AllByRecursion (λ turn. turn.0 < header.verifiers) (get_or (map (map turn_of) script) phase [])
turns-script header [] phase are = tt
turns-script header (tasks ∷ script) zero are = turns-phase header tasks are.0
turns-script header (tasks ∷ script) (suc phase) are = turns-script header script phase are.1

-- ---- the end

pub done-same : (a b : ℕ) → Done a ≡ Done b → a ≡ b
done-same a b is = cc

-- what a check makes of the logs of a whole run
abbrev pub ChecksAsDone : Type 0
ChecksAsDone = (functions : DigestFunctions) (settings : Settings) (script : List (List Task)) (events : List (WorldEvent Request))
    → CanRun functions settings script → settings.header.first < 4294967296
    → let host = shipped_host functions settings script in
    AreEnabled host (set_up host) events
    → ((i : ℕ) → i < length (run_events host (set_up host) events).workers → HasAdvanced host (run_events host (set_up host) events) i 2)
    → end_due host.functions host.header (written_logs host.header (logs_of (run_events host (set_up host) events)))
    ≡ Done (suc (run_events host (set_up host) events).phase)

-- what the contents hold behind a whole run
abbrev pub HoldAsCertified : Type 0
HoldAsCertified = (functions : DigestFunctions) (settings : Settings) (script : List (List Task)) (events : List (WorldEvent Request))
    → CanRun functions settings script → settings.header.first < 4294967296
    → let host = shipped_host functions settings script in
    AreEnabled host (set_up host) events
    → ((i : ℕ) → i < length (run_events host (set_up host) events).workers → HasAdvanced host (run_events host (set_up host) events) i 2)
    → ContentsHold settings (run_events host (set_up host) events) (map_certified functions settings.header (logs_of (run_events host (set_up host) events)))

-- ---- what is written at the end

-- Behind what is told before it, the end makes the report whole, and the summary is all that is written.
ending-written : (account : Account) (functions : DigestFunctions) (header : Header) (logs : Logs) (rounds : RunsSoFar) (result : RunEnd) (a b c : Option (List ℕ))
    → HaveRun functions header (written_logs header logs) rounds → AllCounted functions header (written_logs header logs) rounds
    → GrowsFor account a b (lines_due (told_for account functions header) functions header (written_logs header logs)) → Grows b c (ending_for account rounds (status_at result))
    → Grows a c (account_of account functions header logs result)
ending-written (accounts.Report receipts) functions header logs rounds result a b c have all told written =
    Grows-then a b c (lines_due (told_for (accounts.Report receipts) functions header) functions header (written_logs header logs)) (last_line (status_at result)) told written
ending-written (accounts.Summary load) functions header logs rounds result a b c have all told written =
    subst (λ (o : Option (List ℕ)). Grows o c (summary_due functions header (written_logs header logs) load.seed load.ops (status_at result))) told
    (subst (Grows b c) (summary-is functions header (written_logs header logs) rounds load.seed load.ops (status_at result) have all) written)

-- so it is with a front of the end
ending-front : (account : Account) (functions : DigestFunctions) (header : Header) (logs : Logs) (rounds : RunsSoFar) (result : RunEnd) (a b c : Option (List ℕ))
    → HaveRun functions header (written_logs header logs) rounds → AllCounted functions header (written_logs header logs) rounds
    → GrowsFor account a b (lines_due (told_for account functions header) functions header (written_logs header logs)) → GrowsByFront b c (ending_for account rounds (status_at result))
    → GrowsByFront a c (account_of account functions header logs result)
ending-front (accounts.Report receipts) functions header logs rounds result a b c have all told written =
    GrowsByFront-then a b c (lines_due (told_for (accounts.Report receipts) functions header) functions header (written_logs header logs)) (last_line (status_at result)) told written
ending-front (accounts.Summary load) functions header logs rounds result a b c have all told written =
    subst (λ (o : Option (List ℕ)). GrowsByFront o c (summary_due functions header (written_logs header logs) load.seed load.ops (status_at result))) told
    (subst (GrowsByFront b c) (summary-is functions header (written_logs header logs) rounds load.seed load.ops (status_at result) have all) written)

module _ (account : Account) (functions : DigestFunctions) (settings : Settings) (script : List (List Task)) (world : World Content) (rounds : RunsSoFar)
    (end : Option ClockEnd) (past : List Logs) (outputs : Outputs) (running : IsRunning account functions settings script world rounds end past outputs)
    (at : IsAtEnd (shipped_host functions settings script) world end) where
  abbrev own_host : Host Content Request
  own_host = shipped_host functions settings script

  abbrev all_logged : World Content
  all_logged = with_logs running.logs world

  logs-are : running.logs ≡ logs_of all_logged
  logs-are = front-logs running.logs world.workers running.each at.handed

  can-run : GivesDigests functions.digest → CanRun functions settings script
  can-run digests = record { in_range = running.settings_fit; counters = running.counters; keys = running.keys; digests = digests }

  all-advanced : end ≡ None → (i : ℕ) → i < length (run_events own_host (set_up own_host) running.way.events).workers
      → HasAdvanced own_host (run_events own_host (set_up own_host) running.way.events) i 2
  all-advanced none' =
      subst (λ (w : World Content). (i : ℕ) → i < length w.workers → HasAdvanced own_host w i 2) running.way.is
      (all_with own_host running.logs world (at.whole none')).closed.advanced

  -- the contents hold what the logs certify where no clock ended
  pub ended-holds : HoldAsCertified → GivesDigests functions.digest → end ≡ None → ContentsHold settings all_logged (map_certified functions settings.header running.logs)
  ended-holds holding digests none' =
      subst (λ (logs : List (List Command)). ContentsHold settings all_logged (map_certified functions settings.header logs)) (sym logs-are)
      (subst (λ (w : World Content). ContentsHold settings w (map_certified functions settings.header (logs_of w))) (sym running.way.is)
      (holding functions settings script running.way.events (can-run digests) running.keeps.vault.is_bundle.first running.way.enabled (all-advanced none')))

  ended-run : HoldAsCertified → GivesDigests functions.digest → (end ≡ None → length past ≡ 2 * round_count settings script) → AreOfRun functions settings script past running.logs end
  ended-run holding digests count = record {
    served = λ enough. record {
      world = all_logged;
      way = running.way;
      rests = nothing_with own_host running.logs world at.rests;
      logs_are = logs-are;
      whole = λ none'. all_with own_host running.logs world (at.whole none');
      holds = ended-holds holding digests;
      lowest = lowest_with own_host running.logs world end at.lowest;
      passed = running.passed;
      count = count;
    };
    unserved = λ short. absurd (omega (arith, short, running.counters));
  }

  -- so the bundle says, where all phases are done
  pub ended-map : HoldAsCertified → GivesDigests functions.digest → (result : RunEnd) → result ≡ end_by (length script) end
      → IfDone result (HoldsWhatIsCertified functions settings world outputs.vault outputs.vault_after)
  ended-map holding digests result is =
      subst (λ (r : RunEnd). IfDone r (HoldsWhatIsCertified functions settings world outputs.vault outputs.vault_after)) (sym is) (go end refl)
    where
      go : (e : Option ClockEnd) → end ≡ e → IfDone (end_by (length script) e) (HoldsWhatIsCertified functions settings world outputs.vault outputs.vault_after)
      go None none' = record { rounds = past; logs = running.logs; bundle = running.keeps.vault; holds = ended-holds holding digests none' }
      go (Some found) some = tt

  -- all epochs are certified where no clock ended
  pub ended-due : ChecksAsDone → GivesDigests functions.digest → end ≡ None
      → end_due functions settings.header (written_logs settings.header running.logs) ≡ Done (length script)
  ended-due checks digests none' =
      let way = running.way in
      ap (λ (logs : List (List Command)). end_due functions settings.header (written_logs settings.header logs)) (logs-are ∙ ap logs_of way.is)
      ∙ checks functions settings script way.events (can-run digests) running.keeps.vault.is_bundle.first way.enabled (all-advanced none')
      ∙ ap (λ (n : ℕ). Done n) (ap (λ (w : World Content). suc w.phase) (sym way.is) ∙ at.last none' ∙ length-map script (map turn_of))

  -- so the last line says
  pub ended-line : ChecksAsDone → GivesDigests functions.digest → end ≡ None
      → last_line (status_of (end_due functions settings.header (written_logs settings.header running.logs))) ≡ last_line (status_at (end_by (length script) end))
  ended-line checks digests none' =
      ap (λ (e : BundleEnd). last_line (status_of e)) (ended-due checks digests none')
      ∙ ap (λ (e : Option ClockEnd). last_line (status_at (end_by (length script) e))) (sym none')

  module _ (holding : HoldAsCertified) (digests : GivesDigests functions.digest)
      (all : AllCounted functions settings.header (written_logs settings.header running.logs) rounds) (count : end ≡ None → length past ≡ 2 * round_count settings script) where
    -- all that is due is written
    due-written : GrowsFor account outputs.out outputs.out_after (lines_due (told_for account functions settings.header) functions settings.header (written_logs settings.header running.logs))
    due-written =
        subst (GrowsFor account outputs.out outputs.out_after)
        (lines-due (told_for account functions settings.header) (scheme_of functions settings.header) settings.header (written_logs settings.header running.logs) rounds.judged (map (λ fed. fed.run) rounds.runs) running.keeps.runs.taken all)
        running.written

    -- the end of what is to be written is
    pub ended-served : (out' : Option (List ℕ)) (result : RunEnd) → result ≡ end_by (length script) end
        → Grows outputs.out_after out' (ending_for account rounds (status_at result))
        → IsServed account functions settings script result (record outputs { out_after = out' })
    ended-served out' result is written = record {
      logs = running.logs;
      end = end;
      rounds = past;
      run = ended-run holding digests count;
      is = is;
      vault = running.keeps.vault;
      out = ending-written account functions settings.header running.logs rounds result outputs.out outputs.out_after out' running.keeps.runs all due-written written;
    }

    -- or a front of it
    pub ended-cut : (out' : Option (List ℕ)) → GrowsByFront outputs.out_after out' (ending_for account rounds (status_at (end_by (length script) end)))
        → IsCutAtEnd account functions settings script (record outputs { out_after = out' })
    ended-cut out' written = record {
      logs = running.logs;
      end = end;
      rounds = past;
      run = ended-run holding digests count;
      vault = running.keeps.vault;
      out = ending-front account functions settings.header running.logs rounds (end_by (length script) end) outputs.out outputs.out_after out' running.keeps.runs all due-written written;
    }

-- ---- how many workers there are

-- as many workers as verifiers
pub set_up-count : (settings : Settings) (host : Host Content Request) (world : World Content) → IsSettings settings → host.header ≡ settings.header → world ≡ set_up host
    → length world.workers ≡ settings.header.verifiers
set_up-count settings host world fit same is =
    ap (λ (w : World Content). length w.workers) is
    ∙ ap suc (length-replicate (host.header.verifiers - 1) (fresh host.header))
    ∙ ap (λ (header : Header). suc (header.verifiers - 1)) same
    ∙ (let some = fit.header.some_verifiers in omega arith)

-- ---- from round to round

-- each turn of a phase is one of the workers', also of a world further on
pub turns-now : {D : Type 0} (old now : code.World D) (phase : ℕ) → AreOfOneHost old now → AreTasks old.settings.header (requests_of old)
    → length (shown_world now).workers ≡ now.settings.header.verifiers
    → AllByRecursion (λ turn. turn.0 < length (shown_world now).workers) (get_or (map (map turn_of) (requests_of now)) phase [])
turns-now old now phase same tasks count =
    subst (λ (n : ℕ). AllByRecursion (λ turn. turn.0 < n) (get_or (map (map turn_of) (requests_of now)) phase [])) (sym count)
    (turns-script now.settings.header (requests_of now) phase
    (subst (λ (settings : Settings). AreTasks settings.header (requests_of now)) (sym same.settings)
    (subst (AreTasks old.settings.header) (sym same.requests) tasks)))

-- as many workers as verifiers, where the run goes on
pub runs-workers : (account : Account) {D : Type 0} (functions : D → DigestFunctions) (runner : WorldRun D) (past : List Logs) (outputs : Outputs) → Runs account functions runner past outputs
    → length (shown_world runner.world).workers ≡ runner.world.settings.header.verifiers
runs-workers account functions runner past outputs runs = running-workers _ _ _ _ (shown_world runner.world) runner.rounds runner.end past outputs runs.running

-- behind the last close it runs to its end
pub whole-to_end : (account : Account) {D : Type 0} (functions : D → DigestFunctions) (old runner : WorldRun D) (outputs : Outputs) → AreOfOneHost old.world runner.world
    → RunsWhole account functions runner (suc (rounds_before old)) outputs → IsAtEnd (host_of (functions (digests_of runner.world)) runner.world) (shown_world runner.world) runner.end
    → (runner.end ≡ None → (shown_world runner.world).phase ≡ (shown_world old.world).phase) → RunsToEnd account functions runner outputs
whole-to_end account functions old runner outputs host whole at same = record {
  past = whole.past;
  runs = whole.runs;
  all = whole.all;
  count = λ none'.
      let last : suc (shown_world runner.world).phase ≡ length (requests_of runner.world) = at.last none' ∙ length-map (requests_of runner.world) (map turn_of) in
      let before : rounds_before runner ≡ rounds_before old = rounds-same old runner host (same none') in
      let all = closes runner.world.settings.rolling (shown_world runner.world).phase (length (requests_of runner.world)) last in
      omega (arith, whole.count, before, all);
}
  where
    closes : (b : Bool) (phase size : ℕ) → suc phase ≡ size → suc (if b then 0 else phase) ≡ (if b then 1 else size)
    closes true phase size is = refl
    closes false phase size is = is

-- where nothing follows the round of a rolling host, and a clock ended in it
pub told-to_end : (account : Account) {D : Type 0} (functions : D → DigestFunctions) (runner : WorldRun D) (past : List Logs) (outputs : Outputs)
    → RunsTold account functions runner past outputs → (runner.end ≡ None → ⊥) → RunsToEnd account functions runner outputs
told-to_end account functions runner past outputs told ended = record {
  past = past;
  runs = told.runs;
  all = told.all;
  count = λ none'. absurd (ended none');
}
