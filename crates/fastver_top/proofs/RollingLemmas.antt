-- Two runs with one worker, of which the epochs of one roll, report the same.
use Rattle.std.proofs.Common.{◌≡◌, ⊎_elim, ℕ, ◌^◌, ◌<◌, true, false, Bool, List, length, Option, Some, None, Result, Ok, refl, sym, ◌∙◌, ap, subst, arith}
use Rattle.std.proofs.lemmas.Bool.{cases_lt}
use Rattle.fv_outside.specs.Written.{Grows}
use Rattle.lamport_clocks.specs.declared.header.Header.{Header}
use Rattle.record_hash.specs.Functions.{DigestFunctions}
use Rattle.record_hash.specs.ShaDigests.{sha_under}
use Rattle.record_hash.specs.Shapes.{IsDigest-sha256}
use Rattle.record_text.specs.declared.request.Request.{Request}
use Rattle.merkle_records.specs.Merkle.{GivesDigests}
use Rattle.script_text.specs.declared.task.Task.{Task}
use Rattle.script_text.specs.Script.{script_of}
use Rattle.script_text.specs.Text.{AreTasks}
use Rattle.report_text.specs.declared.status.Status.TheVariants as statuses
use Rattle.report_text.specs.Answer.{Reading, Writing}
use Rattle.program_words.specs.declared.host_words.HostNumbers.{HostNumbers}
use Rattle.program_words.specs.declared.host_words.RunWords.{RunWords}
use Rattle.program_words.specs.declared.words.Asked.TheVariants as asks
use Rattle.program_words.specs.HostWords.{AreHostNumbers}
use Rattle.program_words.specs.Words.{asked_of}
use Rattle.program_words.proofs.AskedLaws.{asked_range}
use Rattle.host_core.specs.World.{logs_of}
use Rattle.host_core.specs.WorldEvent.{WorldEvent}
use Rattle.host_world.specs.declared.fault.ClockEnd.{ClockEnd}
use Rattle.shipped_host.specs.declared.settings.Settings.{Settings}
use Rattle.shipped_host.specs.Ranges.{AreInRange}
use Rattle.shipped_host.specs.Settings.{IsSettings}
use Rattle.shipped_host.specs.ShippedHost.{shipped_host}
use Rattle.host_fits.specs.Promise.{CanRun}
use Rattle.host_serving.specs.Standing.{IsAllServed}
use Rattle.one_worker.specs.Runs.{world_behind, IsWholeRun, OneWorkerLogsTheSame}
use Rattle.verifier_threads.specs.declared.accounts.Account.TheVariants as accounts
use Rattle.verifier_threads.specs.declared.ending.RunEnd.{RunEnd}
use Rattle.verifier_threads.specs.declared.ending.RunEnd.TheVariants as ends
use Rattle.verifier_threads.specs.InRounds.{Logs}
use Rattle.verifier_threads.specs.Serving.{Outputs, AreServed, AreOfRun, IsServed, end_by, status_at, report_of}
use Rattle.check_core.specs.Sealing.{Keeping}
use Rattle.fastver_top.specs.Running.{RunsTo, EndsServed, header_for, settings_for, outputs_of}
use Rattle.fastver_top.specs.Rolling.{DifferInRolling, ReportTheSame}
use Rattle.fastver_top.proofs.CompleteLemmas.{of_bytes}
use Rattle.fastver_top.proofs.SettingLemmas.{settings_in_range}

-- ---- the logs

module _ (law : OneWorkerLogsTheSame) (functions : DigestFunctions) (settings : Settings) (script : List (List Task)) (one : settings.header.verifiers ≡ 1) where
  abbrev in_mode : Bool → Settings
  in_mode rolling = record settings { rolling = rolling }

  -- what is served with no clock's end is a whole run
  record IsRun (rolling : Bool) (logs : Logs) : Type 0 where
    pub events : List (WorldEvent Request)
    pub whole : IsWholeRun (shipped_host functions (in_mode rolling) script) events
    pub are : logs ≡ logs_of (world_behind (shipped_host functions (in_mode rolling) script) events)

  run_of : (rolling : Bool) (rounds : List Logs) (logs : Logs) → AreServed functions (in_mode rolling) script rounds logs None → IsRun rolling logs
  run_of rolling rounds logs served = record {
    events = served.way.events;
    whole = record {
      form = served.way.form;
      way = record { enabled = served.way.enabled; unended = served.way.first };
      whole = subst (IsAllServed (shipped_host functions (in_mode rolling) script)) served.way.is (served.whole refl);
    };
    are = served.logs_are ∙ ap logs_of served.way.is;
  }

  same_logs : (rounds others : List Logs) (logs later : Logs) → CanRun functions (in_mode true) script → AreServed functions (in_mode false) script rounds logs None
      → AreServed functions (in_mode true) script others later None → later ≡ logs
  same_logs rounds others logs later can served rolled =
      let plain = run_of false rounds logs served in
      let rolling = run_of true others later rolled in
      rolling.are ∙ (law functions settings script can one).same plain.events rolling.events plain.whole rolling.whole ∙ sym plain.are

  module _ (in_range : IsSettings (in_mode true)) (keys : AreInRange settings.header script) (digests : GivesDigests functions.digest) where
    runs_same : (rounds others : List Logs) (logs later : Logs) → AreOfRun functions (in_mode false) script rounds logs None
        → AreOfRun functions (in_mode true) script others later None → later ≡ logs
    runs_same rounds others logs later run rolled =
        ⊎_elim (λ short. absurd (let no = (run.unserved short).2 in cc))
        (λ enough. same_logs rounds others logs later (record { in_range = in_range; counters = enough; keys = keys; digests = digests }) (run.served enough) (rolled.served enough))
        (cases_lt settings.header.end settings.shards)

    -- ---- the report

    no_end : (end : Option ClockEnd) (epochs : ℕ) → statuses.Done epochs ≡ status_at (end_by (length script) end) → (end ≡ None) × (epochs ≡ length script)
    no_end None epochs is = (refl, cc)
    no_end (Some end) epochs is = absurd (cc)

    -- what is written where all is done
    abbrev report : Bool → Logs → List ℕ
    report receipts logs = report_of receipts functions settings.header logs (ends.Done (length script))

    -- a run that is done, with its logs
    record IsDoneWith (rolling receipts : Bool) (epochs : ℕ) (outputs : Outputs) : Type 0 where
      pub rounds : List Logs
      pub logs : Logs
      pub run : AreOfRun functions (in_mode rolling) script rounds logs None
      pub count : epochs ≡ length script
      pub out : Grows outputs.out outputs.out_after (report receipts logs)

    done_with : (rolling receipts : Bool) (epochs : ℕ) (end : RunEnd) (outputs : Outputs) → statuses.Done epochs ≡ status_at end
        → IsServed (accounts.Report receipts) functions (in_mode rolling) script end outputs → IsDoneWith rolling receipts epochs outputs
    done_with rolling receipts epochs end outputs is served =
        let none' = no_end served.end epochs (is ∙ ap status_at served.is) in
        record {
          rounds = served.rounds;
          logs = served.logs;
          run = subst (AreOfRun functions (in_mode rolling) script served.rounds served.logs) none'.0 served.run;
          count = none'.1;
          out = subst (λ (e : RunEnd). Grows outputs.out outputs.out_after (report_of receipts functions settings.header served.logs e))
              (served.is ∙ ap (end_by (length script)) none'.0) served.out;
        }

    -- Both write one report.
    pub one_report : (receipts : Bool) (epochs more : ℕ) (end later : RunEnd) (outputs others : Outputs) → statuses.Done epochs ≡ status_at end → statuses.Done more ≡ status_at later
        → IsServed (accounts.Report receipts) functions (in_mode false) script end outputs → IsServed (accounts.Report receipts) functions (in_mode true) script later others
        → (more ≡ epochs) × (text : List ℕ) × Grows outputs.out outputs.out_after text × Grows others.out others.out_after text
    one_report receipts epochs more end later outputs others is then' served rolled =
        let first = done_with false receipts epochs end outputs is served in
        let second = done_with true receipts more later others then' rolled in (
          second.count ∙ sym first.count,
          report receipts first.logs,
          first.out,
          subst (λ (logs : Logs). Grows others.out others.out_after (report receipts logs)) (runs_same first.rounds second.rounds first.logs second.logs first.run second.run) second.out,
        )

-- ---- two calls

one_script : {X Y : Type 0} (read : Result X Y) (script other : X) → read ≡ Ok script → read ≡ Ok other → other ≡ script
one_script read script other is then' = cc

pub reports_same : OneWorkerLogsTheSame → ((header : Header) (script : List (List Task)) → AreTasks header script → AreInRange header script)
    → ((header : Header) (bytes : List ℕ) (script : List (List Task)) → header.verifiers < 2 ^ 16 → script_of header bytes ≡ Ok script → AreTasks header script)
    → (others : List (List ℕ)) (run rolled : RunWords) (most next_most epochs more : ℕ) (bytes : List ℕ)
    → (reading : Reading) (writing : Writing) (keeping : Keeping) (next_reading : Reading) (next_writing : Writing) (next_keeping : Keeping)
    → asked_of others ≡ Some (asks.Run rolled) → DifferInRolling run rolled → reading.left ≡ Some bytes → next_reading.left ≡ Some bytes
    → RunsTo (sha_under run.key) run most (statuses.Done epochs) reading writing keeping
    → RunsTo (sha_under rolled.key) rolled next_most (statuses.Done more) next_reading next_writing next_keeping
    → (more ≡ epochs) × ReportTheSame writing next_writing
reports_same law in_range tasks others run rolled most next_most epochs more bytes reading writing keeping next_reading next_writing next_keeping accepted alike left next_left runs rolls =
    let both = one_report law (sha_under run.key) (settings_for run.numbers) first.script alike.one
    (settings_in_range rolling_numbers (subst AreHostNumbers alike.numbers (asked_range others (asks.Run rolled) accepted)))
    (in_range (header_for run.numbers) first.script (tasks (header_for run.numbers) bytes first.script (omega (arith, alike.one)) first_script))
    (λ text. (IsDigest-sha256 text).size) run.receipts epochs more first.end second.end (outputs_of writing keeping) (outputs_of next_writing next_keeping) first.is second.is first_served second_served in
    (both.0, record { report = both.1; first_wrote = both.2; second_wrote = both.3 })
  where
    first : EndsServed (sha_under run.key) run (statuses.Done epochs) reading (outputs_of writing keeping)
    first = runs.served tt

    second : EndsServed (sha_under rolled.key) rolled (statuses.Done more) next_reading (outputs_of next_writing next_keeping)
    second = rolls.served tt

    rolling_numbers : HostNumbers
    rolling_numbers = record run.numbers { rolling = true }

    first_script : script_of (header_for run.numbers) bytes ≡ Ok first.script
    first_script = of_bytes (λ b. script_of (header_for run.numbers) b ≡ Ok first.script) reading.left bytes left first.read.good

    second_script : script_of (header_for run.numbers) bytes ≡ Ok second.script
    second_script =
        subst (λ (n : HostNumbers). script_of (header_for n) bytes ≡ Ok second.script) alike.numbers
        (of_bytes (λ b. script_of (header_for rolled.numbers) b ≡ Ok second.script) next_reading.left bytes next_left second.read.good)

    scripts : second.script ≡ first.script
    scripts = one_script (script_of (header_for run.numbers) bytes) first.script second.script first_script second_script

    first_served : IsServed (accounts.Report run.receipts) (sha_under run.key) (record (settings_for run.numbers) { rolling = false }) first.script first.end (outputs_of writing keeping)
    first_served =
        subst (λ (b : Bool). IsServed (accounts.Report run.receipts) (sha_under run.key) (record (settings_for run.numbers) { rolling = b }) first.script first.end (outputs_of writing keeping))
        alike.plain first.served

    second_served : IsServed (accounts.Report run.receipts) (sha_under run.key) (record (settings_for run.numbers) { rolling = true }) first.script second.end (outputs_of next_writing next_keeping)
    second_served =
        subst (λ (s : List (List Task)). IsServed (accounts.Report run.receipts) (sha_under run.key) (settings_for rolling_numbers) s second.end (outputs_of next_writing next_keeping)) scripts
        (subst (λ (n : HostNumbers). IsServed (accounts.Report run.receipts) (sha_under run.key) (settings_for n) second.script second.end (outputs_of next_writing next_keeping)) alike.numbers
        (subst (λ (k : List ℕ). IsServed (accounts.Report run.receipts) (sha_under k) (settings_for rolled.numbers) second.script second.end (outputs_of next_writing next_keeping)) alike.key
        (subst (λ (b : Bool). IsServed (accounts.Report b) (sha_under rolled.key) (settings_for rolled.numbers) second.script second.end (outputs_of next_writing next_keeping)) alike.receipts
        second.served)))
