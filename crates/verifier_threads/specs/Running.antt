-- How a run stands between two calls: its world, the vault, what the verifiers read, and what is written.
use Rattle.std.specs.Prelude.{◌≡◌, ◌≢◌, ◌⊎◌, ℕ, suc, ◌+◌, ◌*◌, ◌≤◌, max, Bool, true, List, [], length, map, take, Option, None, if◌then◌else◌}
use Rattle.std.specs.List.{AllByRecursion}
use Rattle.fv_outside.specs.Written.{GrowsByFront}
use Rattle.record_hash.specs.Functions.{DigestFunctions}
use Rattle.report_text.specs.declared.status.Status.{Status}
use Rattle.report_text.specs.Status.{last_line}
use Rattle.load_summary.specs.Summary.{summary_with_end}
use Rattle.slot_rewriting.specs.Writing.{written_logs, ComeToRestFrom}
use Rattle.host_core.specs.Host.{Host}
use Rattle.host_core.specs.World as machine
use Rattle.host_shard.specs.Content.{Content}
use Rattle.script_text.specs.declared.task.Task.{Task}
use Rattle.host_world.specs.declared.fault.ClockEnd.{ClockEnd}
use Rattle.shipped_host.specs.declared.settings.Settings.{Settings}
use Rattle.shipped_host.specs.Settings.{IsSettings}
use Rattle.host_world.specs.Shown.{shown_world, digests_of, requests_of}
use Rattle.shipped_host.specs.ShippedHost.{shipped_host}
use Rattle.shipped_host.specs.Ranges.{AreInRange, HaveShortValues}
use Rattle.host_world.specs.Behind.{with_logs}
use Rattle.host_serving.specs.Leading.{LeadsAs}
use Rattle.host_serving.specs.Form.{AreInRounds}
use Rattle.host_serving.specs.Standing.{BeginsRound, EndsRound, NothingFollows, NoneStopped, SomeStopped, IsLowest, IsAllServed}
use Rattle.worker_threads.specs.Phase.{first_stopped}
use Rattle.certified_epochs.specs.declared.fed_run.FedRun.{FedRun}
use Rattle.host_rounds.specs.Feeding.{AllRead}
use Rattle.host_rounds.specs.SoFar.{RunsSoFar, Keeps, AllCounted, lines_counted, with_runs}
use Rattle.verifier_threads.specs.declared.accounts.Account.{Account}
use Rattle.verifier_threads.specs.declared.accounts.Account.TheVariants as accounts
use Rattle.verifier_threads.specs.declared.world_run.WorldRun.{WorldRun}
use Rattle.verifier_threads.specs.InRounds.{Logs, logged_behind, no_logs, ArePassed}
use Rattle.verifier_threads.specs.Serving.{Outputs, GrowsFor, HasTold, told_for, round_count}

-- ---- logs that are handed out

-- a worker that has handed its log out
abbrev pub with_no_log : machine.Worker → machine.Worker
with_no_log worker = record worker { log = [] }

-- a world whose workers have
abbrev pub all_handed_out : {C : Type 0} → machine.World C → machine.World C
all_handed_out world = record world { workers = map with_no_log world.workers }

-- ---- what a close may seal

-- How many epochs: a close one, the last close two. In a rolling host, where no phase has a close of its own, the one close is the last,
-- and may seal an epoch for each phase.
abbrev pub may_seal : Bool → Bool → ℕ → ℕ
may_seal last rolling phases = if last then (if rolling then max phases 2 else 2) else 1

-- ---- what is written

-- what a sink takes before the end where it fails: of a report a front of these lines, and of a summary nothing
abbrev pub GrowsByFrontFor : Account → Option (List ℕ) → Option (List ℕ) → List ℕ → Type 0
GrowsByFrontFor (accounts.Report receipts) old new lines = GrowsByFront old new lines
GrowsByFrontFor (accounts.Summary load) old new lines = new ≡ old

-- what is written at the end of a run that ended so: the last line of its report, or the summary of what was counted
abbrev pub ending_for : Account → RunsSoFar → Status → List ℕ
ending_for (accounts.Report receipts) rounds status = last_line status
ending_for (accounts.Summary load) rounds status = summary_with_end load.seed load.ops rounds.judged.count rounds.summary.tallies status

-- ---- a run

-- Events lead from the setup to this world with the logs in front that were handed out, and this is the first end of a
-- clock that they come to. They were handed out in these rounds, and they come to rest, so that what comes behind is written as logs of
-- its own. The vault has the bundle of these and the verifiers' runs have taken them, and what is told of the epochs that are counted
-- is written.
pub record IsRunning (account : Account) (functions : DigestFunctions) (settings : Settings) (script : List (List Task)) (world : machine.World Content) (rounds : RunsSoFar) (end : Option ClockEnd)
    (past : List Logs) (outputs : Outputs) : Type 0 where
  pub settings_fit : IsSettings settings
  pub counters : settings.shards ≤ settings.header.end
  pub keys : AreInRange settings.header script
  pub values : HaveShortValues settings.header script
  pub logs : Logs
  pub joined : logs ≡ logged_behind (no_logs settings.header.verifiers) past
  pub each : length logs ≡ length world.workers
  pub rests : ComeToRestFrom settings.header 0 logs
  pub way : LeadsAs AreInRounds (shipped_host functions settings script) (machine.set_up (shipped_host functions settings script)) (with_logs logs world) end
  pub passed : ArePassed (shipped_host functions settings script) past (with_logs logs world)
  pub keeps : Keeps functions settings.header (written_logs settings.header logs) (map (written_logs settings.header) past) rounds outputs.vault outputs.vault_after
  pub written : GrowsFor account outputs.out outputs.out_after (lines_counted (told_for account functions settings.header) functions settings.header (written_logs settings.header logs) rounds)

-- So runs a runner of the code, which has a buffer for each worker, and a count of parcels for its verifier.
pub record Runs (account : Account) {D : Type 0} (functions : D → DigestFunctions) (runner : WorldRun D) (past : List Logs) (outputs : Outputs) : Type 0 where
  pub running : IsRunning account (functions (digests_of runner.world)) runner.world.settings (requests_of runner.world) (shown_world runner.world) runner.rounds runner.end past outputs
  pub buffers : length runner.buffers.items ≡ length (shown_world runner.world).workers
  pub counts : length runner.parcels.items ≡ length (shown_world runner.world).workers

-- how many rounds that served requests, and as many closes, the world of a run has behind it before the one that it is in
abbrev pub rounds_before : {D : Type 0} → WorldRun D → ℕ
rounds_before runner = if runner.world.settings.rolling then 0 else (shown_world runner.world).phase

-- The same behind so many rounds that served requests and so many closes: all is written that is told of what the rounds up to the
-- last close certify.
pub record RunsBehind (account : Account) {D : Type 0} (functions : D → DigestFunctions) (runner : WorldRun D) (phases closes : ℕ) (outputs : Outputs) : Type 0 where
  pub past : List Logs
  pub runs : Runs account functions runner past outputs
  pub count : length past ≡ phases + closes
  pub told : HasTold account (functions (digests_of runner.world)) runner.world.settings.header (take (2 * closes) past) outputs

-- The same with these rounds behind it, and each epoch that the logs certify is counted and told.
pub record RunsTold (account : Account) {D : Type 0} (functions : D → DigestFunctions) (runner : WorldRun D) (past : List Logs) (outputs : Outputs) : Type 0 where
  pub runs : Runs account functions runner past outputs
  pub all : AllCounted (functions (digests_of runner.world)) runner.world.settings.header (written_logs runner.world.settings.header runs.running.logs) runner.rounds
  pub told : HasTold account (functions (digests_of runner.world)) runner.world.settings.header past outputs

-- The same behind so many closes, and each epoch that the logs certify is counted.
pub record RunsWhole (account : Account) {D : Type 0} (functions : D → DigestFunctions) (runner : WorldRun D) (closes : ℕ) (outputs : Outputs) : Type 0 where
  pub past : List Logs
  pub runs : Runs account functions runner past outputs
  pub all : AllCounted (functions (digests_of runner.world)) runner.world.settings.header (written_logs runner.world.settings.header runs.running.logs) runner.rounds
  pub count : length past ≡ closes + closes
  pub told : HasTold account (functions (digests_of runner.world)) runner.world.settings.header past outputs

-- The same at the end, where each round that served requests had its close if no clock ended.
pub record RunsToEnd (account : Account) {D : Type 0} (functions : D → DigestFunctions) (runner : WorldRun D) (outputs : Outputs) : Type 0 where
  pub past : List Logs
  pub runs : Runs account functions runner past outputs
  pub all : AllCounted (functions (digests_of runner.world)) runner.world.settings.header (written_logs runner.world.settings.header runs.running.logs) runner.rounds
  pub count : runner.end ≡ None → length past ≡ 2 * round_count runner.world.settings (requests_of runner.world)

-- so it runs, whatever rounds were handed out
abbrev pub RunsSome : Account → {D : Type 0} → (D → DigestFunctions) → WorldRun D → Outputs → Type 0
RunsSome account functions runner outputs = (past : List Logs) × Runs account functions runner past outputs

-- So it runs, whatever is written of it and whatever the vault and the sink held before, where the vault now holds this.
abbrev pub IsUnderWay : {D : Type 0} → (D → DigestFunctions) → WorldRun D → Option (List ℕ) → Type 0
IsUnderWay functions runner held = (account : Account) × (outputs : Outputs) × RunsSome account functions runner outputs × (outputs.vault_after ≡ held)

-- the runner with other runs of its verifiers
abbrev pub with_runs_of : {D : Type 0} → List FedRun → WorldRun D → WorldRun D
with_runs_of runs runner = record runner { rounds = with_runs runs runner.rounds }

-- its verifiers' runs took what its workers logged since that was last handed out, and were these before
abbrev pub HaveReadRound : {D : Type 0} → (D → DigestFunctions) → List FedRun → WorldRun D → Type 0
HaveReadRound functions before runner =
    AllRead (functions (digests_of runner.world)) (written_logs runner.world.settings.header (machine.logs_of (shown_world runner.world))) before runner.rounds.runs

-- so it runs, but that its verifiers' runs have taken what its workers logged and the vault doesn't have that yet
abbrev pub IsFedUnderWay : {D : Type 0} → (D → DigestFunctions) → WorldRun D → Option (List ℕ) → Type 0
IsFedUnderWay functions runner held =
    (account : Account) × (outputs : Outputs) × (before : List FedRun) × RunsSome account functions (with_runs_of before runner) outputs
    × HaveReadRound functions before runner × (outputs.vault_after ≡ held)

-- so it runs behind so many rounds that served requests and so many closes
abbrev pub IsUnderWayBehind : {D : Type 0} → (D → DigestFunctions) → WorldRun D → ℕ → ℕ → Option (List ℕ) → Type 0
IsUnderWayBehind functions runner phases closes held =
    (account : Account) × (outputs : Outputs) × RunsBehind account functions runner phases closes outputs × (outputs.vault_after ≡ held)

-- so it runs, with all counted that its logs certify
abbrev pub IsUnderWayWhole : {D : Type 0} → (D → DigestFunctions) → WorldRun D → Type 0
IsUnderWayWhole functions runner = (account : Account) × (outputs : Outputs) × RunsToEnd account functions runner outputs

-- ---- where it stands

module _ {C R : Type 0} (host : Host C R) (world : machine.World C) (end : Option ClockEnd) where
  -- A round begins, and no clock has ended. That of a rolling host begins behind the setup.
  pub record IsAtRound : Type 0 where
    pub begins : BeginsRound host world
    pub new : host.rolling ≡ true → world ≡ machine.set_up host
    pub running : NoneStopped host world
    pub unended : end ≡ None

  -- A round is done and each log is handed out, and the clocks tell whether one has ended; the end is that of the first worker whose
  -- did.
  pub record IsAtClose : Type 0 where
    pub done : EndsRound host world
    pub handed : AllByRecursion (λ worker. worker.log ≡ []) world.workers
    pub ended : ((end ≡ None) × NoneStopped host world) ⊎ ((end ≢ None) × SomeStopped host world)
    pub first : end ≡ first_stopped 0 world.workers

  -- Nothing follows, each log is handed out, and where no clock ended the script is served to its last phase; else the end is that of
  -- the lowest worker whose clock ended with it.
  pub record IsAtEnd : Type 0 where
    pub rests : NothingFollows host world
    pub handed : AllByRecursion (λ worker. worker.log ≡ []) world.workers
    pub whole : end ≡ None → IsAllServed host world
    pub last : end ≡ None → suc world.phase ≡ length host.script
    pub lowest : IsLowest host world end
