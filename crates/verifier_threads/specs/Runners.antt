-- How a runner stands between two calls, and which call comes next.
use Rattle.std.specs.Prelude.{◌≡◌, Bool, ℕ, suc, ◌-◌, ◌<◌, List, [], length, Option}
use Rattle.record_hash.specs.Functions.{DigestFunctions}
use Rattle.bundle_report.specs.Logs.{empty_logs}
use Rattle.script_text.specs.Text.{AreTasks}
use Rattle.script_text.specs.declared.task.Task.{Task}
use Rattle.host_world.specs.declared.fault.ClockEnd.{ClockEnd}
use Rattle.shipped_host.specs.declared.settings.Settings.{Settings}
use Rattle.shipped_host.specs.Settings.{IsSettings}
use Rattle.host_world.specs.Shown.{shown_world, digests_of, requests_of}
use Rattle.host_world.specs.Behind.{host_of}
use Rattle.host_rounds.specs.SoFar.{RunsSoFar, Keeps}
use Rattle.verifier_threads.specs.declared.accounts.Account.{Account}
use Rattle.verifier_threads.specs.declared.accounts.Account.TheVariants as accounts
use Rattle.verifier_threads.specs.declared.runner.NextCall.{NextCall}
use Rattle.verifier_threads.specs.declared.runner.NextCall.TheVariants as calls
use Rattle.verifier_threads.specs.declared.runner.Runner.{Runner}
use Rattle.verifier_threads.specs.declared.runner.State.{State}
use Rattle.verifier_threads.specs.declared.runner.State.TheVariants as states
use Rattle.verifier_threads.specs.declared.world_run.WorldRun.{WorldRun}
use Rattle.verifier_threads.specs.Serving.{Outputs, HoldsWhatIsCertified, setup_end}
use Rattle.verifier_threads.specs.Running.{RunsBehind, RunsToEnd, rounds_before, IsAtRound, IsAtClose, IsAtEnd}

-- ---- which call comes next

-- the call of a runner that comes next
abbrev pub next_call_of : {D : Type 0} → Runner D → NextCall
next_call_of runner = runner.next

-- how many rounds of the script a run has not closed, if there is a round or a close to come: those from the world's phase on, which
-- in a rolling host is the last
abbrev pub left_by : {D : Type 0} → NextCall → State D → ℕ
left_by calls.Finish state = 0
left_by calls.Round (states.Unserved rounds end) = 0
left_by calls.Round (states.Served run) = length (requests_of run.world) - (shown_world run.world).phase
left_by calls.Close (states.Unserved rounds end) = 0
left_by calls.Close (states.Served run) = length (requests_of run.world) - (shown_world run.world).phase

-- how many rounds a runner still has to close: none where it is to finish
abbrev pub rounds_left : {D : Type 0} → Runner D → ℕ
rounds_left runner = left_by runner.next runner.state

-- ---- a run of a world

-- A run before this call, by what is written of it. Before a round of requests each such round and each close before it is handed
-- out, and before its close that round too; at the end nothing follows.
abbrev pub StandsBefore : NextCall → Account → {D : Type 0} → (D → DigestFunctions) → WorldRun D → Outputs → Type 0
StandsBefore calls.Round account functions run outputs =
    RunsBehind account functions run (rounds_before run) (rounds_before run) outputs
    × IsAtRound (host_of (functions (digests_of run.world)) run.world) (shown_world run.world) run.end
StandsBefore calls.Close account functions run outputs =
    RunsBehind account functions run (suc (rounds_before run)) (rounds_before run) outputs
    × IsAtClose (host_of (functions (digests_of run.world)) run.world) (shown_world run.world) run.end
StandsBefore calls.Finish account functions run outputs =
    RunsToEnd account functions run outputs
    × IsAtEnd (host_of (functions (digests_of run.world)) run.world) (shown_world run.world) run.end

-- whether lines are written along the way: of a report they are
abbrev pub TellsLines : Account → Type 0
TellsLines account = (receipts : Bool) × (account ≡ accounts.Report receipts)

-- a run of these functions and settings and of this script, whose tasks are its workers'
pub record IsRunOf {D : Type 0} (functions : D → DigestFunctions) (own : DigestFunctions) (settings : Settings) (script : List (List Task)) (run : WorldRun D) : Type 0 where
  pub functions_are : functions (digests_of run.world) ≡ own
  pub settings_are : run.world.settings ≡ settings
  pub script_is : requests_of run.world ≡ script
  pub tasks : AreTasks settings.header script

-- Such a run stands so before this call.
pub record IsUnderWayTo (account : Account) (call : NextCall) {D : Type 0} (functions : D → DigestFunctions) (own : DigestFunctions) (settings : Settings)
    (script : List (List Task)) (run : WorldRun D) (outputs : Outputs) : Type 0 where
  pub is_of : IsRunOf functions own settings script run
  pub stands : StandsBefore call account functions run outputs

-- Counters that don't suffice for the setup: the vault took the header, nothing is written, and the end is to be told.
pub record IsUnserved (functions : DigestFunctions) (settings : Settings) (rounds : RunsSoFar) (end : ClockEnd) (outputs : Outputs) : Type 0 where
  pub settings_fit : IsSettings settings
  pub short : settings.header.end < settings.shards
  pub end_is : end ≡ setup_end settings
  pub none : rounds.judged.count ≡ 0
  pub keeps : Keeps functions settings.header (empty_logs settings.header.verifiers) [] rounds outputs.vault outputs.vault_after
  pub unwritten : outputs.out_after ≡ outputs.out

-- ---- a runner

-- its run stands before this call, or nothing was served and the end is to come
abbrev pub StateStands : Account → NextCall → {D : Type 0} → (D → DigestFunctions) → DigestFunctions → Settings → List (List Task) → State D → Outputs → Type 0
StateStands account call functions own settings script (states.Served run) outputs =
    IsUnderWayTo account call functions own settings script run outputs
StateStands account call functions own settings script (states.Unserved rounds end) outputs =
    (call ≡ calls.Finish) × IsUnserved own settings rounds end outputs

-- A runner of a script stands before its next call: what is to be written of the run, the digests of its texts, its settings and the
-- script are these, and so are what the vault and the sink held before the run and hold now.
pub record Stands (account : Account) {D : Type 0} (functions : D → DigestFunctions) (own : DigestFunctions) (settings : Settings) (script : List (List Task))
    (runner : Runner D) (outputs : Outputs) : Type 0 where
  pub account_is : runner.account ≡ account
  pub state : StateStands account runner.next functions own settings script runner.state outputs

-- what is held where all is served: the contents of the run's world hold what is certified
abbrev pub StateHolds : DigestFunctions → Settings → {D : Type 0} → State D → Outputs → Type 0
StateHolds own settings (states.Served run) outputs = HoldsWhatIsCertified own settings (shown_world run.world) outputs.vault outputs.vault_after
StateHolds own settings (states.Unserved rounds end) outputs = ⊥

-- the contents that a runner keeps hold the plain map that the bundle in the vault certifies
abbrev pub KeepsWhatIsCertified : DigestFunctions → Settings → {D : Type 0} → Runner D → Outputs → Type 0
KeepsWhatIsCertified own settings runner outputs = StateHolds own settings runner.state outputs

-- A runner that its calls have brought so far, where the vault now holds this.
abbrev pub IsServing : {D : Type 0} → (D → DigestFunctions) → Runner D → Option (List ℕ) → Type 0
IsServing functions runner held =
    (account : Account) × (own : DigestFunctions) × (settings : Settings) × (script : List (List Task)) × (outputs : Outputs)
    × Stands account functions own settings script runner outputs × (outputs.vault_after ≡ held)
