-- A script that is served: the logs of its workers, the bundle of them in the vault, and the report or the summary in the sink.
use Rattle.std.specs.Prelude.{◌≡◌, ◌⊎◌, Bool, ℕ, ◌+◌, ◌*◌, ◌<◌, ◌≤◌, List, [], ◌∷◌, ◌++◌, length, map, take, Option, Some, None, Result, Ok, Err, if◌then◌else◌}
use Rattle.fv_outside.specs.Written.{Grows, GrowsByFront}
use Rattle.lamport_clocks.specs.declared.header.Header.{Header}
use Rattle.record_hash.specs.Functions.{DigestFunctions}
use Rattle.log_codec.specs.declared.command.Command.{Command}
use Rattle.slot_rewriting.specs.Writing.{written_logs}
use Rattle.report_text.specs.declared.status.Status.{Status}
use Rattle.report_text.specs.declared.status.Status.TheVariants as statuses
use Rattle.report_text.specs.Status.{last_line}
use Rattle.bundle_report.specs.Report.{EpochText, told_by}
use Rattle.bundle_report.specs.Answer.{check_answer}
use Rattle.certified_epochs.specs.Telling.{nothing_told}
use Rattle.host_core.specs.World.{World, logs_of, set_up}
use Rattle.host_shard.specs.Content.{Content}
use Rattle.script_text.specs.declared.task.Task.{Task}
use Rattle.host_world.specs.declared.fault.ClockEnd.{ClockEnd}
use Rattle.shipped_host.specs.declared.settings.Settings.{Settings}
use Rattle.shipped_host.specs.ShippedHost.{shipped_host}
use Rattle.host_fits.specs.Holds.{ContentsHold}
use Rattle.run_reports.specs.Runs.{map_certified}
use Rattle.host_serving.specs.Leading.{LeadsAs}
use Rattle.host_serving.specs.Form.{AreInRounds}
use Rattle.host_serving.specs.Standing.{NothingFollows, IsLowest, IsAllServed}
use Rattle.fv_outside.specs.declared.failure.Failure.{Failure}
use Rattle.fv_outside.specs.declared.failure.Failure.TheVariants as failures
use Rattle.bundle_frames.specs.Bundle.{header_text}
use Rattle.host_rounds.specs.Round.{round_text, logs_in}
use Rattle.host_rounds.specs.Bundle.{HasBundle, HasFront}
use Rattle.host_rounds.specs.SoFar.{lines_due, summary_due}
use Rattle.verifier_threads.specs.declared.accounts.Account.{Account}
use Rattle.verifier_threads.specs.declared.accounts.Account.TheVariants as accounts
use Rattle.verifier_threads.specs.declared.loads.Load.{Load}
use Rattle.verifier_threads.specs.InRounds.{Logs, no_logs, ArePassed}
use Rattle.verifier_threads.specs.declared.ending.RunEnd.{RunEnd}
use Rattle.verifier_threads.specs.declared.ending.RunEnd.TheVariants as ends

-- ---- how a run ends

-- where a clock ended, and else with so many phases done
abbrev pub end_by : ℕ → Option ClockEnd → RunEnd
end_by phases None = ends.Done phases
end_by phases (Some end) = ends.ClockEnd end

-- the status of a run that ends so
abbrev pub status_at : RunEnd → Status
status_at (ends.Done epochs) = statuses.Done epochs
status_at (ends.ClockEnd end) = statuses.ClockEnd end.worker end.at

-- what is said where a run ends with all phases done
abbrev pub IfDone : RunEnd → Type 0 → Type 0
IfDone (ends.Done epochs) P = P
IfDone (ends.ClockEnd end) P = Unit {0}

-- where worker 0 stands if the counters don't suffice for the setup
abbrev pub setup_end : Settings → ClockEnd
setup_end settings = record { worker = 0; at = record { epoch = settings.header.first; counter = 0 } }

-- ---- the logs

-- in how many rounds, their closes aside, a script is served: each phase in one, or in a rolling host all together in one
abbrev pub round_count : Settings → List (List Task) → ℕ
round_count settings script = if settings.rolling then 1 else length script

module _ (functions : DigestFunctions) (settings : Settings) (script : List (List Task)) (rounds : List Logs) (logs : Logs) (end : Option ClockEnd) where
  -- The logs of a world to which enabled events in rounds lead from the setup, and which nothing follows. Where no clock ended on the
  -- way the whole script is served, and the contents hold the plain map that the logs certify; else it is the first end that they
  -- come to, and that of the lowest worker whose clock ended with it. They were logged in these rounds: where no clock ended, each
  -- that served requests and its close.
  pub record AreServed : Type 0 where
    pub world : World Content
    pub way : LeadsAs AreInRounds (shipped_host functions settings script) (set_up (shipped_host functions settings script)) world end
    pub rests : NothingFollows (shipped_host functions settings script) world
    pub logs_are : logs ≡ logs_of world
    pub whole : end ≡ None → IsAllServed (shipped_host functions settings script) world
    pub holds : end ≡ None → ContentsHold settings world (map_certified functions settings.header logs)
    pub lowest : IsLowest (shipped_host functions settings script) world end
    pub passed : ArePassed (shipped_host functions settings script) rounds world
    pub count : end ≡ None → length rounds ≡ 2 * round_count settings script

  -- The same where the counters suffice for the setup; else nothing is logged.
  pub record AreOfRun : Type 0 where
    pub served : settings.shards ≤ settings.header.end → AreServed
    pub unserved : settings.header.end < settings.shards
        → (logs ≡ no_logs settings.header.verifiers) × (rounds ≡ []) × (end ≡ Some (setup_end settings))

module _ (functions : DigestFunctions) (settings : Settings) (script : List (List Task)) (rounds : List Logs) (logs : Logs) where
  -- The logs of a world to which enabled events lead from the setup, however far: those of the rounds that are done, and behind them
  -- what was logged since.
  pub record AreOnTheWay : Type 0 where
    pub world : World Content
    pub end : Option ClockEnd
    pub way : LeadsAs AreInRounds (shipped_host functions settings script) (set_up (shipped_host functions settings script)) world end
    pub logs_are : logs ≡ logs_of world
    pub done : List Logs
    pub since : Logs
    pub rounds_are : rounds ≡ done ++ (since ∷ [])
    pub passed : ArePassed (shipped_host functions settings script) done world

  -- The same where the counters suffice for the setup; else nothing is logged.
  pub record AreOfRunSoFar : Type 0 where
    pub served : settings.shards ≤ settings.header.end → AreOnTheWay
    pub unserved : settings.header.end < settings.shards → (logs ≡ no_logs settings.header.verifiers) × (rounds ≡ [])

-- ---- vault and account

-- the report: the lines that the logs certify, with receipts or without, and how the run ends
abbrev pub report_of : Bool → DigestFunctions → Header → List (List Command) → RunEnd → List ℕ
report_of receipts functions header logs end = lines_due (told_by receipts functions header) functions header (written_logs header logs) ++ last_line (status_at end)

-- the summary of a load with these logs: how many epochs they certify, what each worker did in these, and how the run ended
abbrev pub summary_of : DigestFunctions → Header → Load → List (List Command) → RunEnd → List ℕ
summary_of functions header load logs end = summary_due functions header (written_logs header logs) load.seed load.ops (status_at end)

-- what is written of a whole run with these logs: its report, or the summary of a load
abbrev pub account_of : Account → DigestFunctions → Header → List (List Command) → RunEnd → List ℕ
account_of (accounts.Report receipts) functions header logs end = report_of receipts functions header logs end
account_of (accounts.Summary load) functions header logs end = summary_of functions header load logs end

-- What a vault held before and holds now, and a sink.
pub record Outputs : Type 0 where
  pub vault : Option (List ℕ)
  pub vault_after : Option (List ℕ)
  pub out : Option (List ℕ)
  pub out_after : Option (List ℕ)

-- The contents of a world hold the plain map that logs certify of which a vault took the bundle.
pub record HoldsWhatIsCertified (functions : DigestFunctions) (settings : Settings) (world : World Content) (vault vault_after : Option (List ℕ)) : Type 0 where
  pub rounds : List Logs
  pub logs : Logs
  pub bundle : HasBundle settings.header (written_logs settings.header logs) (map (written_logs settings.header) rounds) vault vault_after
  pub holds : ContentsHold settings world (map_certified functions settings.header logs)

-- what a sink took before the end, where a vault has these bytes: of a report a front of the lines that they certify, and of a summary
-- nothing
abbrev pub HasFrontOfLines : Account → DigestFunctions → List ℕ → Outputs → Type 0
HasFrontOfLines (accounts.Report receipts) functions bytes outputs = GrowsByFront outputs.out outputs.out_after (check_answer receipts functions bytes).due
HasFrontOfLines (accounts.Summary load) functions bytes outputs = outputs.out_after ≡ outputs.out

module _ (account : Account) (functions : DigestFunctions) (settings : Settings) (script : List (List Task)) where
  -- The script is served: the vault took the bundle of the logs, and the sink what is written of them.
  pub record IsServed (result : RunEnd) (outputs : Outputs) : Type 0 where
    pub rounds : List Logs
    pub logs : Logs
    pub end : Option ClockEnd
    pub run : AreOfRun functions settings script rounds logs end
    pub is : result ≡ end_by (length script) end
    pub vault : HasBundle settings.header (written_logs settings.header logs) (map (written_logs settings.header) rounds) outputs.vault outputs.vault_after
    pub out : Grows outputs.out outputs.out_after (account_of account functions settings.header logs result)

  -- It stopped before the end: the vault took a front of the bundle of the logs so far, and the sink, of a report, a front of the lines
  -- that the bytes of that front certify.
  pub record IsCutOff (outputs : Outputs) : Type 0 where
    pub rounds : List Logs
    pub logs : Logs
    pub run : AreOfRunSoFar functions settings script rounds logs
    pub vault : HasFront settings.header (written_logs settings.header logs) (map (written_logs settings.header) rounds) outputs.vault outputs.vault_after
    pub out : HasFrontOfLines account functions vault.grown.front outputs

  -- It stopped at the end: all is served, and the sink took a front of what is written of it.
  pub record IsCutAtEnd (outputs : Outputs) : Type 0 where
    pub rounds : List Logs
    pub logs : Logs
    pub end : Option ClockEnd
    pub run : AreOfRun functions settings script rounds logs end
    pub vault : HasBundle settings.header (written_logs settings.header logs) (map (written_logs settings.header) rounds) outputs.vault outputs.vault_after
    pub out : GrowsByFront outputs.out outputs.out_after (account_of account functions settings.header logs (end_by (length script) end))

-- what is told of an epoch once it is certified: of a report its lines, with receipts or without, and of a summary nothing
abbrev pub told_for : Account → DigestFunctions → Header → EpochText
told_for (accounts.Report receipts) functions header = told_by receipts functions header
told_for (accounts.Summary load) functions header = nothing_told

-- What a sink takes before the end: of a report these lines. Of a summary there are none, and the sink is as it was, which says more
-- than that it took nothing: it still tells its bytes if it did.
abbrev pub GrowsFor : Account → Option (List ℕ) → Option (List ℕ) → List ℕ → Type 0
GrowsFor (accounts.Report receipts) old new lines = Grows old new lines
GrowsFor (accounts.Summary load) old new lines = new ≡ old

-- all that is told before the end of what these rounds certify is written
abbrev pub HasTold : Account → DigestFunctions → Header → List Logs → Outputs → Type 0
HasTold account functions header rounds outputs =
    GrowsFor account outputs.out outputs.out_after (lines_due (told_for account functions header) functions header (logs_in header.verifiers (map (written_logs header) rounds)))

-- It stopped in a round, and the vault held this before the round: the whole bundle of the rounds before. It took a front of that
-- round's frames, and the sink, of a report, all lines that the rounds up to the last close certify.
pub record IsCutInRound (account : Account) (functions : DigestFunctions) (settings : Settings) (script : List (List Task)) (outputs : Outputs) : Type 0 where
  pub past : List Logs
  pub round : Logs
  pub logs : Logs
  pub run : AreOfRunSoFar functions settings script (past ++ (round ∷ [])) logs
  pub held : Option (List ℕ)
  pub whole : HasBundle settings.header (logs_in settings.header.verifiers (map (written_logs settings.header) past)) (map (written_logs settings.header) past) outputs.vault held
  pub front : GrowsByFront held outputs.vault_after (round_text (written_logs settings.header round))
  pub closes : ℕ
  pub count : (length past ≡ 2 * closes) ⊎ (length past ≡ 1 + 2 * closes)
  pub told : HasTold account functions settings.header (take (2 * closes) past) outputs

-- It stopped in the header: the vault took a front of it, and the sink nothing.
pub record IsCutInHeader (settings : Settings) (outputs : Outputs) : Type 0 where
  pub front : GrowsByFront outputs.vault outputs.vault_after (header_text settings.header)
  pub out : outputs.out_after ≡ outputs.out

-- The vault failed: in the header, or in a round.
abbrev pub IsCutByVault : Account → DigestFunctions → Settings → List (List Task) → Outputs → Type 0
IsCutByVault account functions settings script outputs = IsCutInHeader settings outputs ⊎ IsCutInRound account functions settings script outputs

-- The sink failed: in the lines or at the end, and where a summary is written only at the end.
abbrev pub IsCutBySink : Account → DigestFunctions → Settings → List (List Task) → Outputs → Type 0
IsCutBySink (accounts.Report receipts) functions settings script outputs =
    IsCutOff (accounts.Report receipts) functions settings script outputs ⊎ IsCutAtEnd (accounts.Report receipts) functions settings script outputs
IsCutBySink (accounts.Summary load) functions settings script outputs = IsCutAtEnd (accounts.Summary load) functions settings script outputs

-- What stands where a run ends, and where it stops.
abbrev pub ServesTo : Account → DigestFunctions → Settings → List (List Task) → Result RunEnd Failure → Outputs → Type 0
ServesTo account functions settings script (Ok result) outputs = IsServed account functions settings script result outputs
ServesTo account functions settings script (Err failures.Memory) outputs = IsCutOff account functions settings script outputs
ServesTo account functions settings script (Err failures.ReadFault) outputs = ⊥
ServesTo account functions settings script (Err failures.InputLimit) outputs = ⊥
ServesTo account functions settings script (Err failures.VaultFault) outputs = IsCutOff account functions settings script outputs × IsCutByVault account functions settings script outputs
ServesTo account functions settings script (Err failures.WriteFault) outputs = IsCutBySink account functions settings script outputs
