-- What a run of a script does: what it reads, how it serves it, and what stands in the vault and the sink then.
use Rattle.std.specs.Prelude.{◌≡◌, ◌==◌, Bool, ◌⊎◌, ◌≢◌, ℕ, ◌+◌, List, [], ◌∷◌, ◌++◌, Option, None, Some, IfSome, Result, Ok, Err, IfOk}
use Rattle.std.specs.Io.KnownBytes.{IsAtEnd}
use Rattle.fv_outside.specs.Consumed.{TookAtMost, TookJust}
use Rattle.fv_outside.specs.Faults.{Rose}
use Rattle.fv_outside.specs.Written.{Grows, IsNamed}
use Rattle.lamport_clocks.specs.declared.header.Header.{Header}
use Rattle.record_hash.specs.Functions.{DigestFunctions}
use Rattle.record_text.specs.declared.cause.Cause.{Cause}
use Rattle.program_words.specs.declared.host_words.HostNumbers.{HostNumbers}
use Rattle.program_words.specs.declared.host_words.RunWords.{RunWords}
use Rattle.report_text.specs.declared.status.Status.{Status}
use Rattle.report_text.specs.declared.status.Status.TheVariants as statuses
use Rattle.report_text.specs.Kinds.{StatusKind, IsOneOf}
use Rattle.report_text.specs.Kinds as kinds
use Rattle.report_text.specs.Answer.{IsEnd, Reading, Writing}
use Rattle.report_text.specs.Status.{last_line}
use Rattle.fv_outside.specs.declared.failure.Failure.TheVariants as failures
use Rattle.report_text.specs.Ending.{failure_status}
use Rattle.bundle_report.specs.Answer.{check_answer}
use Rattle.check_core.specs.Sealing.{Keeping}
use Rattle.script_text.specs.declared.fault.ScriptFault.{ScriptFault}
use Rattle.script_text.specs.declared.fault.ScriptFault.TheVariants as faults
use Rattle.script_text.specs.declared.task.Task.{Task}
use Rattle.script_text.specs.Script.{script_of}
use Rattle.shipped_host.specs.declared.settings.Settings.{Settings}
use Rattle.shipped_host.specs.Settings.{shipped_cache}
use Rattle.verifier_threads.specs.declared.accounts.Account.TheVariants as accounts
use Rattle.verifier_threads.specs.declared.ending.RunEnd.{RunEnd}
use Rattle.verifier_threads.specs.Serving.{Outputs, IsServed, IsCutOff, IsCutByVault, IsCutAtEnd, status_at}
use Rattle.fastver_top.specs.declared.scripts.ScriptStop.{ScriptStop}
use Rattle.fastver_top.specs.declared.scripts.ScriptStop.TheVariants as scripts

-- ---- statuses

-- why no script is read, where what was read is none or memory ran out
abbrev pub unread_by : ScriptFault → ScriptStop
unread_by faults.Memory = scripts.Failure failures.Memory
unread_by (faults.BadScript line cause) = scripts.BadScript line cause

-- the status of a run that reads no script
abbrev pub script_stopped : ℕ → ScriptStop → Status
script_stopped limit (scripts.Failure failure) = failure_status limit failure
script_stopped limit (scripts.BadScript line cause) = statuses.BadScript line cause

-- the kinds of status that a run can end with
abbrev pub run_kinds : List StatusKind
run_kinds =
    kinds.done ∷ kinds.memory ∷ kinds.read_fault ∷ kinds.write_fault ∷ kinds.vault_fault
    ∷ kinds.bad_script ∷ kinds.clock_end ∷ kinds.input_limit ∷ []

-- those that come only where no whole and good script was read
abbrev pub before_run_kinds : List StatusKind
before_run_kinds = kinds.read_fault ∷ kinds.bad_script ∷ kinds.input_limit ∷ []

-- those that come only behind a whole and good script
abbrev pub behind_script_kinds : List StatusKind
behind_script_kinds = kinds.done ∷ kinds.write_fault ∷ kinds.vault_fault ∷ kinds.clock_end ∷ []

-- a status that a run can end with
abbrev pub IsRunStatus : Status → Type 0
IsRunStatus = IsOneOf run_kinds

-- a status that comes only where no whole and good script was read
abbrev pub IsBeforeRun : Status → Type 0
IsBeforeRun = IsOneOf before_run_kinds

-- a status that comes only behind a whole and good script
abbrev pub IsBehindScript : Status → Type 0
IsBehindScript = IsOneOf behind_script_kinds

-- ---- what is read

-- the whole of a source is this script for this header
pub record HasScript (header : Header) (reading : Reading) (script : List (List Task)) : Type 0 where
  pub good : IfSome reading.left (λ bytes. script_of header bytes ≡ Ok script)
  pub all : IsAtEnd reading.left_after

-- the whole of a source is no script: this line is the first outside the grammar, for this cause
pub record HasBadLine (header : Header) (reading : Reading) (line : ℕ) (cause : Cause) : Type 0 where
  pub bad : IfSome reading.left (λ bytes. script_of header bytes ≡ Err (record { line = line; cause = cause }))
  pub all : IsAtEnd reading.left_after

-- A script is read of a source that has no more than so many bytes, or there is a cause why not.
pub record ReadsScript (header : Header) (most : ℕ) (result : Result (List (List Task)) ScriptStop) (reading : Reading) : Type 0 where
  pub script : IfOk result (HasScript header reading)
  pub bad : (line : ℕ) (cause : Cause) → result ≡ Err (scripts.BadScript line cause) → HasBadLine header reading line cause
  pub limit : result ≡ Err (scripts.Failure failures.InputLimit) → TookJust (most + 1) reading.left reading.left_after
  pub within : result ≢ Err (scripts.Failure failures.InputLimit) → TookAtMost most reading.left reading.left_after
  pub fault : result ≡ Err (scripts.Failure failures.ReadFault) → Rose reading.faults reading.faults_after
  pub vault : result ≢ Err (scripts.Failure failures.VaultFault)
  pub sink : result ≢ Err (scripts.Failure failures.WriteFault)

-- ---- what is served

-- the header of the bundle that a host of these numbers writes
abbrev pub header_for : HostNumbers → Header
header_for numbers = record {
  version = numbers.version;
  verifiers = numbers.verifiers;
  cache = shipped_cache (numbers.bits == 128);
  first = numbers.first;
  end = numbers.counter;
  bits = numbers.bits;
}

-- what a host of these numbers is set to
abbrev pub settings_for : HostNumbers → Settings
settings_for numbers = record {
  header = header_for numbers;
  shards = numbers.shards;
  hot = numbers.hot;
  absent = numbers.absent;
  rolling = numbers.rolling;
}

-- what vault and sink held and hold
abbrev pub outputs_of : Writing → Keeping → Outputs
outputs_of writing keeping = record { vault = keeping.held; vault_after = keeping.held_after; out = writing.held; out_after = writing.held_after }

module _ (functions : DigestFunctions) (run : RunWords) (result : Status) (reading : Reading) (outputs : Outputs) where
  -- The script is served, and the status says how that ended.
  pub record EndsServed : Type 0 where
    pub script : List (List Task)
    pub read : HasScript (header_for run.numbers) reading script
    pub end : RunEnd
    pub is : result ≡ status_at end
    pub served : IsServed (accounts.Report run.receipts) functions (settings_for run.numbers) script end outputs

  -- It stopped before: the vault took a front of the bundle of the script's logs, and the sink one of the lines that this certifies.
  pub record EndsCutOff : Type 0 where
    pub script : List (List Task)
    pub read : HasScript (header_for run.numbers) reading script
    pub cut : IsCutOff (accounts.Report run.receipts) functions (settings_for run.numbers) script outputs

  -- The vault failed in the header or in a round: the sink took all lines that the rounds up to the last close before certify.
  pub record EndsCutByVault : Type 0 where
    pub script : List (List Task)
    pub read : HasScript (header_for run.numbers) reading script
    pub cut : IsCutByVault (accounts.Report run.receipts) functions (settings_for run.numbers) script outputs

  -- The sink failed: it took a front of the lines that the vault's bytes certify, or at the last line of the report.
  pub record EndsCut : Type 0 where
    pub script : List (List Task)
    pub read : HasScript (header_for run.numbers) reading script
    pub cut : IsCutOff (accounts.Report run.receipts) functions (settings_for run.numbers) script outputs ⊎ IsCutAtEnd (accounts.Report run.receipts) functions (settings_for run.numbers) script outputs

-- A check of what the vault took is due to write the same lines.
pub record IsDueByCheck (receipts : Bool) (functions : DigestFunctions) (result : Status) (outputs : Outputs) : Type 0 where
  pub bytes : List ℕ
  pub vault : Grows outputs.vault outputs.vault_after bytes
  pub out : Grows outputs.out outputs.out_after ((check_answer receipts functions bytes).due ++ last_line result)

-- A check of what the vault took answers the same: its text and its status.
pub record IsAnswerOfCheck (receipts : Bool) (functions : DigestFunctions) (result : Status) (outputs : Outputs) : Type 0 where
  pub bytes : List ℕ
  pub vault : Grows outputs.vault outputs.vault_after bytes
  pub out : Grows outputs.out outputs.out_after (check_answer receipts functions bytes).text
  pub status : (check_answer receipts functions bytes).status ≡ result

-- ---- how the vault is named

-- it has the name that the words say, and without one it is named as before
abbrev pub IsNamedFor : Option (List ℕ) → Option (Option (List ℕ)) → Option (Option (List ℕ)) → Type 0
IsNamedFor None name name_after = name_after ≡ name
IsNamedFor (Some path) name name_after = IsNamed name name_after path

-- the vault is not named, and nothing was written to it or to the sink
pub record IsUntouched (name name_after : Option (Option (List ℕ))) (outputs : Outputs) : Type 0 where
  pub unnamed : name_after ≡ name
  pub vault : outputs.vault_after ≡ outputs.vault
  pub out : outputs.out_after ≡ outputs.out

-- ---- the whole

-- A run of a script under these words, of a source with no more than so many bytes.
pub record RunsTo (functions : DigestFunctions) (run : RunWords) (most : ℕ) (result : Status) (reading : Reading) (writing : Writing)
    (keeping : Keeping) : Type 0 where
  -- where it ends it served the script that the source has: the vault took the bundle of the logs, and the sink its report
  pub served : IsEnd result → EndsServed functions run result reading (outputs_of writing keeping)
  -- so a check of what the vault took writes these lines, and where all is done it answers just the same
  pub due : IsEnd result → IsDueByCheck run.receipts functions result (outputs_of writing keeping)
  pub checked : (epochs : ℕ) → result ≡ statuses.Done epochs → IsAnswerOfCheck run.receipts functions result (outputs_of writing keeping)
  -- where memory was wanting or the vault failed, nothing was done, or the vault has a front of the bundle of the script's logs and
  -- the sink a front of the lines that this certifies
  pub cut : (result ≡ statuses.Memory) ⊎ (result ≡ statuses.VaultFault)
      → IsUntouched keeping.name keeping.name_after (outputs_of writing keeping) ⊎ EndsCutOff functions run result reading (outputs_of writing keeping)
  -- and where the vault failed in a round, it has the whole bundle of the rounds before and a front of that round's frames, and the sink
  -- all lines that the rounds up to the last close before certify
  pub cut_by_vault : result ≡ statuses.VaultFault
      → IsUntouched keeping.name keeping.name_after (outputs_of writing keeping) ⊎ EndsCutByVault functions run result reading (outputs_of writing keeping)
  -- where the sink failed too, or it has a front of the report
  pub cut_report : result ≡ statuses.WriteFault → EndsCut functions run result reading (outputs_of writing keeping)
  -- a script is bad where the first line outside the grammar is this one
  pub bad : (line : ℕ) (cause : Cause) → result ≡ statuses.BadScript line cause → HasBadLine (header_for run.numbers) reading line cause
  pub good : IsBehindScript result → (script : List (List Task)) × HasScript (header_for run.numbers) reading script
  -- the input is too long where the source gave just a byte more than the limit, and else it gave no more
  pub limit : (taken : ℕ) → result ≡ statuses.InputLimit taken → (taken ≡ most) × TookJust (most + 1) reading.left reading.left_after
  pub within : result ≢ statuses.InputLimit most → TookAtMost most reading.left reading.left_after
  -- the vault is named before anything is written, if the words give it a name, and else it is not named
  pub named : IsNamedFor run.logs keeping.name keeping.name_after ⊎ IsUntouched keeping.name keeping.name_after (outputs_of writing keeping)
  pub named_at_end : IsEnd result ⊎ (result ≡ statuses.WriteFault) → IsNamedFor run.logs keeping.name keeping.name_after
  -- a fault comes only where the object's own count of faults rose
  pub read_fault : result ≡ statuses.ReadFault → Rose reading.faults reading.faults_after
  pub write_fault : result ≡ statuses.WriteFault → Rose writing.faults writing.faults_after
  pub vault_fault : result ≡ statuses.VaultFault → Rose keeping.faults keeping.faults_after
