-- What a load that is made of a seed does: which load it is, how it is served, and what stands in the vault and the sink then.
use Rattle.std.specs.Prelude.{◌≡◌, ◌⊎◌, List, [], ◌∷◌}
use Rattle.fv_outside.specs.Faults.{Rose}
use Rattle.record_hash.specs.Functions.{DigestFunctions}
use Rattle.program_words.specs.declared.load_words.GenWords.{GenWords}
use Rattle.program_words.specs.declared.load_words.LoadNumbers.{LoadNumbers}
use Rattle.report_text.specs.declared.status.Status.{Status}
use Rattle.report_text.specs.declared.status.Status.TheVariants as statuses
use Rattle.report_text.specs.Kinds.{StatusKind, IsOneOf}
use Rattle.report_text.specs.Kinds as kinds
use Rattle.report_text.specs.Answer.{IsEnd, Writing}
use Rattle.script_text.specs.declared.shape.Shape.{Shape}
use Rattle.script_text.specs.declared.task.Task.{Task}
use Rattle.script_text.specs.Generator.{generated}
use Rattle.verifier_threads.specs.declared.accounts.Account.{Account}
use Rattle.verifier_threads.specs.declared.accounts.Account.TheVariants as accounts
use Rattle.verifier_threads.specs.declared.ending.RunEnd.{RunEnd}
use Rattle.verifier_threads.specs.declared.loads.Load.{Load}
use Rattle.verifier_threads.specs.Serving.{Outputs, IsServed, IsCutOff, IsCutAtEnd, status_at}
use Rattle.check_core.specs.Sealing.{Keeping}
use Rattle.fastver_top.specs.Running.{settings_for, outputs_of, IsNamedFor, IsUntouched}

-- ---- which load

-- the shape of the load that words ask for
abbrev pub shape_for : GenWords → Shape
shape_for words = record {
  ops = words.load.ops;
  verifiers = words.numbers.verifiers;
  keys = words.load.keys;
  every = words.load.every;
}

-- the script that the generator makes of their seed
abbrev pub script_for : GenWords → List (List Task)
script_for words = generated words.load.seed (shape_for words)

-- the load as its summary names it
abbrev pub load_for : LoadNumbers → Load
load_for numbers = record { seed = numbers.seed; ops = numbers.ops }

-- what is written of it: its summary
abbrev pub account_for : LoadNumbers → Account
account_for numbers = accounts.Summary (load_for numbers)

-- ---- how it ends

-- the kinds of status that it can end with
abbrev pub gen_kinds : List StatusKind
gen_kinds = kinds.done ∷ kinds.memory ∷ kinds.write_fault ∷ kinds.vault_fault ∷ kinds.clock_end ∷ []

-- a status that it can end with
abbrev pub IsGenStatus : Status → Type 0
IsGenStatus = IsOneOf gen_kinds

-- The load is served, and the status says how that ended.
pub record EndsSummed (functions : DigestFunctions) (words : GenWords) (result : Status) (outputs : Outputs) : Type 0 where
  pub end : RunEnd
  pub is : result ≡ status_at end
  pub summed : IsServed (account_for words.load) functions (settings_for words.numbers) (script_for words) end outputs

-- ---- the whole

-- A load of these words.
pub record GensTo (functions : DigestFunctions) (words : GenWords) (result : Status) (writing : Writing) (keeping : Keeping) : Type 0 where
  -- where it ends it served the script that is made of the seed: the vault took the bundle of the logs, and the sink the summary
  pub summed : IsEnd result → EndsSummed functions words result (outputs_of writing keeping)
  -- where memory was wanting or the vault failed, nothing was done, or the vault has a front of the bundle of that script's logs and
  -- the sink nothing
  pub before : (result ≡ statuses.Memory) ⊎ (result ≡ statuses.VaultFault)
      → IsUntouched keeping.name keeping.name_after (outputs_of writing keeping)
      ⊎ IsCutOff (account_for words.load) functions (settings_for words.numbers) (script_for words) (outputs_of writing keeping)
  -- where the sink failed, all is served, and it has a front of the summary
  pub cut : result ≡ statuses.WriteFault
      → IsCutAtEnd (account_for words.load) functions (settings_for words.numbers) (script_for words) (outputs_of writing keeping)
  -- the vault is named before anything is written, if the words give it a name, and else it is not named
  pub named : IsNamedFor words.logs keeping.name keeping.name_after ⊎ IsUntouched keeping.name keeping.name_after (outputs_of writing keeping)
  pub named_at_end : IsEnd result ⊎ (result ≡ statuses.WriteFault) → IsNamedFor words.logs keeping.name keeping.name_after
  -- a fault comes only where the object's own count of faults rose
  pub write_fault : result ≡ statuses.WriteFault → Rose writing.faults writing.faults_after
  pub vault_fault : result ≡ statuses.VaultFault → Rose keeping.faults keeping.faults_after
