-- What each command of the program may do: a table with one row for each command.
use Rattle.std.specs.Prelude.{◌≡◌, ◌⊎◌, ℕ, Bool, true, false, List, [], ◌∷◌, Option, None, Some}
use Rattle.program_words.specs.Words.{asked_of}
use Rattle.program_words.specs.declared.words.Asked.{Asked}
use Rattle.program_words.specs.declared.words.Asked.TheVariants.{Check, Seal, Audit, Run, Gen, Accept, Follow, Upgrade, Resume, Sign}
use Rattle.report_text.specs.declared.status.Status.{Status}
use Rattle.report_text.specs.Kinds.{StatusKind, IsOneOf}
use Rattle.report_text.specs.Kinds as kinds
use Rattle.check_core.specs.Outcomes.{check_kinds}
use Rattle.check_core.specs.Sealing.{seal_kinds, unsealed_kinds}
use Rattle.check_core.specs.Resuming.{resume_kinds}
use Rattle.bundle_upgrade.specs.Answer.{unwritten_kinds}
use Rattle.fastver_top.specs.Auditing.{audit_kinds, unaudited_kinds}
use Rattle.fastver_top.specs.Running.{run_kinds, before_run_kinds}
use Rattle.fastver_top.specs.Generating.{gen_kinds}
use Rattle.fastver_top.specs.Accepting.{accept_kinds, before_answer_kinds}
use Rattle.fastver_top.specs.Signing.{sign_kinds}

-- what a command reads of the source
pub data Reads : Type 0 where
  -- nothing
  nothing : Reads
  -- its bytes, and what these make due is written before more is read
  in_parts : Reads
  -- all of it, before anything is written
  whole : Reads

-- what a command may do
pub record CommandRules : Type 0 where
  -- what it reads
  pub reads : Reads
  -- whether it names the vault or writes to it
  pub uses_vault : Bool
  -- the kinds of status with which it may end
  pub ends : List StatusKind
  -- with these nothing was written to the sink
  pub unwritten : List StatusKind
  -- with these the vault, if it uses it, was not named and nothing was written to it
  pub unnamed : List StatusKind
  -- whether it asks the counter for its number or raises it
  pub uses_counter : Bool
  -- with these the counter, if it uses it, was neither asked nor raised
  pub untouched : List StatusKind

-- the table
abbrev pub rules_of : Asked → CommandRules
rules_of (Check check) = record { reads = in_parts; uses_vault = false; ends = check_kinds; unwritten = []; unnamed = []; uses_counter = false; untouched = [] }
rules_of (Seal seal) = record { reads = in_parts; uses_vault = true; ends = seal_kinds; unwritten = []; unnamed = []; uses_counter = true; untouched = unsealed_kinds }
rules_of (Audit key) = record { reads = whole; uses_vault = false; ends = audit_kinds; unwritten = unaudited_kinds; unnamed = []; uses_counter = false; untouched = [] }
rules_of (Run run) = record { reads = whole; uses_vault = true; ends = run_kinds; unwritten = before_run_kinds; unnamed = before_run_kinds; uses_counter = false; untouched = [] }
rules_of (Gen load) = record { reads = nothing; uses_vault = true; ends = gen_kinds; unwritten = []; unnamed = []; uses_counter = false; untouched = [] }
rules_of (Accept key) = record { reads = whole; uses_vault = false; ends = accept_kinds; unwritten = before_answer_kinds; unnamed = []; uses_counter = false; untouched = [] }
rules_of (Follow key) = record { reads = in_parts; uses_vault = false; ends = check_kinds; unwritten = []; unnamed = []; uses_counter = false; untouched = [] }
rules_of (Upgrade key) = record { reads = whole; uses_vault = false; ends = check_kinds; unwritten = unwritten_kinds; unnamed = []; uses_counter = false; untouched = [] }
rules_of (Resume key) = record { reads = in_parts; uses_vault = false; ends = resume_kinds; unwritten = kinds.counter_fault ∷ []; unnamed = []; uses_counter = true; untouched = kinds.bad_seal ∷ kinds.not_tagged ∷ [] }
rules_of (Sign sign) = record { reads = whole; uses_vault = false; ends = sign_kinds; unwritten = before_answer_kinds; unnamed = []; uses_counter = false; untouched = [] }

-- the kinds of status where the words ask for nothing
abbrev pub unasked_kinds : List StatusKind
unasked_kinds = kinds.usage ∷ kinds.memory ∷ []

-- the row of what the words ask for, and that of words that ask for nothing
abbrev pub rules_for : Option Asked → CommandRules
rules_for None = record { reads = nothing; uses_vault = false; ends = unasked_kinds; unwritten = unasked_kinds; unnamed = []; uses_counter = false; untouched = [] }
rules_for (Some asked) = rules_of asked

-- the row of what the words ask for
abbrev pub rules_by : List (List ℕ) → CommandRules
rules_by words = rules_for (asked_of words)

-- ---- what a row says

-- a status that the program can end with, by what was asked
abbrev pub IsStatusOf : Asked → Status → Type 0
IsStatusOf asked = IsOneOf (rules_of asked).ends

-- a status that it can end with
abbrev pub CanEndWith : CommandRules → Status → Type 0
CanEndWith rules status = IsOneOf rules.ends status

-- the source is as it was
abbrev pub LeavesSource : CommandRules → Type 0
LeavesSource rules = rules.reads ≡ nothing

-- no more than the limit is taken, but where the input is longer
abbrev pub ReadsWhole : CommandRules → Type 0
ReadsWhole rules = rules.reads ≡ whole

-- the sink is as it was, where it ends so
abbrev pub LeavesSink : CommandRules → Status → Type 0
LeavesSink rules status = IsOneOf rules.unwritten status

-- the vault is as it was, where it ends so
abbrev pub LeavesVault : CommandRules → Status → Type 0
LeavesVault rules status = rules.uses_vault ≡ false ⊎ IsOneOf rules.unnamed status

-- the counter is as it was, where it ends so
abbrev pub LeavesCounter : CommandRules → Status → Type 0
LeavesCounter rules status = rules.uses_counter ≡ false ⊎ IsOneOf rules.untouched status
