-- A check that seals what it read: what it answers, and what stands in the vault and in the counter behind each end.
use Rattle.std.specs.Prelude.{◌≡◌, ◌⊎◌, ℕ, ◌<◌, ◌≤◌, ◌^◌, false, List, [], ◌∷◌, ◌++◌, length, Option, Some, IfSome}
use Rattle.record_hash.specs.Functions.{DigestFunctions}
use Rattle.fv_outside.specs.Counting.{Raises}
use Rattle.fv_outside.specs.Faults.{Rose}
use Rattle.fv_outside.specs.Written.{Grows, GrowsByFront, IsNamed}
use Rattle.receipts.specs.Receipts.{tagged}
use Rattle.report_text.specs.declared.status.Status.{Status}
use Rattle.report_text.specs.declared.status.Status.TheVariants as statuses
use Rattle.report_text.specs.Kinds.{StatusKind, IsOneOf}
use Rattle.report_text.specs.Kinds as kinds
use Rattle.report_text.specs.Status.{last_line, sealed_line}
use Rattle.report_text.specs.Answer.{Answer, Reading, Writing, AnswersTo}
use Rattle.seals.specs.State.{Seal}
use Rattle.seals.specs.Seal.{seal_text}
use Rattle.bundle_frames.specs.Extent.{reading_end}
use Rattle.bundle_report.specs.Answer.{check_answer}
use Rattle.resumed_runs.specs.Kept.{IsSealOf}
use Rattle.check_core.specs.Outcomes.{check_kinds}

-- ---- what is answered

-- the last line of a report whose bundle is sealed where it ends with `done`
abbrev pub sealing_line : Status → List ℕ
sealing_line (statuses.Done epochs) = sealed_line epochs
sealing_line status = last_line status

-- What is answered to bytes: the report of a check, with `sealed` and the number of epochs in the place of its last line where that is `done`.
abbrev pub seal_answer : DigestFunctions → List ℕ → Answer
seal_answer functions bytes =
    let answer = check_answer false functions bytes in
    record { text = answer.due ++ sealing_line answer.status; due = answer.due; status = answer.status }

-- ---- statuses

-- the kinds of status that it can end with
abbrev pub seal_kinds : List StatusKind
seal_kinds = kinds.vault_fault ∷ kinds.counter_fault ∷ check_kinds

-- those with which nothing is sealed, and the counter isn't asked
abbrev pub unsealed_kinds : List StatusKind
unsealed_kinds = kinds.memory ∷ kinds.read_fault ∷ kinds.bad_bundle ∷ kinds.refused ∷ kinds.unbalanced ∷ kinds.input_limit ∷ []

-- a status that it can end with
abbrev pub IsSealStatus : Status → Type 0
IsSealStatus = IsOneOf seal_kinds

-- a status with which nothing is sealed
abbrev pub IsUnsealed : Status → Type 0
IsUnsealed = IsOneOf unsealed_kinds

-- ---- what stands behind it

-- what a call did to a vault: the bytes held and the name, where it tells them, and its count of faults, before and after
pub record Keeping : Type 0 where
  pub held : Option (List ℕ)
  pub held_after : Option (List ℕ)
  pub name : Option (Option (List ℕ))
  pub name_after : Option (Option (List ℕ))
  pub faults : ℕ
  pub faults_after : ℕ

-- what a call did to a counter: its number, where it tells it, and its count of faults, before and after
pub record Counting : Type 0 where
  pub number : Option ℕ
  pub number_after : Option ℕ
  pub faults : ℕ
  pub faults_after : ℕ

-- The counter was raised, and this is the seal of the bytes with the counter's new number.
pub record IsRaisedFor (functions : DigestFunctions) (bytes : List ℕ) (seal : Seal) (counting : Counting) : Type 0 where
  pub of : IsSealOf functions bytes seal
  pub raised : Raises counting.number counting.number_after seal.counter
  pub few : length bytes ≤ 2 ^ 40

-- the vault has the seal of the bytes, with its tag and with the counter's number, which was raised for it
pub record IsPlaced (functions : DigestFunctions) (keeping : Keeping) (counting : Counting) (bytes : List ℕ) : Type 0 where
  pub seal : Seal
  pub raised : IsRaisedFor functions bytes seal counting
  pub fits : seal.counter < 2 ^ 64
  pub written : Grows keeping.held keeping.held_after (tagged functions (seal_text seal))

-- the vault has a front of it
pub record IsPlacedInPart (functions : DigestFunctions) (keeping : Keeping) (counting : Counting) (bytes : List ℕ) : Type 0 where
  pub seal : Seal
  pub raised : IsRaisedFor functions bytes seal counting
  pub written : GrowsByFront keeping.held keeping.held_after (tagged functions (seal_text seal))

-- the counter has its number, and nothing was written to the vault
pub record IsAsBefore (keeping : Keeping) (counting : Counting) : Type 0 where
  pub number : counting.number_after ≡ counting.number
  pub unwritten : keeping.held_after ≡ keeping.held

-- the report ends with `done`, and its lines were written without the last
pub record HasLines (functions : DigestFunctions) (writing : Writing) (bytes : List ℕ) : Type 0 where
  pub epochs : ℕ
  pub done : (check_answer false functions bytes).status ≡ statuses.Done epochs
  pub lines : Grows writing.held writing.held_after (check_answer false functions bytes).due

-- where the report ends with `done`, no more than a front of its lines was written, and nothing of the last
abbrev pub HasNoMoreThanLines : DigestFunctions → Writing → List ℕ → Type 0
HasNoMoreThanLines functions writing bytes =
    (epochs : ℕ) → (check_answer false functions bytes).status ≡ statuses.Done epochs → GrowsByFront writing.held writing.held_after (check_answer false functions bytes).due

-- The vault couldn't be named: nothing was read, nothing written and nothing sealed.
pub record IsUnnamed (result : Status) (reading : Reading) (writing : Writing) (keeping : Keeping) (counting : Counting) : Type 0 where
  pub status : result ≡ statuses.VaultFault
  pub unread : reading.left_after ≡ reading.left
  pub unwritten : writing.held_after ≡ writing.held
  pub unnamed : keeping.name_after ≡ keeping.name
  pub before : IsAsBefore keeping counting
  pub rose : Rose keeping.faults keeping.faults_after

-- A check that seals in a vault what it read.
pub record SealsInto (functions : DigestFunctions) (most : ℕ) (result : Status) (reading : Reading) (writing : Writing) (keeping : Keeping)
    (counting : Counting) : Type 0 where
  -- what is written, the status, what was taken of the source, and the faults of both
  pub answers : AnswersTo (seal_answer functions) reading_end most result reading writing
  -- with `done` the bundle is sealed
  pub sealed : (epochs : ℕ) → result ≡ statuses.Done epochs → IfSome reading.left (IsPlaced functions keeping counting)
  -- where the report ends otherwise, or isn't all written for want of memory or by the source, nothing is sealed
  pub unsealed : IsUnsealed result → IsAsBefore keeping counting
  -- where the sink failed, nothing is sealed yet and it has no more than the lines, or the bundle is sealed: the last line is written only
  -- then
  pub write_fault : result ≡ statuses.WriteFault
      → (IsAsBefore keeping counting × IfSome reading.left (HasNoMoreThanLines functions writing)) ⊎ IfSome reading.left (IsPlaced functions keeping counting)
  -- where the counter failed, nothing is sealed, and where the vault did, the counter was raised and the vault has a front of the seal; all
  -- lines are written but the last
  pub counter_fault : result ≡ statuses.CounterFault → IsAsBefore keeping counting
  pub counter_lines : result ≡ statuses.CounterFault → IfSome reading.left (HasLines functions writing)
  pub vault_fault : result ≡ statuses.VaultFault → IfSome reading.left (IsPlacedInPart functions keeping counting)
  pub vault_lines : result ≡ statuses.VaultFault → IfSome reading.left (HasLines functions writing)
  -- a fault comes only where the object's own count of faults rose
  pub counter_rose : result ≡ statuses.CounterFault → Rose counting.faults counting.faults_after
  pub vault_rose : result ≡ statuses.VaultFault → Rose keeping.faults keeping.faults_after

-- A check that names a vault so, and seals in it what it read; or the vault couldn't be named.
abbrev pub SealsTo : DigestFunctions → List ℕ → ℕ → Status → Reading → Writing → Keeping → Counting → Type 0
SealsTo functions path most result reading writing keeping counting =
    (IsNamed keeping.name keeping.name_after path × SealsInto functions most result reading writing keeping counting)
    ⊎ IsUnnamed result reading writing keeping counting

-- ---- on the way

-- this is the text of a seal of the bytes, whatever its number, with its tag
pub record IsSealText (functions : DigestFunctions) (bytes text : List ℕ) : Type 0 where
  pub seal : Seal
  pub of : IsSealOf functions bytes seal
  pub text_is : text ≡ tagged functions (seal_text seal)
