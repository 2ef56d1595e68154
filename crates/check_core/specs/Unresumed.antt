-- Why nothing goes on from a seal, as a status.
use Rattle.std.specs.Prelude.{◌≡◌, ◌≢◌, ◌⊎◌, ℕ, Bool, true, false, Option}
use Rattle.fv_outside.specs.Counting.{Tells}
use Rattle.fv_outside.specs.Faults.{Rose}
use Rattle.fv_outside.specs.Written.{Grows, GrowsByFront}
use Rattle.report_text.specs.Status.{last_line}
use Rattle.report_text.specs.Answer.{Writing}
use Rattle.fv_outside.specs.declared.failure.Failure.TheVariants as failures
use Rattle.report_text.specs.declared.status.Status.{Status}
use Rattle.report_text.specs.declared.status.Status.TheVariants as statuses
use Rattle.report_text.specs.Ending.{failure_status}
use Rattle.check_core.specs.declared.unresumed.Unresumed.{Unresumed}
use Rattle.check_core.specs.declared.unresumed.Unresumed.TheVariants.{BadSeal, NotTagged, Stale, CounterFault, Failed}

-- the status, where a source gives no more than so many bytes
abbrev pub unresumed_status : ℕ → Unresumed → Status
unresumed_status limit BadSeal = statuses.BadSeal
unresumed_status limit NotTagged = statuses.NotTagged
unresumed_status limit (Stale sealed device) = statuses.Stale sealed device
unresumed_status limit CounterFault = statuses.CounterFault
unresumed_status limit (Failed failure) = failure_status limit failure

-- the seal is refused
abbrev pub is_refusal : Unresumed → Bool
is_refusal BadSeal = true
is_refusal NotTagged = true
is_refusal (Stale sealed device) = true
is_refusal CounterFault = false
is_refusal (Failed failure) = false

-- why no seal was read, before the counter is asked
abbrev pub IsUnread : Unresumed → Type 0
IsUnread BadSeal = Unit {0}
IsUnread NotTagged = Unit {0}
IsUnread (Stale sealed device) = ⊥
IsUnread CounterFault = ⊥
IsUnread (Failed failures.Memory) = Unit {0}
IsUnread (Failed failures.ReadFault) = Unit {0}
IsUnread (Failed failures.InputLimit) = Unit {0}
IsUnread (Failed failures.VaultFault) = ⊥
IsUnread (Failed failures.WriteFault) = ⊥

-- the counter has another number than a seal, or it failed
abbrev pub IsStaleOr : ℕ → Option ℕ → ℕ → ℕ → Unresumed → Type 0
IsStaleOr number device faults faults_after (Stale sealed other) = (sealed ≡ number) × Tells device other × (sealed ≢ other)
IsStaleOr number device faults faults_after CounterFault = Rose faults faults_after
IsStaleOr number device faults faults_after BadSeal = ⊥
IsStaleOr number device faults faults_after NotTagged = ⊥
IsStaleOr number device faults faults_after (Failed failure) = ⊥

-- Where nothing goes on, the status says why; a refusal is the one line that is written, or the sink failed at it and has a front of it.
pub record IsTold (limit : ℕ) (unresumed : Unresumed) (result : Status) (writing : Writing) : Type 0 where
  pub kept : is_refusal unresumed ≡ false → (result ≡ unresumed_status limit unresumed) × (writing.held_after ≡ writing.held)
  pub refused : is_refusal unresumed ≡ true → (result ≡ unresumed_status limit unresumed) ⊎ (result ≡ statuses.WriteFault)
  pub line : result ≡ unresumed_status limit unresumed → is_refusal unresumed ≡ true → Grows writing.held writing.held_after (last_line result)
  pub front : result ≡ statuses.WriteFault → is_refusal unresumed ≡ true
      → GrowsByFront writing.held writing.held_after (last_line (unresumed_status limit unresumed)) × Rose writing.faults writing.faults_after
