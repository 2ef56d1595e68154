-- How a bundle ends, and why a call is not carried through, as a status.
use Rattle.std.specs.Prelude.{ℕ}
use Rattle.fv_outside.specs.declared.failure.Failure.{Failure}
use Rattle.fv_outside.specs.declared.failure.Failure.TheVariants as failures
use Rattle.report_text.specs.declared.status.Status.{Status}
use Rattle.report_text.specs.declared.status.Status.TheVariants as statuses
use Rattle.report_text.specs.declared.ending.BundleEnd.{BundleEnd}
use Rattle.report_text.specs.declared.ending.BundleEnd.TheVariants.{Done, BadBundle, Refused, Unbalanced}

-- the status of a run whose report ends so
abbrev pub status_of : BundleEnd → Status
status_of (Done epochs) = statuses.Done epochs
status_of (BadBundle offset) = statuses.BadBundle offset
status_of (Refused verifier index refusal) = statuses.Refused verifier index refusal
status_of (Unbalanced epoch added evicted) = statuses.Unbalanced epoch added evicted

-- the status of a call that fails so, where a source gives no more than so many bytes
abbrev pub failure_status : ℕ → Failure → Status
failure_status limit failures.Memory = statuses.Memory
failure_status limit failures.ReadFault = statuses.ReadFault
failure_status limit failures.InputLimit = statuses.InputLimit limit
failure_status limit failures.VaultFault = statuses.VaultFault
failure_status limit failures.WriteFault = statuses.WriteFault
