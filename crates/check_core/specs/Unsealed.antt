-- The status of a check whose bundle isn't sealed.
use Rattle.report_text.specs.declared.status.Status.{Status}
use Rattle.report_text.specs.declared.status.Status.TheVariants as statuses
use Rattle.seals.specs.declared.placing.Unplaced.TheVariants.{CounterFault, VaultFault}
use Rattle.check_core.specs.declared.sealing.Unsealed.{Unsealed}
use Rattle.check_core.specs.declared.sealing.Unsealed.TheVariants.{Memory, Unplaced}

abbrev pub unsealed_status : Unsealed → Status
unsealed_status Memory = statuses.Memory
unsealed_status (Unplaced CounterFault) = statuses.CounterFault
unsealed_status (Unplaced VaultFault) = statuses.VaultFault
