-- What is told of each epoch, as the code is asked, and what a fold over the certified operations adds.
use Rattle.std.specs.Prelude.{ℕ, List}
use Rattle.record_hash.specs.Functions.{DigestFunctions}
use Rattle.lamport_clocks.specs.declared.header.Header.{Header}
use Rattle.record_text.specs.declared.operation.Operation.{Operation}
use Rattle.bundle_report.specs.Report.{EpochText, told_by}
use Rattle.report_text.specs.Status.{last_line}
use Rattle.certified_epochs.specs.Telling.{nothing_told}
use Rattle.check_core.specs.Asked.{Asked}
use Rattle.check_core.specs.declared.told.Told.{Told}
use Rattle.check_core.specs.declared.told.Told.TheVariants.{Lines, Nothing}

-- its lines, with receipts or without, or nothing
abbrev pub told_text : Told → DigestFunctions → Header → EpochText
told_text (Lines receipts) functions header = told_by receipts functions header
told_text Nothing functions header = nothing_told

-- the same, behind it the text of what the operations make, and then the last line of a report
abbrev pub asked_for : Told → DigestFunctions → (List Operation → List ℕ) → Asked
asked_for told functions behind = record { tell = told_text told functions; behind = behind; last = last_line }
