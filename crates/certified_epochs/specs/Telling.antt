-- What is written of an epoch, by how it is told.
use Rattle.std.specs.Prelude.{ℕ, List, []}
use Rattle.record_hash.specs.Functions.{DigestFunctions}
use Rattle.bundle_report.specs.Report.{EpochTold, EpochText, plain_text, receipted_line, tagged_text}
use Rattle.record_text.specs.declared.operation.Operation.{Operation}
use Rattle.report_text.specs.Lines.{epoch_line, operation_line, certificate_line}
use Rattle.certified_epochs.specs.declared.telling.Telling.{Telling}
use Rattle.certified_epochs.specs.declared.telling.Telling.TheVariants.{Plain, Receipts, Nothing}

-- nothing, of any epoch
abbrev pub nothing_told : {A : Type 0} → EpochTold A
nothing_told epoch ops = []

-- where digests compute these functions
abbrev pub text_by : {D : Type 0} → (D → DigestFunctions) → Telling D → EpochText
text_by functions Plain = plain_text
text_by functions (Receipts digests first) = tagged_text (functions digests.now) first
text_by functions Nothing = nothing_told

-- what is written of one operation: its line, and with receipts its receipt's
abbrev pub line_by : {D : Type 0} → (D → DigestFunctions) → Telling D → Operation → List ℕ
line_by functions Plain operation = operation_line operation
line_by functions (Receipts digests first) operation = receipted_line (functions digests.now) operation
line_by functions Nothing operation = []

-- what is written in front of the lines of an epoch's operations: how many they are
abbrev pub head_by : {D : Type 0} → Telling D → ℕ → ℕ → List ℕ
head_by Plain epoch count = epoch_line epoch count
head_by (Receipts digests first) epoch count = epoch_line epoch count
head_by Nothing epoch count = []

-- what is written behind them: with receipts the certificate of the epochs from the first up to this one
abbrev pub tail_by : {D : Type 0} → (D → DigestFunctions) → Telling D → ℕ → List ℕ
tail_by functions Plain epoch = []
tail_by functions (Receipts digests first) epoch = certificate_line (functions digests.now) first epoch
tail_by functions Nothing epoch = []
