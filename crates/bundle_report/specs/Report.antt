-- What is told of an epoch: its lines without receipts, or with them; or its operations themselves.
use Rattle.std.specs.Prelude.{ℕ, Bool, true, false, List, ◌++◌, length}
use Rattle.std.specs.List.{flat_map}
use Rattle.lamport_clocks.specs.declared.header.Header.{Header}
use Rattle.record_hash.specs.Functions.{DigestFunctions}
use Rattle.record_text.specs.declared.operation.Operation.{Operation}
use Rattle.report_text.specs.Lines.{epoch_line, operation_line, receipt_line, certificate_line}

-- what is told of an epoch that has these operations, in pieces of this kind
abbrev pub EpochTold : Type 0 → Type 0
EpochTold A = ℕ → List Operation → List A

-- what is written of it: bytes
abbrev pub EpochText : Type 0
EpochText = EpochTold ℕ

-- how many they are, and then each
abbrev pub plain_text : EpochText
plain_text epoch ops = epoch_line epoch (length ops) ++ flat_map operation_line ops

-- an operation, and its receipt
abbrev pub receipted_line : DigestFunctions → Operation → List ℕ
receipted_line functions op = operation_line op ++ receipt_line functions op

-- how many they are, each with its receipt, and then the certificate of the epochs from the first up to this one
abbrev pub tagged_text : DigestFunctions → ℕ → EpochText
tagged_text functions first epoch ops =
    epoch_line epoch (length ops) ++ flat_map (receipted_line functions) ops ++ certificate_line functions first epoch

-- with receipts, or without
abbrev pub told_by : Bool → DigestFunctions → Header → EpochText
told_by false functions header = plain_text
told_by true functions header = tagged_text functions header.first

-- the operations themselves
abbrev pub operations_told : EpochTold Operation
operations_told epoch ops = ops
