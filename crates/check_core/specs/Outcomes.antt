-- Which statuses a check can end with.
use Rattle.std.specs.Prelude.{ℕ, List, [], ◌∷◌, Result, Ok, Err}
use Rattle.fv_outside.specs.declared.failure.Failure.{Failure}
use Rattle.report_text.specs.declared.ending.BundleEnd.{BundleEnd}
use Rattle.report_text.specs.Ending.{status_of, failure_status}
use Rattle.report_text.specs.declared.status.Status.{Status}
use Rattle.report_text.specs.Kinds.{StatusKind, IsOneOf}
use Rattle.report_text.specs.Kinds as kinds

-- the kinds of status that a check can end with
abbrev pub check_kinds : List StatusKind
check_kinds =
    kinds.done ∷ kinds.memory ∷ kinds.read_fault ∷ kinds.write_fault
    ∷ kinds.bad_bundle ∷ kinds.refused ∷ kinds.unbalanced ∷ kinds.input_limit ∷ []

-- a status that a check can end with
abbrev pub IsCheckStatus : Status → Type 0
IsCheckStatus = IsOneOf check_kinds

-- the status of a check that came to this
abbrev pub check_status : ℕ → Result BundleEnd Failure → Status
check_status limit (Ok end) = status_of end
check_status limit (Err failure) = failure_status limit failure
