-- What a check comes to before its last line is written.
use Rattle.std.specs.Prelude.{ℕ, Result, Ok, Err}
use Rattle.fv_outside.specs.declared.failure.Failure.{Failure}
use Rattle.report_text.specs.declared.status.Status.{Status}
use Rattle.report_text.specs.declared.ending.BundleEnd.{BundleEnd}
use Rattle.report_text.specs.declared.ending.BundleEnd.TheVariants as bundles
use Rattle.report_text.specs.Ending.{status_of, failure_status}
use Rattle.check_core.specs.declared.checked.Checked.{Checked}
use Rattle.check_core.specs.declared.checked.Checked.TheVariants.{Done, Ended}

-- how its report ends
abbrev pub end_in : Checked → BundleEnd
end_in (Done done) = bundles.Done done.epochs
end_in (Ended end) = end

-- the status of a check that came to this
abbrev pub checked_status : ℕ → Result Checked Failure → Status
checked_status limit (Ok checked) = status_of (end_in checked)
checked_status limit (Err failure) = failure_status limit failure

-- a report that ends otherwise than with `done`
abbrev pub IsOtherEnd : BundleEnd → Type 0
IsOtherEnd (bundles.Done epochs) = ⊥
IsOtherEnd (bundles.BadBundle offset) = Unit {0}
IsOtherEnd (bundles.Refused verifier index refusal) = Unit {0}
IsOtherEnd (bundles.Unbalanced epoch added evicted) = Unit {0}
