-- What an upgrade answers, as the code tells it.
use Rattle.std.proofs.Common.{◌≡◌, ◌<◌, ℕ, false, List, [], ◌∷◌, Option, Some, Result, Ok, Err, OnOk, OnErr, sym, ◌∙◌, ap, subst}
use Rattle.std.specs.List.{All, AllByRecursion}
use Rattle.fv_outside.specs.declared.failure.Failure.{Failure}
use Rattle.lamport_clocks.specs.declared.header.Header.{Header}
use Rattle.record_hash.specs.Functions.{DigestFunctions}
use Rattle.record_text.proofs.FieldLaws.{AreBytes}
use Rattle.log_codec.proofs.LogLaws.{AreBytes-from_all}
use Rattle.report_text.specs.declared.status.Status.{Status}
use Rattle.report_text.specs.declared.ending.BundleEnd.{BundleEnd}
use Rattle.report_text.specs.declared.ending.BundleEnd.TheVariants.{Done, BadBundle, Refused, Unbalanced}
use Rattle.report_text.specs.Answer.{IsEnd}
use Rattle.report_text.specs.Ending.{status_of}
use Rattle.bundle_report.specs.Answer.{answer_at, EndsAs}
use Rattle.bundle_upgrade.specs.Upgraded.{upgraded_text}
use Rattle.bundle_upgrade.specs.Answer.{upgrade_of, upgrade_by, KeepsReportBy, IsDone}

-- what follows of what holds of a result, holds of it
pub on_ok : {A E P Q : Type 0} (result : Result A E) → (P → Q) → OnOk result P → OnOk result Q
on_ok (Ok answer) follows holds = follows holds
on_ok (Err error) follows holds = tt

pub on_err : {A E P Q : Type 0} (result : Result A E) → (P → Q) → OnErr result P → OnErr result Q
on_err (Ok answer) follows holds = tt
on_err (Err error) follows holds = follows holds

-- the report of a bundle ends
pub is_end : (end : BundleEnd) → IsEnd (status_of end)
is_end (Done epochs) = tt
is_end (BadBundle offset) = tt
is_end (Refused verifier index refusal) = tt
is_end (Unbalanced epoch added evicted) = tt

-- logs of numbers below 256 are logs of bytes
pub all_bytes : (logs : List (List ℕ)) → AllByRecursion (All (λ byte. byte < 256)) logs → AllByRecursion AreBytes logs
all_bytes [] all = tt
all_bytes (log ∷ logs) all = (AreBytes-from_all log all.0, all_bytes logs all.1)

module _ (functions : DigestFunctions) (found : Option Header) (header : Header) (logs : List (List ℕ)) (bad : Option ℕ) (is : found ≡ Some header)
    (end : BundleEnd) (ends : status_of end ≡ (answer_at false functions found logs bad).status) (result : Result BundleEnd Failure) (held held' : Option (List ℕ))
    (told : EndsAs status_of result held held' (upgrade_of (status_of end) (upgraded_text (Some header) logs))) where
  -- what is told of the header that was found is told of what was read
  pub ends_found : EndsAs status_of result held held' (upgrade_by functions (record { header = found; logs = logs; bad = bad }))
  ends_found =
      subst (λ (h : Option Header). EndsAs status_of result held held' (upgrade_of (answer_at false functions found logs bad).status (upgraded_text h logs))) (sym is)
      (subst (λ (status : Status). EndsAs status_of result held held' (upgrade_of status (upgraded_text (Some header) logs))) ends told)

  -- and so is that the report is kept
  pub keeps_found : (last : BundleEnd) → result ≡ Ok last → IsDone (status_of last)
      → OnOk result (status_of end ≡ (answer_at false functions (Some header) logs bad).status → IsDone (status_of end)
      → KeepsReportBy functions (record { header = Some header; logs = logs; bad = bad }))
      → KeepsReportBy functions (record { header = found; logs = logs; bad = bad })
  keeps_found last so done keeps =
      let as_told : status_of last ≡ status_of end =
      (subst (λ (r : Result BundleEnd Failure). EndsAs status_of r held held' (upgrade_of (status_of end) (upgraded_text (Some header) logs))) so told).0 in
      let kept =
      subst (λ (r : Result BundleEnd Failure). OnOk r (status_of end ≡ (answer_at false functions (Some header) logs bad).status → IsDone (status_of end)
      → KeepsReportBy functions (record { header = Some header; logs = logs; bad = bad }))) so keeps in
      subst (λ (h : Option Header). KeepsReportBy functions (record { header = h; logs = logs; bad = bad })) (sym is)
      (kept (ends ∙ ap (λ (h : Option Header). (answer_at false functions h logs bad).status) is) (subst IsDone as_told done))
