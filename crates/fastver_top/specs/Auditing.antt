-- What an audit answers to bytes: what there is to exhibit, how the report of a check ends, and the status.
use Rattle.std.specs.Prelude.{ℕ, false, List, [], ◌∷◌, ◌++◌}
use Rattle.record_hash.specs.Functions.{DigestFunctions}
use Rattle.record_hash.specs.ShaDigests.{sha_under}
use Rattle.record_text.specs.declared.exhibit.Exhibit.{Exhibit}
use Rattle.record_text.specs.declared.exhibit.Exhibit.TheVariants.{Clean, Strings, Multisets}
use Rattle.report_text.specs.declared.status.Status.{Status}
use Rattle.report_text.specs.declared.status.Status.TheVariants as statuses
use Rattle.report_text.specs.declared.ending.BundleEnd.{BundleEnd}
use Rattle.report_text.specs.Kinds.{StatusKind, IsOneOf}
use Rattle.report_text.specs.Kinds as kinds
use Rattle.report_text.specs.Ending.{status_of}
use Rattle.report_text.specs.Answer.{Answer}
use Rattle.report_text.specs.Exhibit.{exhibit_text}
use Rattle.report_text.specs.Status.{last_line}
use Rattle.check_core.specs.Outcomes.{check_kinds}
use Rattle.bundle_report.specs.Logged.{Logged, logged_of}
use Rattle.bundle_report.specs.Answer.{certified_at, answer_by}
use Rattle.fastver_top.specs.declared.audit_end.AuditEnd.{AuditEnd}
use Rattle.fastver_top.specs.declared.audit_end.AuditEnd.TheVariants as ends
use Rattle.bundle_report.specs.Headline.{exhibit_at, CollidesAt}

-- the status of an audit: `exhibit` where there is something to exhibit, and else how the check ends
abbrev pub audit_status : Exhibit → Status → Status
audit_status Clean status = status
audit_status (Strings evicted added) status = statuses.Exhibit
audit_status (Multisets epoch added evicted) status = statuses.Exhibit

-- the end of an audit that shows this, where the report of a check ends so
abbrev pub audit_end : Exhibit → BundleEnd → AuditEnd
audit_end Clean end = ends.Bundle end
audit_end (Strings evicted added) end = ends.Exhibit
audit_end (Multisets epoch added evicted) end = ends.Exhibit

-- the status of a run that ends so
abbrev pub audit_end_status : AuditEnd → Status
audit_end_status ends.Exhibit = statuses.Exhibit
audit_end_status (ends.Bundle end) = status_of end

-- of an exhibit over so many certified epochs, where the report of a check ends so: nothing is due before all is read
abbrev pub audit_of : Exhibit → ℕ → Status → Answer
audit_of exhibit certified status =
    record { text = exhibit_text certified exhibit ++ last_line status; due = []; status = audit_status exhibit status }

-- of a bundle that was read: its exhibit, over the epochs that a check of it certifies
abbrev pub audit_answer_by : DigestFunctions → Logged → Answer
audit_answer_by functions bundle =
    audit_of (exhibit_at functions bundle.header bundle.logs) (certified_at functions bundle.header bundle.logs)
    (answer_by false functions bundle).status

-- What an audit answers to bytes, where the verifiers compute these functions.
abbrev pub audit_answer : DigestFunctions → List ℕ → Answer
audit_answer functions bytes = audit_answer_by functions (logged_of bytes)

-- the same with SHA-256, and with HMAC under a key
abbrev pub sha_audit_answer : List ℕ → List ℕ → Answer
sha_audit_answer key bytes = audit_answer (sha_under key) bytes

-- ---- statuses

-- the kinds of status that an audit can end with: those of a check, and `exhibit`
abbrev pub audit_kinds : List StatusKind
audit_kinds = kinds.exhibit ∷ check_kinds

-- those with which not all was read, so that nothing is written
abbrev pub unaudited_kinds : List StatusKind
unaudited_kinds = kinds.memory ∷ kinds.read_fault ∷ kinds.input_limit ∷ []

-- a status that an audit can end with
abbrev pub IsAuditStatus : Status → Type 0
IsAuditStatus = IsOneOf audit_kinds

-- the exhibit of bytes is a real collision: two different strings with one digest, or two different multisets with one sum
abbrev pub ExhibitCollides : DigestFunctions → List ℕ → Type 0
ExhibitCollides functions bytes = CollidesAt functions (logged_of bytes).header (logged_of bytes).logs
