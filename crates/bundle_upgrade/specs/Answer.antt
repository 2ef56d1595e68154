-- What an upgrade answers to bytes: the same bundle in version 3 where its report ends with `done`, and else nothing.
use Rattle.std.specs.Prelude.{◌≡◌, ◌==◌, ℕ, Bool, false, List, [], ◌∷◌, if◌then◌else◌}
use Rattle.record_hash.specs.Functions.{DigestFunctions}
use Rattle.record_hash.specs.ShaDigests.{sha_under}
use Rattle.report_text.specs.declared.status.Status.{Status}
use Rattle.report_text.specs.Answer.{Answer}
use Rattle.report_text.specs.Status.{status_number}
use Rattle.report_text.specs.Kinds.{StatusKind, IsOneOf}
use Rattle.report_text.specs.Kinds as kinds
use Rattle.bundle_report.specs.Logged.{Logged, logged_of}
use Rattle.bundle_report.specs.Answer.{answer_by, check_answer}
use Rattle.bundle_upgrade.specs.Upgraded.{upgraded_text}

-- a text where a report ends with `done`, whose number is 0
abbrev pub where_done : Status → List ℕ → List ℕ
where_done status text = if status_number status == 0 then text else []

-- of a bundle whose report ends so and which is this text in version 3: no line of the report is written
abbrev pub upgrade_of : Status → List ℕ → Answer
upgrade_of status text = record { text = where_done status text; due = []; status = status }

-- to a bundle that was read
abbrev pub upgrade_by : DigestFunctions → Logged → Answer
upgrade_by functions bundle = upgrade_of (answer_by false functions bundle).status (upgraded_text bundle.header bundle.logs)

-- What an upgrade answers to bytes, where the verifiers compute these functions.
abbrev pub upgrade_answer : DigestFunctions → List ℕ → Answer
upgrade_answer functions bytes = upgrade_by functions (logged_of bytes)

-- the same with SHA-256, and with HMAC under a key
abbrev pub sha_upgrade_answer : List ℕ → List ℕ → Answer
sha_upgrade_answer key bytes = upgrade_answer (sha_under key) bytes

-- What an upgrade writes of a bundle that was read has its report, with receipts and without: each line and the status.
abbrev pub KeepsReportBy : DigestFunctions → Logged → Type 0
KeepsReportBy functions bundle =
    (receipts : Bool) → check_answer receipts functions (upgrade_by functions bundle).text ≡ answer_by receipts functions bundle

-- the same of bytes
abbrev pub KeepsReport : DigestFunctions → List ℕ → Type 0
KeepsReport functions bytes = KeepsReportBy functions (logged_of bytes)

-- ---- statuses

-- the report of the bundle ends with `done`
abbrev pub IsDone : Status → Type 0
IsDone = IsOneOf (kinds.done ∷ [])

-- the kinds of status with which nothing is written
abbrev pub unwritten_kinds : List StatusKind
unwritten_kinds = kinds.memory ∷ kinds.read_fault ∷ kinds.bad_bundle ∷ kinds.refused ∷ kinds.unbalanced ∷ kinds.input_limit ∷ []
