-- What an audit shows is the exhibit of what was read, and that is a collision.
use Rattle.std.proofs.Common.{◌≡◌, ◌≢◌, ℕ, List, [], ◌∷◌, map, Option, Some, None, IfSome, refl, sym, ◌∙◌, ap, subst, inl, inr}
use Rattle.record_hash.specs.Functions.{DigestFunctions}
use Rattle.lamport_clocks.specs.declared.header.Header.{Header}
use Rattle.record_text.specs.declared.exhibit.Exhibit.{Exhibit}
use Rattle.record_text.specs.declared.exhibit.Exhibit.TheVariants.{Clean}
use Rattle.record_text.specs.declared.operation.Operation.{Operation}
use Rattle.record_text.specs.Format.{LogFormat, format_of}
use Rattle.report_text.specs.declared.ending.BundleEnd.{BundleEnd}
use Rattle.report_text.specs.declared.ending.BundleEnd.TheVariants as bundles
use Rattle.report_text.specs.Ending.{status_of}
use Rattle.report_text.specs.declared.status.Status.TheVariants as statuses
use Rattle.report_text.specs.Answer.{IsEnd}
use Rattle.log_codec.specs.declared.log_command.LogCommand.{LogCommand}
use Rattle.log_codec.specs.Log.{Log, read_log}
use Rattle.soundness.specs.History.{histories_of}
use Rattle.soundness.specs.Collision.{Collides}
use Rattle.soundness.specs.Exhibit.{exhibit_of}
use Rattle.soundness.specs.Sound.{commands_of, histories_read, IsSerialOrCollides}
use Rattle.merkle_records.specs.Scheme.{Scheme, scheme_of}
use Rattle.bundle_report.specs.BundleReport.{histories_at}
use Rattle.bundle_report.specs.Logged.{Logged, logged_of}
use Rattle.bundle_report.specs.Answer.{certified_at}
use Rattle.bundle_report.specs.Headline.{exhibit_at, CollidesAt, IsSoundAt}
use Rattle.fastver_top.specs.declared.audit_end.AuditEnd.{AuditEnd}
use Rattle.fastver_top.specs.declared.audit_end.AuditEnd.TheVariants as ends
use Rattle.fastver_top.specs.Auditing.{audit_end_status, ExhibitCollides}

-- ---- what was read

-- the commands of logs, read one by one, are those of the logs that were read
commands_read : (format : LogFormat) (logs : List (List ℕ)) → commands_of format logs ≡ map (λ (log : Log). log.commands) (map (read_log format) logs)
commands_read format [] = refl
commands_read format (log ∷ logs) = ap (λ (more : List (List LogCommand)). (read_log format log).commands ∷ more) (commands_read format logs)

-- the exhibit over the certified epochs of logs is that of what was read
pub exhibit_read : (functions : DigestFunctions) (found : Option Header) (header : Header) (logs : List (List ℕ)) (certified : ℕ)
    → found ≡ Some header → certified ≡ certified_at functions found logs
    → exhibit_of header.first certified (histories_read (scheme_of functions header) header logs) ≡ exhibit_at functions found logs
exhibit_read functions found header logs certified is count =
    ap (λ (commands : List (List LogCommand)). exhibit_of header.first certified (histories_of (scheme_of functions header) header commands)) (commands_read (format_of header) logs)
    ∙ ap (λ (n : ℕ). exhibit_of header.first n (histories_at (scheme_of functions header) header logs))
    (count ∙ ap (λ (o : Option Header). certified_at functions o logs) is)
    ∙ sym (ap (λ (o : Option Header). exhibit_at functions o logs) is)

-- nothing is exhibited of a bundle with no header
pub exhibit_none : (functions : DigestFunctions) (found : Option Header) (logs : List (List ℕ)) → found ≡ None → Clean ≡ exhibit_at functions found logs
exhibit_none functions found logs is = sym (ap (λ (o : Option Header). exhibit_at functions o logs) is)

-- ---- what is shown

-- no report of a bundle ends as an exhibit does
bundle_not_shown : (end : BundleEnd) → status_of end ≡ statuses.Exhibit → ⊥
bundle_not_shown (bundles.Done epochs) is = cc
bundle_not_shown (bundles.BadBundle offset) is = cc
bundle_not_shown (bundles.Refused verifier index refusal) is = cc
bundle_not_shown (bundles.Unbalanced epoch added evicted) is = cc

-- an audit answers `exhibit` just where it ends so
pub status_shown : (end : AuditEnd) → audit_end_status end ≡ statuses.Exhibit → end ≡ ends.Exhibit
status_shown ends.Exhibit is = refl
status_shown (ends.Bundle end) is = absurd (bundle_not_shown end is)

-- what is exhibited collides
shown_serial : (scheme : Scheme) (exhibit : Exhibit) (operations : List Operation)
    → IsSerialOrCollides scheme exhibit operations → exhibit ≢ Clean → Collides scheme exhibit
shown_serial scheme exhibit operations (inl serial) shown = absurd (shown serial.0)
shown_serial scheme exhibit operations (inr collides) shown = collides

pub shown_collides : (functions : DigestFunctions) (found : Option Header) (logs : List (List ℕ))
    → IsSoundAt functions found logs → exhibit_at functions found logs ≢ Clean → CollidesAt functions found logs
shown_collides functions None logs sound shown = shown refl
shown_collides functions (Some header) logs sound shown =
    shown_serial (scheme_of functions header) (exhibit_at functions (Some header) logs) _ sound.serial shown

-- the exhibit of what was read of a source is that of the bytes that it had
pub shown_left : (functions : DigestFunctions) (left : Option (List ℕ)) (read : Logged) → IfSome left (λ bytes. read ≡ logged_of bytes)
    → exhibit_at functions read.header read.logs ≢ Clean
    → ((bytes : List ℕ) → exhibit_at functions (logged_of bytes).header (logged_of bytes).logs ≢ Clean → ExhibitCollides functions bytes)
    → IfSome left (ExhibitCollides functions)
shown_left functions None read is shown collides = tt
shown_left functions (Some bytes) read is shown collides =
    collides bytes (subst (λ (l : Logged). exhibit_at functions l.header l.logs ≢ Clean) is shown)

-- ---- what an audit answers

pub audit_is_end : (end : AuditEnd) → IsEnd (audit_end_status end)
audit_is_end ends.Exhibit = tt
audit_is_end (ends.Bundle (bundles.Done epochs)) = tt
audit_is_end (ends.Bundle (bundles.BadBundle offset)) = tt
audit_is_end (ends.Bundle (bundles.Refused verifier index refusal)) = tt
audit_is_end (ends.Bundle (bundles.Unbalanced epoch added evicted)) = tt
