-- What the logs of a bundle come to for an audit.
use Rattle.std.specs.Prelude.{◌≡◌, ℕ, List}
use Rattle.std.specs.List.{flat_map}
use Rattle.lamport_clocks.specs.declared.header.Header.{Header}
use Rattle.merkle_records.specs.Scheme.{scheme_of}
use Rattle.record_hash.specs.Functions.{DigestFunctions}
use Rattle.verifier_run.specs.Course.{Course}
use Rattle.verifier_run.specs.LogCourse.{courses_keeping}
use Rattle.collision_exhibit.specs.declared.audit_event.AuditEvent.{AuditEvent}
use Rattle.collision_exhibit.specs.AuditEvent.{audit_events_by}

-- the courses of all logs under a header, where audit events are kept
abbrev pub audited_courses : DigestFunctions → Header → List (List ℕ) → List (Course AuditEvent)
audited_courses functions header logs = courses_keeping audit_events_by (scheme_of functions header) header 0 logs

-- these are the courses of all logs of some bundle
abbrev pub AreAudited : List (Course AuditEvent) → Type 0
AreAudited courses =
    (functions : DigestFunctions) × (header : Header) × (logs : List (List ℕ)) × (courses ≡ audited_courses functions header logs)

-- what the courses have kept, one course after another
abbrev pub audit_events_among : List (Course AuditEvent) → List AuditEvent
audit_events_among courses = flat_map (λ course. course.items) courses
