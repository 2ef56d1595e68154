-- The audit events that runs of all logs have kept, in the order of their moments.
use Rattle.std.proofs.Common.{◌≡◌, ℕ, suc, List, [], ◌∷◌, ◌++◌, map, refl, sym, ◌∙◌, ap}
use Rattle.merkle_records.specs.Scheme.{Scheme, scheme_of}
use Rattle.record_hash.specs.Functions.{DigestFunctions}
use Rattle.std.specs.List.{AllByRecursion}
use Rattle.std.proofs.lemmas.Grind.{flat_map-append}
use Rattle.lamport_clocks.specs.declared.header.Header.{Header}
use Rattle.log_codec.specs.Log.{read_log}
use Rattle.stamp_order.specs.Merged.{merged}
use Rattle.stamp_order.proofs.MergedLaws.{merged-flat_map}
use Rattle.verifier_run.specs.Course.{Course}
use Rattle.verifier_run.specs.LogCourse.{courses_keeping}
use Rattle.soundness.specs.History.{Event, log_events, histories_from}
use Rattle.soundness.specs.Certified.{event_moment, all_events, order_of}
use Rattle.soundness.specs.Sound.{commands_of, histories_read}
use Rattle.collision_exhibit.specs.declared.audit_event.AuditEvent.{AuditEvent}
use Rattle.collision_exhibit.specs.declared.audit_event.AuditChange.{AuditChange}
use Rattle.collision_exhibit.specs.AuditEvent.{audit_changes_by, audit_event_at, audit_events_by, audit_events_in, audit_moment}
use Rattle.collision_exhibit.specs.Audited.{audited_courses, audit_events_among}

module _ (scheme : Scheme) (header : Header) where
  -- the audit events of logs, the first of which is of the verifier of this number
  abbrev pub audit_events_behind : ℕ → List (List ℕ) → List AuditEvent
  audit_events_behind number logs = audit_events_in (all_events (histories_from scheme header number (commands_of scheme.format logs)))

  -- the audit events of one log and of those behind it
  one_log : (number : ℕ) (log : List ℕ) (logs : List (List ℕ))
      → audit_events_behind number (log ∷ logs)
      ≡ audit_events_in (log_events scheme header number (read_log scheme.format log).commands) ++ audit_events_behind (suc number) logs
  one_log number log logs =
      flat_map-append audit_events_by (log_events scheme header number (read_log scheme.format log).commands)
      (all_events (histories_from scheme header (suc number) (commands_of scheme.format logs)))

  -- What runs of all logs have kept are the audit events of the histories.
  events_kept : (number : ℕ) (logs : List (List ℕ))
      → audit_events_among (courses_keeping audit_events_by scheme header number logs) ≡ audit_events_behind number logs
  events_kept number [] = refl
  events_kept number (log ∷ logs) =
      ap (λ (more : List AuditEvent). audit_events_in (log_events scheme header number (read_log scheme.format log).commands) ++ more)
      (events_kept (suc number) logs)
      ∙ sym (one_log number log logs)

-- all audit events of an event have its moment
acts_then : (event : Event) (changes : List AuditChange) → AllByRecursion (λ item. audit_moment item ≡ event_moment event) (map (audit_event_at event) changes)
acts_then event [] = tt
acts_then event (change ∷ changes) = (refl, acts_then event changes)

-- The audit events in the order of their moments are the audit events of the events in that order.
pub acts_merged : (events : List Event) → merged audit_moment (audit_events_in events) ≡ audit_events_in (merged event_moment events)
acts_merged events = sym (merged-flat_map event_moment audit_moment audit_events_by (λ event. acts_then event (audit_changes_by event.change)) events)

-- In the order of their moments they are the audit events of the one order of all logs.
pub ordered_kept : (functions : DigestFunctions) (header : Header) (logs : List (List ℕ)) (courses : List (Course AuditEvent)) (ordered : List AuditEvent)
    → courses ≡ audited_courses functions header logs → ordered ≡ merged audit_moment (audit_events_among courses)
    → ordered ≡ audit_events_in (order_of (histories_read (scheme_of functions header) header logs))
ordered_kept functions header logs courses ordered is ordered_is =
    ordered_is
    ∙ ap (λ (all : List (Course AuditEvent)). merged audit_moment (audit_events_among all)) is
    ∙ ap (merged audit_moment) (events_kept (scheme_of functions header) header 0 logs)
    ∙ acts_merged (all_events (histories_read (scheme_of functions header) header logs))
