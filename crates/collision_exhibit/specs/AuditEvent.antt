-- What of a log an audit looks at: the part of each event that an exhibit can be made of.
use Rattle.std.specs.Prelude.{ℕ, List, [], ◌∷◌, map, if◌then◌else◌}
use Rattle.std.specs.List.{flat_map}
use Rattle.stamp_order.specs.declared.moment.Moment.{Moment}
use Rattle.verifier_commands.specs.Changes.{above}
use Rattle.verifier_commands.specs.Change.{Change, did_add_m, did_evict_m, did_add_b, did_evict_b, did_evict_bm, did_get, did_put, did_next_epoch}
use Rattle.soundness.specs.History.{Event}
use Rattle.soundness.specs.Certified.{event_moment}
use Rattle.soundness.specs.Clash.{is_known}
use Rattle.collision_exhibit.specs.declared.audit_event.AuditEvent.{AuditEvent}
use Rattle.collision_exhibit.specs.declared.audit_event.AuditChange.{AuditChange}
use Rattle.collision_exhibit.specs.declared.audit_event.AuditChange.TheVariants as audits

-- what of a change an exhibit can be made of; a child joins by its digest where its parent's pointer already led to it
abbrev pub audit_changes_by : Change → List AuditChange
audit_changes_by (did_add_m parent after child) = if is_known (above parent child.path) child.path then audits.AddM child.path child.value ∷ [] else []
audit_changes_by (did_evict_m parent after child) = audits.EvictM child.path child.value ∷ []
audit_changes_by (did_add_b child element) = audits.AddB element ∷ []
audit_changes_by (did_evict_b child element) = audits.EvictB element ∷ []
audit_changes_by (did_evict_bm parent after child element) = audits.EvictB element ∷ []
audit_changes_by (did_get entry) = []
audit_changes_by (did_put before after) = []
audit_changes_by (did_next_epoch sealed) = []

-- a change at an event
abbrev pub audit_event_at : Event → AuditChange → AuditEvent
audit_event_at event change = record { moment = event_moment event; change = change }

-- the audit events of an event
abbrev pub audit_events_by : Event → List AuditEvent
audit_events_by event = map (audit_event_at event) (audit_changes_by event.change)

-- the epoch of an audit event
abbrev pub audit_epoch : AuditEvent → ℕ
audit_epoch item = item.moment.at.epoch

-- the audit events among events, in their order
abbrev pub audit_events_in : List Event → List AuditEvent
audit_events_in events = flat_map audit_events_by events

-- when an audit event was done
abbrev pub audit_moment : AuditEvent → Moment
audit_moment item = item.moment
