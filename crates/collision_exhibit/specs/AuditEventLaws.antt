-- An audit event is of the epoch of its event.
use Rattle.std.specs.Prelude.{◌≡◌, List, [], ◌∷◌, map, refl}
use Rattle.std.specs.List.{AllByRecursion}
use Rattle.soundness.specs.History.{Event}
use Rattle.collision_exhibit.specs.declared.audit_event.AuditChange.{AuditChange}
use Rattle.collision_exhibit.specs.AuditEvent.{audit_changes_by, audit_event_at, audit_events_by, audit_epoch}

by_changes : (event : Event) (changes : List AuditChange)
    → AllByRecursion (λ item. audit_epoch item ≡ event.at.epoch) (map (audit_event_at event) changes)
by_changes event [] = tt
by_changes event (change ∷ changes) = (refl, by_changes event changes)

pub audit_events-of_epoch : (event : Event) → AllByRecursion (λ item. audit_epoch item ≡ event.at.epoch) (audit_events_by event)
audit_events-of_epoch event = by_changes event (audit_changes_by event.change)
