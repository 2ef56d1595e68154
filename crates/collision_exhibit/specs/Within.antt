-- Which audit events an audit of so many epochs looks at.
use Rattle.std.specs.Prelude.{ℕ, zero, suc, ◌+◌, nat_le, Bool, false}
use Rattle.collision_exhibit.specs.declared.audit_event.AuditEvent.{AuditEvent}
use Rattle.collision_exhibit.specs.AuditEvent.{audit_moment}

-- whether an audit event is of one of so many epochs from the first on, or of one before it; no epochs have no audit event
abbrev pub is_within : ℕ → ℕ → AuditEvent → Bool
is_within first zero item = false
is_within first (suc count) item = nat_le (audit_moment item).at.epoch (first + count)
