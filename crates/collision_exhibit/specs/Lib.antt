-- What the clauses on an audit cite, in reading order.
pub mod AuditEvent
pub mod AuditEventLaws
pub mod AuditChange
pub mod Audited
pub mod Shown
pub mod Elements
pub mod LastEvicted
pub mod Within
pub use Rattle.soundness.specs
