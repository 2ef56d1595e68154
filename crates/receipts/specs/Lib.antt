-- What the clauses on receipts and certificates cite.
pub mod Receipts
pub mod Acceptance
pub use Rattle.record_text.specs
