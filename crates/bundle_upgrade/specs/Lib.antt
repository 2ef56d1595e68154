-- What the clauses on an upgrade cite.
pub mod Upgraded
pub mod Answer
pub use Rattle.check_core.specs
