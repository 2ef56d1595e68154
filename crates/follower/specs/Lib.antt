-- What the clauses on following a bundle cite.
pub mod Followed
pub mod Answer
pub use Rattle.check_core.specs
