-- What the clauses on seals cite, in reading order.
pub mod Combined
pub mod State
pub mod Bounds
pub mod Entry
pub mod Sum
pub mod Operation
pub mod Run
pub mod Seal
pub mod Kept
pub mod Front
pub mod Answer
pub mod Numbered
pub mod Meaning
pub use Rattle.verifier_cache.specs
