-- What the clauses on a book cite.
pub mod Words
pub mod Numbers
pub mod Passes
pub mod Settled
pub use Rattle.epoch_gather.specs
