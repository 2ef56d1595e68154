-- What the clauses on the requests of clients cite.
pub mod Texts
pub use Rattle.record_text.specs
