-- What the clauses on certified epochs cite.
pub mod Telling
pub mod Pieces
pub mod Turn
pub use Rattle.bundle_report.specs
