-- What the clauses on folds over operations cite.
pub use Rattle.record_text.specs
