-- What the clauses on windows cite.
pub mod Window
pub use Rattle.log_codec.specs
