-- What the clauses on slots cite, in reading order.
pub mod Rewriting
pub mod Indexed
pub mod Writing
pub use Rattle.log_codec.specs
