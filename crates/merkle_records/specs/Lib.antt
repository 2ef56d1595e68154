-- What the clauses on nodes cite.
pub mod Merkle
pub mod Scheme
pub use Rattle.record_text.specs
pub use Rattle.record_hash.specs as record_hash_specs
