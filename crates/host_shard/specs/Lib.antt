-- What the clauses on shards cite, in reading order.
pub mod Tree
pub mod Chain
pub mod Shard
pub mod Content
pub mod Mirrors
pub mod Records
pub mod Touched
pub mod Shown
pub use Rattle.merkle_records.specs
