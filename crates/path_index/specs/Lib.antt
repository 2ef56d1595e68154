-- What the clauses on an index cite, in reading order.
pub mod Order
pub mod Index
pub use Rattle.tree_keys.specs
