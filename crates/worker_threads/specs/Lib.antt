-- What the clauses on workers in threads cite, in reading order.
pub mod Parts
pub mod Pairs
pub mod Participants
pub mod Phase
pub mod Round
pub use Rattle.host_serving.specs
