-- What the clauses on the table of records cite, in reading order.
pub mod Terms
pub mod Told
pub mod Services
pub mod Phase
pub mod Hands
pub mod Table
pub mod Calls
pub use Rattle.host_epochs.specs
