-- What the clauses on the table of records with epochs cite, in reading order.
pub mod Terms
pub mod Words
pub mod Scan
pub mod Told
pub mod Stops
pub mod Rule
pub mod Plays
pub mod Made
pub mod Round
pub mod Hands
pub mod Table
pub mod Calls
pub use Rattle.host_plan.specs
