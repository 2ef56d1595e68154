-- What the clauses on moves cite, in reading order.
pub mod Stage
pub mod Renewing
pub mod Transfer
pub mod Descent
pub mod Move
pub mod Shown
pub mod Places
pub mod Promotable
pub mod Done
pub mod Saving
pub mod Turn
pub mod Lending
pub use Rattle.host_plan.specs
