-- The world that the code of the shipped host steps, in reading order.
pub mod Places
pub mod Workers
pub mod Doing
pub mod Shown
pub mod Lending
pub mod Ending
pub mod Behind
pub mod Worked
pub mod WorkedKeys
pub mod WorkedRounds
pub use Rattle.host_core.specs
pub use Rattle.shipped_host.specs as shipped_host_specs
