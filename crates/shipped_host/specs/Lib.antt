-- The shipped host as a host of the machine, in reading order.
pub mod Links
pub mod Settings
pub mod Promotable
pub mod Moving
pub mod ShippedHost
pub mod Seated
pub mod Planned
pub mod Ranges
pub use Rattle.host_core.specs
pub use Rattle.protection_moves.specs as protection_moves_specs
