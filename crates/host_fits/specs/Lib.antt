-- What the shipped host promises.
pub mod Promise
pub mod Mirroring
pub mod Holds
