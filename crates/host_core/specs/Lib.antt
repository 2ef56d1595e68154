-- The definitions of the host's world, in reading order.
pub mod Host
pub mod World
pub mod Accepted
pub mod Deeds
pub mod WorldEvent
pub mod Core
pub mod Clear
pub mod Storing
