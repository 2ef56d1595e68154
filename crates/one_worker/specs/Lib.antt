-- What the only worker of a host does, deed by deed, in either mode, in reading order.
pub mod Deeds
pub mod Runs
