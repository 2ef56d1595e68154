-- What the laws of transfers and of moves cite, in reading order.
pub mod Kept
pub mod Stages
pub mod Transfers
pub mod Moved
pub mod Deed
