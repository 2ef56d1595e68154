-- The definitions of a round's one order, in reading order.
pub mod Turn
pub mod Steady
pub mod Told
pub mod Phase
