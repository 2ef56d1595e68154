-- The definitions of a phase's one order, in reading order.
pub mod Serving
pub mod Steady
pub mod Told
pub mod Close
