-- How a host serves a script, in reading order.
pub mod Leading
pub mod Loop
pub mod Form
pub mod Standing
pub mod Turn
pub mod Closing
pub use Rattle.host_world.specs
