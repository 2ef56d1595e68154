-- What the laws on rewriting cite, in reading order.
pub mod Alike
pub mod RewrittenLog
pub use Rattle.slot_rewriting.specs
