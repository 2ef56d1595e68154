-- What the clauses on caches cite, in reading order.
pub mod Entry
pub mod Cache
pub mod Slots
pub mod Alike
pub mod Listed
pub mod LendsValue
pub mod Table
pub use Rattle.record_text.specs
