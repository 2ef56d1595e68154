-- What the clauses on logs cite, in reading order.
pub mod Command
pub mod SlotCommand
pub mod LogCommand
pub mod Lengths
pub mod Decoded
pub mod Log
pub use Rattle.record_text.specs
