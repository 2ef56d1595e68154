-- What the clauses of the top call cite, in reading order.
pub mod Auditing
pub mod Running
pub mod Generating
pub mod Accepting
pub mod Signing
pub mod Rules
pub mod Answers
pub mod Complete
pub mod Resuming
pub mod Rolling
pub use Rattle.check_core.specs
