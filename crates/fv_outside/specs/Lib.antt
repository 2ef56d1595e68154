-- The words of this crate's contracts.
pub mod Calls
pub mod Counting
pub mod Errors
pub mod Failures
pub mod Faults
pub mod FileVaultState
pub mod SinkState
pub mod SourceState
pub mod SureSinkState
pub mod Written
pub mod Consumed
