-- What the clauses on a check cite, in reading order.
pub mod Batch
pub mod Feeding
pub mod InRange
pub mod Intake
pub mod Outcomes
pub mod Asked
pub mod Told
pub mod Checked
pub mod Stream
pub mod Sealing
pub mod Unsealed
pub mod Resuming
pub mod Unresumed
pub mod Found
pub use Rattle.bundle_report.specs
pub use Rattle.resumed_runs.specs as resumed_runs_specs
pub use Rattle.seals.specs as seals_specs
