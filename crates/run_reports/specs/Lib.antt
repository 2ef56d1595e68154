-- What the laws on reports cite.
pub mod Runs
