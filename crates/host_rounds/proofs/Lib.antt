-- What the rounds of a host come to, for callers too, and what this crate's proofs rest on.
pub mod RoundLaws
pub mod BundleLaws
pub mod FramingLaws
mod RunLemmas
mod LendingLemmas
mod HalvesLemmas
mod ChangedLemmas
mod SealingLemmas
mod SettlingLemmas
mod DealingLemmas
mod SealedLemmas
