-- Proofs of the calls on feeds. Other crates use `FrontLaws` alone.
mod FeedLemmas
pub mod FrontLaws
