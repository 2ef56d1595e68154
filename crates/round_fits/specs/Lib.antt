-- The definitions of the rolling host's round.
pub mod Rounds
