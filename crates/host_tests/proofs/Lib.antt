-- The proofs of this crate.
mod RoundLemmas
