-- Laws of this crate's words, for callers too.
mod FaultLemmas
pub mod WrittenLaws
