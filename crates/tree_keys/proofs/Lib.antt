-- Lemmas on bits and paths.
pub mod BitsLaws
pub mod PathLaws
pub mod SideLaws
pub mod TreeLaws
mod CommonLemmas
mod WordLemmas
