-- Lemmas on windows.
mod GoesOnLemmas
mod ReadLemmas
pub mod WindowLaws
