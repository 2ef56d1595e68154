-- Lemmas on slots.
mod MarkLemmas
pub mod SlotPathLaws
pub mod WritingLaws
pub mod RangeLaws
mod IndexedLemmas
