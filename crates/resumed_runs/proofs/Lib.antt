-- Lemmas on runs that go on. `BaseLaws` and `JudgedLaws` are what the crates above cite.
mod FedLemmas
mod CommandLemmas
mod EachLemmas
mod PartLemmas
mod SealedLemmas
mod KeptLemmas
mod WholeLemmas
mod GoingOnLemmas
pub mod BaseLaws
pub mod JudgedLaws
-- why what is kept has a text
mod EntryTextLemmas
mod CacheTextLemmas
mod PathStepLemmas
mod SlotStepLemmas
mod ClockLemmas
mod SumLemmas
mod OperationLemmas
mod MachineLemmas
mod CourseLemmas
mod StoodLemmas
mod LoggedLemmas
mod StandingLaws
