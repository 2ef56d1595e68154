-- That a run comes to what its history says, what is certified, and the headline.
mod CountedLemmas
mod SealedLemmas
mod PartLemmas
mod EpochOperationsLemmas
mod RunReportLemmas
mod RunEndLemmas
pub mod BoundedLaws
mod SmallPartLemmas
mod OrderSumLemmas
mod EpochPartLemmas
mod EpochVerdictLemmas
mod CertifiedCountLemmas
pub mod CertifyLaws
pub mod KeepingLaws
pub mod LeftLaws
pub mod LikeRunsLaws
mod MoreLaws
pub mod SoFarLaws
pub mod LinesLaws
pub mod DueLaws
mod AnswerLaws
pub mod HeadlineLaws
