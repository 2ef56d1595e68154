-- What reading a source comes to, for callers too, the logs that runs were of, and what a check answers batch by batch.
mod BatchLemmas
mod ConcludingLemmas
mod FeedingLemmas
mod JudgingLemmas
mod LogLemmas
mod MeaningLemmas
mod StreamLemmas
mod EndingLemmas
mod GoingOnLemmas
mod GoneOnLemmas
mod HeaderLemmas
mod LastLineLemmas
mod ResumedLemmas
pub mod WholeReadLaws
-- what a check that seals comes to
mod SealedLemmas
mod PlacingLemmas
mod SealingLemmas
mod SealEndLemmas
mod NamedSealLemmas
-- what going on from a seal comes to
mod SealReadingLemmas
mod KeptRunLemmas
mod RefusingLemmas
mod ResumingLemmas
mod UnresumedLemmas
mod RestLemmas
mod SealedRunsLemmas
mod MovedLemmas
mod GoingFromLemmas
mod FoundLemmas
