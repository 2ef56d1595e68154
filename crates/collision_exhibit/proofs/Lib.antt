-- How what an audit shows is proved, in reading order.
mod AuditEventLemmas
mod AuditChangeLemmas
mod CommandLemmas
mod PerformLemmas
mod OrderedLemmas
mod ElementLemmas
mod PartingLemmas
mod OwnStampLemmas
mod LastEvictedLemmas
