-- What the clauses on queues cite.
pub mod Waiting
