-- What the clauses on summaries cite, in reading order.
pub mod Tallies
pub mod Counting
pub mod Summary
