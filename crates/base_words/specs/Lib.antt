-- What the clauses on steps and on want of memory cite.
pub mod Steps
pub mod Follows
pub mod Traced
pub mod Memory
