-- What the clauses on a worker's log cite.
pub mod Logged
