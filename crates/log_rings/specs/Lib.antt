-- What the clauses on a lane cite.
pub mod Lanes
