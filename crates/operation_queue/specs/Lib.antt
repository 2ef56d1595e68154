-- What the clauses on operations that wait cite, in reading order.
pub mod Heads
