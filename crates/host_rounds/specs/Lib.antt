-- What the clauses on the rounds of a host cite, in reading order.
pub mod Round
pub mod Feeding
pub mod Bundle
pub mod SoFar
pub mod WithPasses
pub mod Sealing
