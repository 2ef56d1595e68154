-- What the clauses on the workers of a round cite, in reading order.
pub mod Order
pub mod Parts
pub mod Sharing
pub mod Working
pub mod Placed
