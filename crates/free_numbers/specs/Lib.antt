-- What the clauses on free numbers cite, in reading order.
pub mod Free
pub mod Tree
