-- What the clauses on reports cite, in reading order.
pub mod Lines
pub mod KeyLines
pub mod Kinds
pub mod Status
pub mod Ending
pub mod Answer
pub mod Exhibit
pub mod Page
