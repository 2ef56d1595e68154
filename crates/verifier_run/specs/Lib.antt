-- What the clauses on runs cite, in reading order.
pub mod Kept
pub mod KeptLaws
pub mod Course
pub mod Progress
pub mod LogCourse
pub mod Order
pub mod Taken
pub mod Likeness
pub mod Sealed
pub mod Under
