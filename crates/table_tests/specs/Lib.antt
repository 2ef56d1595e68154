-- What the tests of the table know of their contents and workers.
pub mod Ready
pub mod Turns
pub mod Rounds
