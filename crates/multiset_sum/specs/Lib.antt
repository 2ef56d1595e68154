pub mod Tally
pub mod Sum
