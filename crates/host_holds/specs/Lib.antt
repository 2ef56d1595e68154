-- What the laws on held values cite.
pub mod Holding
