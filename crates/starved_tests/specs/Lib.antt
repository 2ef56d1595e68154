-- What the tries know of their contents and of a table.
pub mod Fit
pub mod Seated
