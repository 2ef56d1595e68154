pub mod Header
pub mod Stamp
pub mod Reading
pub mod Clock
