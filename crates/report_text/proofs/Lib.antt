-- Texts that are added one after another, to a line and to a page.
mod Pushes
pub mod PassLaws
pub mod AnsweringLaws
