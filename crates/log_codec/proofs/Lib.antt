-- Lemmas on commands and logs, in reading order.
pub mod StepLaws
pub mod GrammarLaws
mod CommandLaws
mod CommandKeepsOnLaws
mod LengthLaws
mod SlotCommandLaws
mod ReadLemmas
pub mod LogCommandLaws
pub mod LogLaws
