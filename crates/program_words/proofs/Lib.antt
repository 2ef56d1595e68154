mod CommandLemmas
mod FlagLemmas
mod NumberLemmas
mod RangeLemmas
pub mod AskedLaws
mod WordsLemmas
mod WordsFacts
