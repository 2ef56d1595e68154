-- How the one order of a round is proved, in reading order.
pub mod GoingLaws
mod WayLemmas
mod NoteLemmas
mod ClimbLemmas
pub mod TurnLaws
mod ReadyLemmas
pub mod ChainLaws
mod RisingLemmas
mod PartLemmas
mod PastLemmas
pub mod OrderLaws
pub mod RoundLaws
pub mod EndLaws
pub mod PhaseLaws
