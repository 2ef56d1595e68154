-- How the one order of a phase and of a close is proved, in reading order.
mod TurnLemmas
mod HadLemmas
mod StopLemmas
pub mod PhaseLaws
mod AdvanceLemmas
mod MoveLemmas
mod CloseLaws
