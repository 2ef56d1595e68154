-- What one turn of certifying tells, and runs one after another. What the crates above cite stands in the Laws.
pub mod RunsLaws
pub mod CanCertifyLaws
mod FedLemmas
mod TurnLemmas
mod GoingOnLemmas
mod OrderLemmas
mod PieceLemmas
mod LinesLemmas
mod OpeningLemmas
