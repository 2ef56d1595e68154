-- Lemmas on what the shipped host does.
pub mod LinkLaws
mod PromotableLemmas
pub mod DescentLaws
pub mod PlaceLaws
pub mod ServeLaws
pub mod PlannedLaws
pub mod SeatLaws
pub mod LongerLaws
pub mod RangeLaws
