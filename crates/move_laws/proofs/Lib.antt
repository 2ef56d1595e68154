-- How the laws of transfers and of moves are proved, in reading order.
mod CountLaws
pub mod PlaceLaws
pub mod KeyLaws
pub mod VacantLaws
mod WayLemmas
mod EndLemmas
mod AroundLaws
mod AlongLemmas
mod ClosedLemmas
mod AboveLaws
mod BackLemmas
mod HotLemmas
pub mod TransferLaws
pub mod CounterLaws
pub mod RenewLaws
mod StageLemmas
pub mod DescentLaws
pub mod FitLaws
pub mod MoveLaws
mod EventLemmas
pub mod DeedLaws
