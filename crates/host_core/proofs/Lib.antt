-- How the laws of the host's world are proved, in reading order.
mod RunLemmas
pub mod EventLaws
mod CountLemmas
mod Books
mod AccountLemmas
mod ScriptLemmas
mod Right
mod WaitingLemmas
mod ReadyLemmas
mod RightLemmas
mod BehindLemmas
mod EvenLemmas
mod PermutedLemmas
mod PromiseLemmas
pub mod CoreLaws
pub mod StandingLaws
mod LastLemmas
mod FollowLemmas
mod ClashLemmas
mod ClearLemmas
pub mod ExhibitLaws
pub mod StoringLaws
