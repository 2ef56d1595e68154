-- How it is proved that the host fits the machine, in reading order: what it keeps, what is told of a run as events, a
-- request, a close, the setup, and the whole; and that the contents hold the plain map.
mod Keeping
mod EventLemmas
mod DeedLemmas
mod PlaceLemmas
mod ServeLemmas
mod ClearLemmas
mod FitLemmas
mod RestLemmas
mod OpenLemmas
mod SettingLemmas
mod RangeLemmas
mod PlanLemmas
mod MoveLemmas
mod SteadyLemmas
pub mod PromiseLaws
pub mod StandingLaws
mod AccessLemmas
mod ColdLemmas
mod HotLemmas
mod StoringLemmas
pub mod TypedLaws
