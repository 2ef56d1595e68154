-- How the laws of the host are proved, in reading order: what is told of a run, a child that comes and goes behind its
-- parent, the links of a chain, a request, the setup.
mod StepLemmas
pub mod RunLaws
pub mod ToldLaws
mod StandingLemmas
pub mod DepthLaws
mod FamilyLemmas
pub mod MomentLaws
pub mod WorksLaws
pub mod ForkLaws
mod ChainLaws
mod EndLemmas
mod VisitLemmas
pub mod FrontierLaws
pub mod ReachedLaws
pub mod StayLaws
mod MissLemmas
pub mod BetweenLaws
pub mod RequestLaws
pub mod NumberLaws
mod ContentsLaws
pub mod SetUpLaws
mod PartLemmas
pub mod MirrorLaws
pub mod FirstLaws
