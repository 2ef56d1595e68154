-- How the laws of serving a script are proved, in reading order.
pub mod LeadingLaws
mod PlanLemmas
pub mod TurnLaws
mod AdvanceLemmas
mod MoveLemmas
mod ClosePlanLemmas
mod CloseLemmas
pub mod BeforeLaws
mod CloseWorldLemmas
mod BegunLemmas
mod RollingForms
pub mod FormLaws
