pub mod PlanLaws
pub mod PhaseLaws
mod CallLemmas
mod AttemptLemmas
pub mod RoundLaws
