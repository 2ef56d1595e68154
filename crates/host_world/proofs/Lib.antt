-- Lemmas on the world of the code.
pub mod FrontLaws
pub mod BegunLaws
mod LoggedLemmas
pub mod BehindLaws
mod WorldLemmas
mod TakenLemmas
mod StandingLemmas
mod PlacingLemmas
mod LendLemmas
mod EnabledLemmas
