-- Lemmas on courses and runs.
mod PerformLemmas
mod CourseLemmas
mod TraceLemmas
mod FollowLemmas
mod PieceLemmas
mod OrderLemmas
mod HandOutLemmas
mod TakenLemmas
pub mod RunLaws
pub mod LikenessLaws
pub mod KeptRunLaws
