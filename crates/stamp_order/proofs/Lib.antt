pub mod InOrderLaws
pub mod OneOrderLaws
mod JoinLemmas
pub mod MomentLaws
pub mod MergedLaws
mod PlaceLemmas
pub mod MapLaws
mod EntriesLemmas
