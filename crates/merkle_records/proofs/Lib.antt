-- Lemmas on nodes and what their pointers lead to.
pub mod KindLaws
mod AddLemmas
