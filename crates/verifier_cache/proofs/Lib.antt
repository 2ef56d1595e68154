-- Lemmas on the entries of a cache.
pub mod EntriesLaws
pub mod AlikeLaws
mod TableLemmas
mod IndexedLemmas
mod ListedLemmas
