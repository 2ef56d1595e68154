-- Lemmas on free numbers.
mod FreeLemmas
mod TreeLemmas
