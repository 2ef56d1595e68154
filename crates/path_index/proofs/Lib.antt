-- Lemmas on an index.
mod OrderLemmas
mod HalvingLemmas
mod IndexLemmas
