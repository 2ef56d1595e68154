-- Lemmas on heads.
mod HeadLemmas
