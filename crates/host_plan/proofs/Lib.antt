-- Lemmas on plans.
mod OwnLemmas
mod TypedLemmas
mod SetupLemmas
