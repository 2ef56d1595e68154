mod ReadyLemmas
mod TurnLemmas
mod RoundLemmas
mod StartLemmas
