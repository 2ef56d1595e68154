mod WordLemmas
mod TurnLemmas
mod PaddingLemmas
mod TextLemmas
