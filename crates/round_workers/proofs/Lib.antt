-- How a worker's part of a round is proved, in reading order: what it has done with one step more, and in what order, the places that it
-- takes, what it sends, and its turns.
mod TurnLemmas
mod OrderLemmas
mod DoneLemmas
mod ColdLemmas
mod HandLemmas
mod WorkLemmas
mod SendLemmas
mod PartLemmas
