-- How it is proved that a rolling host with one worker logs what the plain host logs, in reading order.
mod ShapeLemmas
mod TurnLemmas
mod LoopLemmas
mod RollLemmas
mod RollingLemmas
mod EventLemmas
mod CloseLemmas
mod PlainLemmas
mod ToldLemmas
mod RoundLemmas
mod TurningLemmas
mod WholeLemmas
mod ShippedLemmas
mod SameLemmas
