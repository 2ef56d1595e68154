-- How it is proved that a table's phase has one order, in reading order: lists of lists, what the host does, places, their
-- pasts, the turns of workers, and the whole. Then how it is proved that what a world lends can be made a table: what is
-- evicted, and the whole; and that a table that is made of a world is made of contents that mirror. Then the same of a round: lists of
-- lists, the pasts of places, the turns of workers, and what is told. Then how it is proved that contents of a table mirror: what a
-- worker evicts, what a history makes of a content, the rule, and a phase as an instance. At last how a round ends: stops, the
-- whole, and a phase as a round.
mod ListLemmas
mod ShapeLemmas
mod Keeping
mod PlaceLemmas
mod PastLemmas
mod TurnLemmas
mod TableLemmas
mod ComeLemmas
mod MakingLemmas
mod MadeLemmas
mod RoundShapeLemmas
mod RoundPastLemmas
mod RoundTurnLemmas
mod RoundLemmas
mod EvictLemmas
mod MirrorLemmas
mod KeptLemmas
mod PhaseMirrorLemmas
mod RoundStopLemmas
mod RoundOrderLemmas
mod RoundPhaseLemmas
