-- How the rounds of workers in threads are proved, in reading order: what the script asks, what turns do to a world, the law of a phase,
-- how a round begins, the law of a round in either mode, and the code.
mod TurnLemmas
mod AskedLemmas
mod ShapeLemmas
mod FilledLemmas
mod EndLemmas
mod StopLemmas
mod ServedLemmas
mod WorldLemmas
mod LeadLemmas
mod SeatLemmas
mod MakingLemmas
mod TableLemmas
mod PlainLemmas
mod BeginLemmas
mod RoundAskedLemmas
mod RoundStopLemmas
mod RoundShapeLemmas
mod RoundWorldLemmas
mod LoopLemmas
mod RollingLemmas
mod ModeLemmas
mod ThreadLemmas
mod SendLemmas
mod MeetLemmas
mod FeedLemmas
mod CallLemmas
