-- What the proofs of this crate rest on.
mod DueLemmas
mod HandingLemmas
mod LowestLemmas
mod StandingLemmas
mod RoundLemmas
mod RunningLemmas
mod PassingLemmas
mod ClosingLemmas
mod EndingLemmas
mod CutLemmas
mod CallLemmas
mod NothingLemmas
