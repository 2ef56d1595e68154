pub mod WorkLaws
pub mod ClockLaws
pub mod HistoryLaws
pub mod HandLaws
pub mod ScanLaws
mod WaitLemmas
mod ToldLemmas
mod JoinLemmas
mod SceneLemmas
mod StepLemmas
mod WordLemmas
mod BesideLemmas
mod AloneLemmas
mod PlaceLemmas
mod EpochLemmas
mod StopLemmas
mod SeatLemmas
mod EndLemmas
mod HandLemmas
