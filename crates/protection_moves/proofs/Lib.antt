-- How moves are proved, in reading order.
pub mod RenewingLaws
pub mod TouchedLaws
pub mod TransferLaws
mod CountingLemmas
mod PlaceLemmas
mod SavingLemmas
mod PromotableLemmas
mod LowestLemmas
mod DescentLemmas
mod DoneLemmas
mod MoveLemmas
