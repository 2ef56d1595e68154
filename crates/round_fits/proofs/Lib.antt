-- How the rolling shipped host is shown to be steady, its round to be one list of events, and nothing of it to be hot, in reading order.
pub mod ScanLaws
mod RoundLemmas
pub mod VacantLaws
