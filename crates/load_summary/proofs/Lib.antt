-- Tallies of operations in a row, operations as they are counted, and lines of workers in a row.
pub mod CountingLaws
mod TallyLemmas
mod CountedLemmas
mod SummaryLemmas
