-- Lemmas on seals.
mod CodecLaws
mod RowLaws
mod FieldCodecs
mod EntryLaws
mod SumLaws
mod OperationLaws
mod RunLaws
mod HeaderLaws
mod SealLaws
mod HeadLemmas
mod WriteLemmas
mod FrontLemmas
mod NumberLaws
mod MeaningLaws
mod StandingLaws
