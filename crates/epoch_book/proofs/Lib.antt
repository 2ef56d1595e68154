mod ListLemmas
mod StepLemmas
mod NumberLemmas
mod PassLemmas
mod SettledLemmas
