-- Lemmas on shards and chains.
pub mod ChainLaws
pub mod ShardLaws
mod ChainLemmas
mod RecordLemmas
mod RehashLemmas
mod TouchLemmas
mod TouchedLemmas
mod ForgetLemmas
mod OrderLemmas
