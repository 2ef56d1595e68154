-- What the clauses on plans cite, in reading order.
pub mod Moments
pub mod Visit
pub mod Request
pub mod Plan
pub mod Setup
pub use Rattle.host_shard.specs
pub use Rattle.log_codec.specs as log_codec_specs
