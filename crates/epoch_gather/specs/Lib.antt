pub mod Parts
pub mod Verdict
pub use Rattle.multiset_sum.specs
