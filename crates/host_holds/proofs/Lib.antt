-- How the laws on held values are proved, in reading order.
mod ChainLemmas
pub mod HotLaws
pub mod HeldLaws
