-- What the clauses on feeds cite.
pub mod Parcels
pub mod Feeds
pub use Rattle.host_rounds.specs
