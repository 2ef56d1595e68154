-- What a table tells of a phase and of a round, as the machine sees it, in reading order.
pub mod Servings
pub mod Phases
pub mod Mirroring
pub mod Rounds
pub mod RoundMirroring
