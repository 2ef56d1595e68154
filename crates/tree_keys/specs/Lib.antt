-- What the clauses on paths cite: bits and the numbers they spell, and how paths lie to each other.
pub mod Bits
pub mod Path
pub mod BitsLaws
