-- What the clauses on a host's log cite.
pub mod Frames
