mod RoomLemmas
pub mod VerdictLaws
