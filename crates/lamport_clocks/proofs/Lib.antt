pub mod StampLaws
pub mod ClockLaws
