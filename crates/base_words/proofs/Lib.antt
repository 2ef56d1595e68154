-- Laws of steps, for the crates above.
pub mod StepLaws
