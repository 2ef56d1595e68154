-- The words of this crate's contracts.
pub mod Bundle
pub mod Progress
pub mod Extent
pub mod Finds
pub mod Unfinished
pub mod FrameBuffer
pub mod Splitter
pub mod WholeBundle
pub mod Reading
pub mod Reader
