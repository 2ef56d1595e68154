-- What the laws of runs that go on cite, in reading order.
pub mod Base
pub mod Kept
