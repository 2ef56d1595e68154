-- The report of a bundle and what it means, in reading order.
pub mod Logs
pub mod Logged
pub mod Report
pub mod BundleReport
pub mod Answer
pub mod Headline
pub mod RunReport
pub mod Judged
pub mod SoFar
