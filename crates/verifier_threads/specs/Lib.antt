-- How a script is served, up to its report or summary, in reading order.
pub mod InRounds
pub mod Serving
pub mod Running
pub mod Runners
pub use Rattle.host_serving.specs
pub use Rattle.host_rounds.specs as host_rounds_specs
