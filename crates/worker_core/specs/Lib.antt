pub mod Core
pub mod Inner
pub mod Moves
pub mod Runs
