pub mod Weights
pub mod Measure
pub mod Turns
pub mod Asks
pub mod Lighter
pub mod Settles
pub mod Changes
pub mod Bounded
