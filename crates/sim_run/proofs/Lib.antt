pub mod Ending
pub mod Given
pub mod Got
pub mod MannedLemmas
pub mod Simulating
pub mod Stops
pub mod Wanted
