pub mod Gathering
pub mod Holding
pub mod Keeping
pub mod Marking
pub mod Stepping
pub mod Writing
