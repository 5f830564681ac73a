pub mod Paths
pub mod OneReading
pub mod Counts
pub mod OneJob
pub mod OneRefusal
