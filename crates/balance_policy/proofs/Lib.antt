pub mod Levels
pub mod Idling
pub mod Dropping
pub mod Stealing
pub mod SmallLemmas
