pub mod Making
pub mod Naming
pub mod Runs
pub mod Sinks
