pub mod Stored
pub mod Peers
pub mod Steps
pub mod CoreState
pub mod Table
pub mod Kept
pub mod Inner
