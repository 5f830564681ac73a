pub mod Nodes
pub mod Turns
pub mod Kept
pub mod Gone
pub mod Growing
