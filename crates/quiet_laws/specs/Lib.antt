pub mod Old
pub mod Events
pub mod Copies
pub mod Calm
pub mod Quiet
