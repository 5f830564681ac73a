pub mod Evaluations
pub mod Kept
pub mod Slots
pub mod Uses
pub mod Writes
