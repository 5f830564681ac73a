pub mod Histories
pub mod Turns
pub mod Ticks
pub mod Rows
