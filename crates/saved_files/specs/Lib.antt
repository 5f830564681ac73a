pub mod Filling
pub mod Kept
pub mod Rows
pub mod Saving
