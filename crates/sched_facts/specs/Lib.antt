pub mod Stored
pub mod Stores
pub mod Kept
pub mod Tables
pub mod Derived
pub mod Pairs
pub mod Sheets
