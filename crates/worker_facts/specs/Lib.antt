pub mod Stored
pub mod Table
