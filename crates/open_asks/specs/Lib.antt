pub mod Kept
pub mod Flying
