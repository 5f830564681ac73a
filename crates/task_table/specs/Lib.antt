pub mod Changes
pub mod Tasks
pub mod Standing
pub mod Parts
pub mod Lists
pub mod Tables
