pub mod Dags
pub mod Jobs
pub mod Labels
pub mod Scripts
pub mod Shape
pub mod Stored
pub mod Values
