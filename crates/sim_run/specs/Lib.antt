pub mod Simulated
pub mod Jobs
pub mod Texts
pub mod Ends
pub mod Saving
pub mod Serving
