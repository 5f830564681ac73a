pub mod Jobs
pub mod Plan
