pub mod Costs
pub mod Candidates
