pub mod Unique
pub mod LinkLemmas
pub mod ListLemmas
