pub mod Sums
pub mod Plans
pub mod Results
