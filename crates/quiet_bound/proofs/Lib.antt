mod Capped
pub mod WorldBound
