pub mod Links
pub mod Parts
pub mod Plan
pub mod Table
