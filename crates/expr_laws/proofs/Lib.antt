pub mod Excluded
mod OneCause
pub mod Elements
