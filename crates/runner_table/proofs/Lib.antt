pub mod Plans
pub mod Played
pub mod Values
