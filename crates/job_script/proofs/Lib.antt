pub mod Balance
pub mod Steps
pub mod Sound
pub mod Inputs
