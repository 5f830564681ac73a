pub mod Boxes
pub mod Uses
pub mod Needed
pub mod Widening
