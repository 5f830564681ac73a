pub mod Fits
pub mod Eval
