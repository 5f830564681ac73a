pub mod Spread
pub mod Spreads
