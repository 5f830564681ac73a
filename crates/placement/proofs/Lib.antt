pub mod BestSoFar
pub mod Totals
pub mod Placing
